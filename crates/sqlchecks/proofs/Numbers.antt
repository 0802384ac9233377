-- The numbers that digits write.
use Rattle.std.proofs.Common.{◌≡◌, ℕ, ◌^◌, ◌<◌, ◌≤◌, true, false, nat_lt, nat_le, nat_eq, List, [], ◌∷◌, length, drop, Option, Some, None, Result, Ok, Err, sym, ap, ◌∙◌, arith, inl, inr, ℤ, pos, neg_ℤ, ◌-ℤ◌, ◌+ℤ◌}
use mir.Syntax.{w64}
use mir.Val.{SFits as FitsSigned}
use Rattle.std.specs.Option.{ok_or, SomeIff}
use Rattle.std.specs.Result.{result_ok}
use Rattle.std.specs.Char.{is_ascii_digit, digit_value}
use Rattle.std.specs.List.{list_all}
use Rattle.std.specs.Str.Parse.{AllDigits, IsNumeral, digits_value, without_leading_plus, ParsesUnsigned}
use Rattle.std.proofs.lemmas.Bool.{cases_Bool, and_parts}
use Rattle.std.proofs.lemmas.Bool.Decides.{nat_tests}
use Rattle.jiff_core.proofs.SignedLemmas.{signed_arith}
use Rattle.fault.specs.declared.refusal.Refusal.TheVariants.{OutOfRange}
use Rattle.sqlchecks.proofs.Choices.{if_true, if_false}
use Rattle.sqlchecks.specs.Literals.{unsigned, signed}

digit_low : (b : ℕ) → is_ascii_digit b ≡ true → digit_value b < 10
digit_low b e = grind (arith, nat_tests)

all_digits : (bs : List ℕ) → list_all is_ascii_digit bs ≡ true → AllDigits 10 bs
all_digits [] e = tt
all_digits (b ∷ bs) e = let k = and_parts (is_ascii_digit b) (list_all is_ascii_digit bs) e in (digit_low b k.0, all_digits bs k.1)

no_plus_at : (b : ℕ) → is_ascii_digit b ≡ true → nat_eq b 43 ≡ false
no_plus_at b e = grind (arith, nat_tests)

no_plus : (bs : List ℕ) → 0 < length bs → list_all is_ascii_digit bs ≡ true → without_leading_plus bs ≡ bs
no_plus [] some e = absurd (omega arith)
no_plus (b ∷ bs) some e =
    let k = and_parts (is_ascii_digit b) (list_all is_ascii_digit bs) e in
    ap (λ (n : ℕ). drop n (b ∷ bs)) (if_false (nat_eq b 43) 1 0 (no_plus_at b k.0))

below : (m n : ℕ) → nat_lt m n ≡ true → m < n
below m n h = grind (arith, nat_tests)

not_below : (m n : ℕ) → nat_lt m n ≡ false → n ≤ m
not_below m n h = grind (arith, nat_tests)

-- a number that u64 does not hold
too_big : (bs : List ℕ) → 0 < length bs → list_all is_ascii_digit bs ≡ true → (IsNumeral 10 (without_leading_plus bs) × (digits_value 10 (without_leading_plus bs) < 2 ^ 64) → ⊥) → 2 ^ 64 ≤ digits_value 10 bs
too_big bs some e none = elim (cases_Bool (nat_lt (digits_value 10 bs) (2 ^ 64))) [
  | inl h ↦ absurd (none (rw (no_plus bs some e) ((some, all_digits bs e), below (digits_value 10 bs) (2 ^ 64) h)))
  | inr h ↦ not_below (digits_value 10 bs) (2 ^ 64) h
]

-- ---- without a sign

fits_unsigned : (n : ℕ) → n < 2 ^ 64 → unsigned n ≡ Some n
unfolding unsigned
fits_unsigned n h = grind (arith, nat_tests)

none_unsigned : (n : ℕ) → 2 ^ 64 ≤ n → unsigned n ≡ None
unfolding unsigned
none_unsigned n h = grind (arith, nat_tests)

pub unsigned_is : {E : Type 0} (bs : List ℕ) (r : Result ℕ E) → 0 < length bs → list_all is_ascii_digit bs ≡ true → ParsesUnsigned 64 10 bs r → result_ok r ≡ unsigned (digits_value 10 bs)
unsigned_is bs (Ok n) some digits h =
    let whole : digits_value 10 (without_leading_plus bs) ≡ digits_value 10 bs = ap (digits_value 10) (no_plus bs some digits) in
    ap (λ (m : ℕ). Some m) (h.1 ∙ whole) ∙ sym (fits_unsigned (digits_value 10 bs) (omega (arith, h.0.1, whole)))
unsigned_is bs (Err e) some digits h = sym (none_unsigned (digits_value 10 bs) (too_big bs some digits h))

pub none_big : (n : ℕ) → None ≡ unsigned n → 2 ^ 64 ≤ n
none_big n e = elim (cases_Bool (nat_lt n (2 ^ 64))) [
  | inl h ↦ absurd (let f : None ≡ Some n = e ∙ fits_unsigned n (below n (2 ^ 64) h) in cc)
  | inr h ↦ not_below n (2 ^ 64) h
]

pub some_is : (m n : ℕ) → Some m ≡ unsigned n → m ≡ n
some_is m n e = elim (cases_Bool (nat_lt n (2 ^ 64))) [
  | inl h ↦ let f : Some m ≡ Some n = e ∙ fits_unsigned n (below n (2 ^ 64) h) in cc
  | inr h ↦ absurd (let f : Some m ≡ None = e ∙ none_unsigned n (not_below n (2 ^ 64) h) in cc)
]

-- ---- with a sign

pub big_refused : (minus : Option (Unit {0})) (n : ℕ) → 2 ^ 64 ≤ n → Err OutOfRange ≡ signed minus n
unfolding signed
big_refused None n le = sym (if_false (nat_lt n 9_223_372_036_854_775_808) (Ok (pos n)) (Err OutOfRange) (grind (arith, nat_tests)))
big_refused (Some u) n le = sym (if_false (nat_le n 9_223_372_036_854_775_808) (Ok (neg_ℤ (pos n))) (Err OutOfRange) (grind (arith, nat_tests)))

pub negative_is : (o : Option ℤ) (n : ℕ) → SomeIff o (FitsSigned w64 (pos 0 -ℤ pos n)) (pos 0 -ℤ pos n) → ok_or o OutOfRange ≡ signed (Some tt) n
unfolding signed
negative_is None n none = elim (cases_Bool (nat_le n 9_223_372_036_854_775_808)) [
  | inl h ↦ absurd (none (fits n (grind (arith, nat_tests))))
  | inr h ↦ sym (if_false (nat_le n 9_223_372_036_854_775_808) (Ok (neg_ℤ (pos n))) (Err OutOfRange) h)
] where
  fits : (n : ℕ) → n ≤ 9_223_372_036_854_775_808 → FitsSigned w64 (pos 0 -ℤ pos n)
  fits n le = omega (arith, signed_arith)
negative_is (Some x) n h =
    let le : n ≤ 9_223_372_036_854_775_808 = omega (arith, signed_arith, h.0) in
    let v : x ≡ neg_ℤ (pos n) = omega (arith, signed_arith, h.1) in
    ap (λ (z : ℤ). Ok z) v ∙ sym (if_true (nat_le n 9_223_372_036_854_775_808) (Ok (neg_ℤ (pos n))) (Err OutOfRange) (grind (arith, nat_tests)))

pub positive_is : (o : Option ℤ) (n : ℕ) → SomeIff o (FitsSigned w64 (pos 0 +ℤ pos n)) (pos 0 +ℤ pos n) → ok_or o OutOfRange ≡ signed None n
unfolding signed
positive_is None n none = elim (cases_Bool (nat_lt n 9_223_372_036_854_775_808)) [
  | inl h ↦ absurd (none (fits n (grind (arith, nat_tests))))
  | inr h ↦ sym (if_false (nat_lt n 9_223_372_036_854_775_808) (Ok (pos n)) (Err OutOfRange) h)
] where
  fits : (n : ℕ) → n < 9_223_372_036_854_775_808 → FitsSigned w64 (pos 0 +ℤ pos n)
  fits n le = omega (arith, signed_arith)
positive_is (Some x) n h =
    let lt : n < 9_223_372_036_854_775_808 = omega (arith, signed_arith, h.0) in
    let v : x ≡ pos n = omega (arith, signed_arith, h.1) in
    ap (λ (z : ℤ). Ok z) v ∙ sym (if_true (nat_lt n 9_223_372_036_854_775_808) (Ok (pos n)) (Err OutOfRange) (grind (arith, nat_tests)))
