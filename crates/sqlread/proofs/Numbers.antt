-- The numbers that digits write.
use Rattle.std.proofs.Common.{◌≡◌, ℕ, ◌^◌, ◌<◌, true, nat_lt, List, length, Result, Err, sym, arith, rules, inl, inr, OkIff}
use Rattle.std.specs.Char.{is_ascii_digit}
use Rattle.std.specs.List.{list_all}
use Rattle.std.specs.Str.Parse.{ParsesUnsigned, digits_value}
use Rattle.std.proofs.lemmas.Bool.{cond-false, le-ltb, cases_lt}
use Rattle.std.proofs.lemmas.Str.Parse.{IsDigitsTest, IsNumeralModel, numerals_by_value, parse_digits}
use Rattle.fault.specs.declared.refusal.Refusal.TheVariants.{OutOfRange}
use Rattle.sqlread.specs.Changes.{amount}

are_digits : List ℕ → Type 0
are_digits bs = list_all is_ascii_digit bs ≡ true

tells_digits : IsDigitsTest are_digits
unfolding are_digits
tells_digits = search rules

numerals : IsNumeralModel are_digits (digits_value 10)
numerals = numerals_by_value are_digits tells_digits

-- what digits are read as, where a number of 64 bits holds it
digits_read : {E : Type 0} (bs : List ℕ) (r : Result ℕ E) → ParsesUnsigned 64 10 bs r → list_all is_ascii_digit bs ≡ true → OkIff r ((0 < length bs) × (digits_value 10 bs < 2 ^ 64)) (digits_value 10 bs)
unfolding are_digits
digits_read bs r h all = parse_digits numerals 64 bs r h all

-- a number that is too large is refused
amount_past : (bs : List ℕ) → 9_223_372_036_854_775_807 < digits_value 10 bs → Err OutOfRange ≡ amount bs
unfolding amount
amount_past bs lt = sym (cond-false (nat_lt (digits_value 10 bs) 9_223_372_036_854_775_808) _ _ (le-ltb _ _ (omega arith)))

-- digits that 64 bits do not hold are refused
pub unread_is : {E : Type 0} (bs : List ℕ) (e : E) → ParsesUnsigned 64 10 bs (Err e) → 0 < length bs → list_all is_ascii_digit bs ≡ true → Err OutOfRange ≡ amount bs
unread_is bs e h some all = elim (cases_lt (digits_value 10 bs) (2 ^ 64)) [
  | inl lt ↦ absurd (digits_read bs (Err e) h all (some, lt))
  | inr ge ↦ amount_past bs (omega arith)
]
