-- Lemmas on words that spell numbers.
use Rattle.std.proofs.Common.{◌≡◌, ◌≢◌, ◌∙◌, ℕ, zero, suc, ◌+◌, ◌^◌, ◌<◌, ℤ, pos, negsuc, List, ◌∷◌, length, get_or, drop, refl, sym, ap, arith, true, Result, Ok, Err, None, Some, Option, add-one}
use Rattle.std.specs.Prelude.{decimal, IfOk}
use Rattle.std.specs.Fmt.{signed_decimal}
use Rattle.std.specs.Int.{IsInRange}
use Rattle.std.specs.Result.{OkIff}
use Rattle.std.specs.Str.{all_ascii_digits}
use Rattle.std.specs.Str.Parse.{digits_value, ParsesUnsigned}
use Rattle.std.proofs.lemmas.Str.Parse.{IsNumeralModel, numerals_by_value, tells_all_ascii_digits, parse_plain, not_in_digits}
use Rattle.std.proofs.lemmas.Fmt.{decimal-digits_value, digits_decimal, decimal_nonempty, first_decimal, decimal_digit}
use Rattle.lines.specs.Number.{IsBare, IsSigned}

pub own : IsNumeralModel (λ ds. all_ascii_digits ds ≡ true) (digits_value 10)
own = numerals_by_value _ tells_all_ascii_digits

-- what a bare word parses to, it spells
pub spelled : {E : Type 0} (bs : List ℕ) (r : Result ℕ E) → ParsesUnsigned 64 10 bs r → IsBare bs → IfOk r (λ n. bs ≡ decimal n)
spelled {E} bs (Ok n) h bare = let p = parse_plain own {E = E} 64 bs (Ok n) h bare.0 in sym (ap decimal p.1 ∙ decimal-digits_value own bs p.0.0 p.0.1 bare.1 p.0.2)
spelled {E} bs (Err e) h bare = tt

pub outside : (c : ℕ) → c < 48 → ¬ (IsInRange 48 57 c)
outside c low = λ h. absurd (omega arith)

no_sign : (n c : ℕ) → n < 2 ^ 64 → c < 48 → get_or (decimal n) 0 0 ≢ c
no_sign n c small low = not_in_digits own (decimal n) c (digits_decimal own n small) (outside c low) 0 (decimal_nonempty n small)

one_zero : (n : ℕ) → n < 2 ^ 64 → get_or (decimal n) 0 0 ≡ 48 → length (decimal n) ≡ 1
one_zero zero small first = ap length (decimal_digit 0 (omega arith))
one_zero (suc n) small first = let some : 48 < get_or (decimal (suc n)) 0 0 = first_decimal (suc n) (omega arith) small in absurd (omega arith)

-- what is printed of a number is bare
pub bare_decimal : (n : ℕ) → n < 2 ^ 64 → IsBare (decimal n)
bare_decimal n small = (no_sign n 43 small (omega arith), one_zero n small)

-- a word with a minus spells a number below zero
pub below_zero : (z : ℤ) (word digits : List ℕ) → IsSigned z → word ≡ 45 ∷ digits → word ≡ signed_decimal z
    → (k : ℕ) × (k < 2 ^ 63) × (digits ≡ decimal (k + 1)) × (z ≡ negsuc k)
below_zero (pos n) word digits small minus e =
    let first : get_or (decimal n) 0 0 ≡ 45 = ap (λ l. get_or l 0 0) (sym e ∙ minus) in absurd (no_sign n 45 (omega arith) (omega arith) first)
below_zero (negsuc k) word digits small minus e = (k, small, ap (drop 1) (sym minus ∙ e) ∙ ap decimal (sym (add-one k)), refl)

-- a word without a minus spells no number below zero
pub not_below_zero : (z : ℤ) (word : List ℕ) → IsSigned z → ((rest : List ℕ) → word ≢ 45 ∷ rest) → word ≡ signed_decimal z
    → (n : ℕ) × (n < 2 ^ 63) × (word ≡ decimal n) × (z ≡ pos n)
not_below_zero (pos n) word small none e = (n, small, e, refl)
not_below_zero (negsuc k) word small none e = absurd (none (decimal (suc k)) e)

-- nothing is both there and not
pub never : {A : Type 0} (o : Option A) (x : A) → o ≡ None → o ≡ Some x → ⊥
never o x none some = let bad : None ≡ Some x = sym none ∙ some in cc

pub same_some : {A : Type 0} (o : Option A) (x y : A) → o ≡ Some x → o ≡ Some y → x ≡ y
same_some o x y this that = let both : Some x ≡ Some y = sym this ∙ that in cc

pub converted : {E : Type 0} (r : Result ℤ E) (P : Type 0) (v : ℤ) → OkIff r P v → P → r ≡ Ok v
converted (Ok x) P v h p = ap Ok h.1
converted (Err e) P v h p = absurd (h p)
