-- What stands in the text of a number.
use Rattle.std.proofs.Common.{◌≡◌, ◌≢◌, ℕ, zero, suc, ◌<◌, ◌^◌, ℤ, pos, negsuc, List, [], ◌∷◌, ◌++◌, length, get_or, refl, sym, ap, arith, ◌∙◌, Option, None, Some, true}
use Rattle.std.specs.Prelude.{decimal, IfSome, IfNone}
use Rattle.std.specs.Fmt.{signed_decimal}
use Rattle.std.specs.Int.{IsInRange}
use Rattle.std.specs.Str.{all_ascii_digits}
use Rattle.std.specs.Str.Parse.{digits_value}
use Rattle.std.proofs.lemmas.Str.Parse.{IsNumeralModel, numerals_by_value, tells_all_ascii_digits, not_in_digits}
use Rattle.std.proofs.lemmas.Str.Pattern.{IsSplitOnceResult, split_after}
use Rattle.std.proofs.lemmas.Fmt.{digits_decimal, decimal_nonempty}
use denote.Ref.{Bor}
use Rattle.lines.specs.Number.{IsSigned}
use Rattle.flight.specs.Spelling.{number_text}
use Rattle.flight.specs.Reading.{Lacks}

own : IsNumeralModel (λ ds. all_ascii_digits ds ≡ true) (digits_value 10)
own = numerals_by_value _ tells_all_ascii_digits

below : (c : ℕ) → c < 48 → ¬ (IsInRange 48 57 c)
below c low = λ h. absurd (omega arith)

above : (c : ℕ) → 57 < c → ¬ (IsInRange 48 57 c)
above c high = λ h. absurd (omega arith)

pub decimal_lacks : (end n : ℕ) → n < 2 ^ 64 → end < 48 → Lacks end (decimal n)
decimal_lacks end n small low = not_in_digits own (decimal n) end (digits_decimal own n small) (below end low)

lacks_cons : (end c : ℕ) (cs : List ℕ) → c ≢ end → Lacks end cs → Lacks end (c ∷ cs)
lacks_cons end c cs first h zero lt = first
lacks_cons end c cs first h (suc i) lt = h i (omega (arith, lt))

-- no sign, which is 45, nor a digit is below 45
pub signed_lacks : (end : ℕ) (z : ℤ) → end < 45 → IsSigned z → Lacks end (signed_decimal z)
signed_lacks end (pos n) low small = decimal_lacks end n (omega (arith, small)) (omega (arith, low))
signed_lacks end (negsuc k) low small = lacks_cons end 45 (decimal (suc k)) (λ e. absurd (omega (arith, low, e))) (decimal_lacks end (suc k) (omega (arith, small)) (omega (arith, low)))

first_of : (ds more : List ℕ) → 0 < length ds → get_or (ds ++ more) 0 0 ≡ get_or ds 0 0
first_of [] more some = absurd (omega (arith, some))
first_of (d ∷ ds) more some = refl

-- no number begins with a byte above the digits
pub not_number : (c : ℕ) (word : List ℕ) (end n : ℕ) (rest : List ℕ) → 57 < c → n < 2 ^ 64 → c ∷ word ≡ number_text end n rest → ⊥
not_number c word end n rest high small e =
    let some : 0 < length (decimal n) = decimal_nonempty n small in
    not_in_digits own (decimal n) c (digits_decimal own n small) (above c high) 0 some
    (sym (first_of (decimal n) (end ∷ rest) some) ∙ ap (λ l. get_or l 0 0) (sym e))

module _ (end : ℕ) (text : List ℕ) (low : end < 48) where
  pub split_only : (r : Option (Bor (List ℕ) × Bor (List ℕ))) → IsSplitOnceResult end text r
      → IfSome r (λ p. (word other : List ℕ) → Lacks end word → text ≡ word ++ end ∷ other → (p.0.now ≡ word) × (p.1.now ≡ other))
  split_only (Some x) h = λ word other lacks e. split_after end text word other (Some x) h (omega (arith, low)) e lacks
  split_only None h = tt

  pub split_none : (r : Option (Bor (List ℕ) × Bor (List ℕ))) → IsSplitOnceResult end text r
      → IfNone r ((word other : List ℕ) → Lacks end word → text ≢ word ++ end ∷ other)
  split_none (Some x) h = tt
  split_none None h = λ word other lacks e. split_after end text word other None h (omega (arith, low)) e lacks
