-- Quotes undoubled byte by byte.
use Rattle.std.proofs.Common.{◌≡◌, ℕ, nat_eq, Bool, true, false, [], ◌∷◌, refl, sym, ap, ◌∙◌, inl, inr}
use Rattle.std.specs.Prelude.{◌&&◌, if◌then◌else◌}
use Rattle.std.proofs.lemmas.Bool.{eqb-true, cases_Bool, and_parts}
use Rattle.namesyntax.specs.Names.{Bytes}
use Rattle.sqlchecks.specs.Literals.{undoubled}
use Rattle.sqlchecks.proofs.Choices.{if_true, if_false}

-- the bytes without each second quote of a pair, where the byte before them was a first quote or not
abbrev pub left_over : Bool → Bytes → Bytes
left_over after_quote [] = []
left_over after_quote (b ∷ bs) = if nat_eq b 39 && after_quote then left_over false bs else b ∷ left_over (nat_eq b 39) bs

no_pair : (b : ℕ) (bs : Bytes) → left_over false (b ∷ bs) ≡ b ∷ left_over (nat_eq b 39) bs
no_pair b bs = if_false (nat_eq b 39 && false) (left_over false bs) (b ∷ left_over (nat_eq b 39) bs) (and_false (nat_eq b 39)) where
  and_false : (a : Bool) → (a && false) ≡ false
  and_false true = refl
  and_false false = refl

and_swap : (a b : Bool) → (a && b) ≡ (b && a)
and_swap true true = refl
and_swap true false = refl
and_swap false true = refl
and_swap false false = refl

pub undoubled_is : (bs : Bytes) → undoubled bs ≡ left_over false bs
unfolding undoubled
undoubled_is [] = refl
undoubled_is (b ∷ []) = sym (no_pair b [])
undoubled_is (b ∷ c ∷ bs) = elim (cases_Bool (nat_eq b 39 && nat_eq c 39)) [
  | inl h ↦
      let q = eqb-true b 39 (and_parts (nat_eq b 39) (nat_eq c 39) h).0 in
      if_true (nat_eq b 39 && nat_eq c 39) (39 ∷ undoubled bs) (b ∷ undoubled (c ∷ bs)) h
      ∙ ap (λ (k : ℕ). k ∷ undoubled bs) (sym q) ∙ ap (λ (l : Bytes). b ∷ l) (undoubled_is bs)
      ∙ ap (λ (l : Bytes). b ∷ l) (sym (if_true (nat_eq c 39 && nat_eq b 39) (left_over false bs) (c ∷ left_over (nat_eq c 39) bs) (and_swap (nat_eq c 39) (nat_eq b 39) ∙ h)))
      ∙ sym (no_pair b (c ∷ bs))
  | inr h ↦
      if_false (nat_eq b 39 && nat_eq c 39) (39 ∷ undoubled bs) (b ∷ undoubled (c ∷ bs)) h
      ∙ ap (λ (l : Bytes). b ∷ l) (undoubled_is (c ∷ bs) ∙ no_pair c bs)
      ∙ ap (λ (l : Bytes). b ∷ l) (sym (if_false (nat_eq c 39 && nat_eq b 39) (left_over false bs) (c ∷ left_over (nat_eq c 39) bs) (and_swap (nat_eq c 39) (nat_eq b 39) ∙ h)))
      ∙ sym (no_pair b (c ∷ bs))
]
