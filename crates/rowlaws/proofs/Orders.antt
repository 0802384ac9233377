-- Orders that compare one thing, and then another.
use Rattle.std.proofs.Common.{◌≡◌, ℕ, ◌<◌, ◌⊎◌, inl, inr, refl, sym, ◌∙◌, Ordering}
use Rattle.std.specs.declared.cmp.Ordering.TheVariants.{Less, Equal, Greater}
use Rattle.std.specs.Ordering.{ordering_then, nat_cmp}
use Rattle.std.specs.Cmp.{nat_cmp_is}
use Rattle.std.proofs.lemmas.Bool.{cases_order}

pub then_equal : (a b : Ordering) → ordering_then a b ≡ Equal → (a ≡ Equal) × (b ≡ Equal)
then_equal Less b h = cc
then_equal Equal b h = (refl, h)
then_equal Greater b h = cc

pub then_less : (a b : Ordering) → ordering_then a b ≡ Less → (a ≡ Less) ⊎ ((a ≡ Equal) × (b ≡ Less))
then_less Less b h = inl refl
then_less Equal b h = inr (refl, h)
then_less Greater b h = absurd (cc)

pub nat_equal : (a b : ℕ) → nat_cmp a b ≡ Equal → a ≡ b
nat_equal a b h = elim (cases_order a b) [
  | inl e ↦ e
  | inr o ↦ elim o [ inl l ↦ let q : Equal ≡ Less = sym h ∙ sym (nat_cmp_is a b Less l) in absurd (cc) | inr g ↦ let q : Equal ≡ Greater = sym h ∙ sym (nat_cmp_is a b Greater g) in absurd (cc) ]
]

pub nat_less : (a b : ℕ) → nat_cmp a b ≡ Less → a < b
nat_less a b h = elim (cases_order a b) [
  | inl e ↦ let q : Less ≡ Equal = sym h ∙ sym (nat_cmp_is a b Equal e) in absurd (cc)
  | inr o ↦ elim o [ inl l ↦ l | inr g ↦ let q : Less ≡ Greater = sym h ∙ sym (nat_cmp_is a b Greater g) in absurd (cc) ]
]

pub nat_itself : (a : ℕ) → nat_cmp a a ≡ Equal
nat_itself a = sym (nat_cmp_is a a Equal refl)
