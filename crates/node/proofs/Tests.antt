-- Two tests, both passed; and a fact with one proof at most.
use Rattle.std.proofs.Common.{◌≡◌, Bool, true, false, ◌&&◌, refl}
use Rattle.std.proofs.Math.Logic.{∥∥₁_elim}

pub parts : (a b : Bool) → (a && b) ≡ true → (a ≡ true) × (b ≡ true)
parts true b e = (refl, e)
parts false b e = absurd (cc e)

pub joint : (a b : Bool) → a ≡ true → b ≡ true → (a && b) ≡ true
joint a b e f = rw (e, f) refl

pub known : {P : Type 0} → IsProp P → ∥ P ∥₁ → P
known once h = ∥∥₁_elim h once (λ p. p)
