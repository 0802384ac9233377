-- What is sealed, and when that rose.
use Rattle.std.proofs.Common.{◌≡◌, ℕ, Option, Some, None, refl, arith}
use Rattle.std.proofs.lemmas.Bool.{le-ltb}
use Rattle.node.specs.View.{risen}

-- it did not rise where it stayed
pub risen_same : (s : Option ℕ) → None ≡ risen s s
risen_same None = refl
risen_same (Some t) = rw (le-ltb t t (omega arith)) refl
