use Rattle.std.proofs.Common.{◌≡◌, ℕ, List, Option, length}
use Rattle.storefolder.specs.Hearing.{AreTold}
use Rattle.storefolder.proofs.journals.tell_each.Given as goal

abbrev pub invariant-loop-before : goal.invariant-loop-before
invariant-loop-before g l = (before : Option ℕ) × (texts : List (List ℕ)) × AreTold g.H.Hears.hears before texts l.initial.hearer l.hearer l.sum × (length texts ≡ l.before)
