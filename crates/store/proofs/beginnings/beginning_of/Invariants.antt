use Rattle.std.proofs.Common.{ℕ, ◌<◌, List}
use Rattle.model.specs.declared.entry.Entry.{Entry}
use Rattle.store.specs.HeldAt.{BeginsAt}
use Rattle.store.proofs.beginnings.beginning_of.Given as goal

abbrev pub invariant-loop-other : goal.invariant-loop-other
invariant-loop-other l = (i : ℕ) → i < l.other → (first : List Entry) → BeginsAt l.held l.stored first i → ⊥
