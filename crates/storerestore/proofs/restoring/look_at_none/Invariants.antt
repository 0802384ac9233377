use Rattle.std.proofs.Common.{◌≡◌, length}
use Rattle.std.specs.List.{All}
use Rattle.storerestore.specs.Looking.{unreadable}
use Rattle.storerestore.specs.declared.looking.Looked.{Looked}
use Rattle.storerestore.proofs.restoring.look_at_none.Given as goal

abbrev pub invariant-loop-before : goal.invariant-loop-before
invariant-loop-before l = (length l.all.items ≡ l._before) × All (λ (looked : Looked). looked ≡ unreadable) l.all.items
