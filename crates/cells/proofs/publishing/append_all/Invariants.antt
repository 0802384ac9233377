use Rattle.std.proofs.Common.{◌≡◌, ◌++◌, take}
use Rattle.view.specs.Publishing.{published, pending, given_of, IsSameLife}
use Rattle.cells.specs.Publishing.{marked}
use Rattle.cells.proofs.publishing.append_all.Given as goal

abbrev pub invariant-loop-entry : goal.invariant-loop-entry
invariant-loop-entry l = IsSameLife l.initial.publisher l.publisher × (given_of l.publisher ≡ given_of l.initial.publisher) × (published l.publisher ≡ published l.initial.publisher) × (pending l.publisher ≡ pending l.initial.publisher ++ marked l.mark (take l.entry-index l.entries))
