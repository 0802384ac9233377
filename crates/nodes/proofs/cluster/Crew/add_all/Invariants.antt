use Rattle.std.proofs.Common.{◌≡◌, ◌≤◌, ◌+◌, All}
use Rattle.std.specs.Vec.Iter.{into_iter_items, into_iter_len}
use Rattle.sqlread.specs.Meaning.{language_of}
use Rattle.nodes.proofs.cluster.Crew.add_all.Given as goal

abbrev pub invariant-loop-image : goal.invariant-loop-image
invariant-loop-image g l = All (λ image. g.K.Keeper.suits image l.members (language_of l.schema)) (into_iter_items l.image-iterator) × (l.me + into_iter_len l.image-iterator ≡ l.members) × (l.members ≤ 7)
