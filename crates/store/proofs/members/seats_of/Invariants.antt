use Rattle.std.proofs.Common.{◌≡◌}
use Rattle.store.specs.Opening.{AreLaid, there_in}
use Rattle.store.specs.Pasts.{told_by}
use Rattle.store.proofs.members.seats_of.Given as goal

abbrev pub invariant-loop-image : goal.invariant-loop-image
invariant-loop-image g l = record {
  laid : AreLaid (told_by l.past) l.yielded l.seats.items;
  there : l.there ≡ there_in l.yielded;
}
