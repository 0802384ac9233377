use Rattle.std.proofs.Common.{◌≡◌, take}
use Rattle.model.specs.Agreement.{longest}
use Rattle.world.specs.Run.{now_of}
use Rattle.report.specs.Deciding.{IsSameWorld}
use Rattle.report.proofs.settled.add_all.Given as goal

abbrev pub invariant-loop-place : goal.invariant-loop-place
invariant-loop-place l = record {
  same : IsSameWorld l.initial.world l.world;
  list : l.list.items ≡ longest l.initial.list.items (take l.place (now_of l.initial.world).nodes);
}
