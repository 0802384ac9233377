use Rattle.std.proofs.Common.{◌<◌, ◌≤◌, length}
use Rattle.world.specs.Run.{member_of}
use Rattle.world.specs.View.{if_up}
use Rattle.report.specs.Deciding.{IsSameWorld}
use Rattle.report.proofs.Filling.{Filled}
use Rattle.report.proofs.settled.add_applied.Given as goal

abbrev pub invariant-loop-place : goal.invariant-loop-place
invariant-loop-place l = record {
  same : IsSameWorld l.initial.world l.world;
  list : Filled l.initial.list.items (if_up (member_of l.initial.world l.member)) l.place l.list.items;
  bound : length l.initial.list.items < l.place → l.place ≤ l.commit;
}
