use Rattle.std.proofs.Common.{◌≡◌}
use Rattle.world.specs.Run.{tables_in}
use Rattle.moments.specs.View.{IsLive}
use Rattle.report.proofs.stuck.follow_some.Given as goal

abbrev pub invariant-loop-moment : goal.invariant-loop-moment
invariant-loop-moment l = record {
  count : l.followed ≡ l.moment-index;
  live : IsLive l.replay;
  tables : l.evidence.schema.now ≡ tables_in l.replay.world;
}
