use Rattle.std.proofs.Common.{◌≡◌, take}
use Rattle.world.specs.Run.{member_of}
use Rattle.moments.specs.Behind.{log_in}
use Rattle.moments.specs.View.{IsSameRun}
use Rattle.moments.proofs.replay.Replay.has_entries.Given as goal

abbrev pub invariant-loop-place : goal.invariant-loop-place
invariant-loop-place l = record {
  taken : take l.place (log_in (member_of l.initial.self.world l.node)) ≡ take l.place l.entries;
  same : IsSameRun l.initial.self l.self;
}
