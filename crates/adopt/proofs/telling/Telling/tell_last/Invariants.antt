use Rattle.std.proofs.Common.{◌≡◌, ◌++◌}
use Rattle.moments.specs.View.{past_of, IsSameRun}
use Rattle.adopt.specs.Spelled.{last_lines}
use Rattle.adopt.proofs.telling.Telling.tell_last.Given as goal

abbrev pub invariant-loop-at : goal.invariant-loop-at
invariant-loop-at l = record {
  lines : l.self.lines.items ≡ l.initial.self.lines.items ++ last_lines (past_of l.initial.self.replay).world l.at;
  run : IsSameRun l.initial.self.replay l.self.replay;
}
