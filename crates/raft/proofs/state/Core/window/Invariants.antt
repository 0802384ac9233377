use Rattle.std.proofs.Common.{◌≡◌, ◌+◌, ◌-◌, ◌≤◌, true, take, drop}
use Rattle.raft.specs.View.{log_of}
use Rattle.raft.specs.Reading.{IsRead}
use Rattle.raft.proofs.state.Core.window.Given as goal

abbrev pub invariant-loop-place : goal.invariant-loop-place
invariant-loop-place g l = record {
  seen : g.S.LogReader.is_honest l.reader → l.window.items ≡ take (l.place - l.first) (drop l.first (log_of l.self (g.S.LogReader.stored l.initial.reader).log));
  reader : IsRead (g.S.LogReader.is_honest l.initial.reader) (g.S.LogReader.is_honest l.reader) (g.S.LogReader.stored l.initial.reader) (g.S.LogReader.stored l.reader) (g.S.LogReader.may_hold l.initial.reader) (g.S.LogReader.may_hold l.reader) (g.S.LogReader.serves l.initial.reader) (g.S.LogReader.serves l.reader) (g.S.LogReader.failed l.initial.reader) (g.S.LogReader.failed l.reader) (g.S.LogReader.saves l.initial.reader) (g.S.LogReader.saves l.reader) (g.S.LogReader.came_from l.initial.reader) (g.S.LogReader.came_from l.reader);
  up : g.S.LogReader.is_up l.reader ≡ true;
  asks : g.S.LogReader.asks l.reader + l.first ≤ g.S.LogReader.asks l.initial.reader + l.place;
}
