use Rattle.std.proofs.Common.{◌≡◌, ◌+◌, ◌≤◌, true, take}
use Rattle.raft.specs.Reading.{IsRead}
use Rattle.node.proofs.reading.all_entries.Given as goal

abbrev pub invariant-loop-before : goal.invariant-loop-before
invariant-loop-before g l = record {
  read : g.S.LogReader.is_honest l.reader → l.log.items ≡ take l.before (g.S.LogReader.stored l.initial.reader).log;
  reader : IsRead (g.S.LogReader.is_honest l.initial.reader) (g.S.LogReader.is_honest l.reader) (g.S.LogReader.stored l.initial.reader) (g.S.LogReader.stored l.reader) (g.S.LogReader.may_hold l.initial.reader) (g.S.LogReader.may_hold l.reader) (g.S.LogReader.serves l.initial.reader) (g.S.LogReader.serves l.reader) (g.S.LogReader.failed l.initial.reader) (g.S.LogReader.failed l.reader) (g.S.LogReader.saves l.initial.reader) (g.S.LogReader.saves l.reader) (g.S.LogReader.came_from l.initial.reader) (g.S.LogReader.came_from l.reader);
  up : g.S.LogReader.is_up l.reader ≡ true;
  asks : g.S.LogReader.asks l.reader ≤ g.S.LogReader.asks l.initial.reader + l.before;
}
