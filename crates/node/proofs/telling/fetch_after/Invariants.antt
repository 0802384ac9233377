use Rattle.std.proofs.Common.{◌≡◌, ◌+◌, ◌≤◌, true, length, slice_range}
use Rattle.raft.specs.Reading.{IsRead}
use Rattle.node.proofs.telling.fetch_after.Given as goal

abbrev pub invariant-loop-place : goal.invariant-loop-place
invariant-loop-place g l = record {
  entries : g.S.LogReader.is_honest l.reader → l.entries.items ≡ slice_range (g.S.LogReader.stored l.initial.reader).log l.before l.place;
  count : l.before + length l.entries.items ≡ l.place;
  room : l.before + length l.entries.items ≤ 18446744073709551615;
  reader : IsRead (g.S.LogReader.is_honest l.initial.reader) (g.S.LogReader.is_honest l.reader) (g.S.LogReader.stored l.initial.reader) (g.S.LogReader.stored l.reader) (g.S.LogReader.may_hold l.initial.reader) (g.S.LogReader.may_hold l.reader) (g.S.LogReader.serves l.initial.reader) (g.S.LogReader.serves l.reader) (g.S.LogReader.failed l.initial.reader) (g.S.LogReader.failed l.reader) (g.S.LogReader.saves l.initial.reader) (g.S.LogReader.saves l.reader) (g.S.LogReader.came_from l.initial.reader) (g.S.LogReader.came_from l.reader);
  up : g.S.LogReader.is_up l.reader ≡ true;
  asks : g.S.LogReader.asks l.reader ≤ g.S.LogReader.asks l.initial.reader + length l.entries.items;
}
