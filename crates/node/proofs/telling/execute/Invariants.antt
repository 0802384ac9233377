use Rattle.std.proofs.Common.{◌≡◌, ◌+◌, List, length, take, slice_range}
use Rattle.sqlchecks.specs.Columns as columns
use Rattle.model.specs.declared.entry.Entry.{Entry}
use Rattle.node.specs.Applying.{AreApplied, AreMade}
use Rattle.node.proofs.telling.execute.Given as goal

abbrev pub invariant-loop-place : goal.invariant-loop-place
invariant-loop-place l = record {
  applied : (schema : columns.Tables) (log : List Entry) → l.entries ≡ slice_range log l.before (l.before + length l.entries) → AreApplied schema log l.before (l.before + l.first) (take l.first l.entries) l.initial.told.items l.initial.tables
      → AreApplied schema log l.before (l.before + l.place) (take l.place l.entries) l.told.items l.tables;
  made : (schema : columns.Tables) → AreMade schema l.initial.tables → AreMade schema l.tables;
}
