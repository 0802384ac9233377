use Rattle.std.proofs.Common.{◌≡◌, ◌++◌, [], take, drop, reverse}
use Rattle.apply.specs.View.{AreTables}
use Rattle.sqlread.specs.Meaning.{language_of}
use Rattle.report.specs.Settled.{outcomes_from}
use Rattle.report.proofs.settled.outcomes_of.Given as goal

abbrev pub invariant-loop-entry : goal.invariant-loop-entry
invariant-loop-entry l = record {
  tables : AreTables l.schema (take l.entry-index l.list) l.tables;
  told : l.outcomes.items ++ outcomes_from (language_of l.schema) (reverse (take l.entry-index l.list)) (drop l.entry-index l.list) ≡ outcomes_from (language_of l.schema) [] l.list;
}
