use Rattle.std.proofs.Common.{◌≡◌, drop, find, map}
use Rattle.model.specs.Statements.{days_of}
use Rattle.model.specs.Periods.{period_of, is_free}
use Rattle.rowlaws.specs.Covering.{uncovered}
use Rattle.refer.proofs.covered.Given as goal

abbrev pub invariant-loop-parent : goal.invariant-loop-parent
invariant-loop-parent l = uncovered l.day.number l.fn.child.end.number (map period_of (drop l.parent-index l.fn.parents)) ≡ find (is_free (map period_of l.fn.parents)) (days_of (period_of l.fn.child))
