use Rattle.std.proofs.Common.{◌≡◌, ◌++◌, map, drop}
use Rattle.model.specs.Tables.{Row}
use Rattle.model.specs.Periods.{period_of}
use Rattle.current.specs.Rows.{row_of}
use Rattle.current.proofs.references.periods.Given as goal

abbrev pub invariant-loop-row : goal.invariant-loop-row
invariant-loop-row l =
    let period = λ (r : Row). r.period in
    map period_of l.periods.items ++ map period (map row_of (drop l.row-index l.rows)) ≡ map period (map row_of l.rows)
