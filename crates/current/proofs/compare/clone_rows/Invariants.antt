use Rattle.std.proofs.Common.{◌≡◌, ◌++◌, map, drop}
use Rattle.current.specs.Rows.{row_of}
use Rattle.current.proofs.compare.clone_rows.Given as goal

abbrev pub invariant-loop-row : goal.invariant-loop-row
invariant-loop-row l = map row_of l.copy.items ++ map row_of (drop l.row-index l.rows) ≡ map row_of l.rows
