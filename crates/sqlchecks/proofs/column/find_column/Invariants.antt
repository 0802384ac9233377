use Rattle.std.proofs.Common.{◌≡◌, length}
use Rattle.schema.specs.Name.{same_name}
use Rattle.sqlchecks.proofs.Firsts.{NoneBefore}
use Rattle.sqlchecks.proofs.column.find_column.Given as goal

abbrev pub invariant-loop-place : goal.invariant-loop-place
invariant-loop-place l = (l.place-end ≡ length l.table.columns) × NoneBefore (same_name l.name) (λ c. c.0) l.table.columns l.place
