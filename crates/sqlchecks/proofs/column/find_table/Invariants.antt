use Rattle.std.proofs.Common.{◌≡◌, length}
use Rattle.schema.specs.Name.{same_name}
use Rattle.sqlchecks.proofs.Firsts.{NoneBefore}
use Rattle.sqlchecks.proofs.column.find_table.Given as goal

abbrev pub invariant-loop-place : goal.invariant-loop-place
invariant-loop-place l = (l.place-end ≡ length l.schema) × NoneBefore (same_name l.name) (λ t. t.0) l.schema l.place
