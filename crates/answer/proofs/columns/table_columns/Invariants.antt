use Rattle.std.proofs.Common.{◌≡◌}
use Rattle.answer.proofs.Places.{columns_before}
use Rattle.answer.proofs.columns.table_columns.Given as goal

abbrev pub invariant-loop-place : goal.invariant-loop-place
invariant-loop-place l = l.columns.items ≡ columns_before l.table l.place
