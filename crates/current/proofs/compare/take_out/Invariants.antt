use Rattle.std.proofs.Common.{◌≡◌, filter, not}
use Rattle.std.specs.List.{list_any}
use Rattle.current.specs.RowOrder.{is_same}
use Rattle.current.proofs.compare.take_out.Given as goal

abbrev pub invariant-loop-row : goal.invariant-loop-row
invariant-loop-row l = record {
  left : l.rows.items ≡ filter (λ row. not (list_any (is_same row) l.others)) l.yielded;
  taken : l.taken.items ≡ filter (λ row. list_any (is_same row) l.others) l.yielded;
}
