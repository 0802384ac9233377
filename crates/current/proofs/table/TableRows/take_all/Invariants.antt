use Rattle.std.proofs.Common.{◌≡◌, ◌+◌, ◌*◌, ◌^◌, ◌<◌, ◌≤◌, ℕ, map, length}
use Rattle.model.specs.Tables.{Row}
use Rattle.rowlaws.specs.Rows.{Has}
use Rattle.current.specs.Rows.{row_of}
use Rattle.current.specs.Table.{rows_of_table}
use Rattle.current.proofs.table.TableRows.take_all.Given as goal

abbrev pub invariant-loop-row : goal.invariant-loop-row
invariant-loop-row l = record {
  rows : (r : Row) →
      ((Has (rows_of_table l.self) r × (Has (map row_of l.left) r → ⊥)) → (Has (rows_of_table l.fn.self) r × (Has (map row_of l.fn.rows) r → ⊥)))
      × ((Has (rows_of_table l.fn.self) r × (Has (map row_of l.fn.rows) r → ⊥)) → (Has (rows_of_table l.self) r × (Has (map row_of l.left) r → ⊥)));
  columns : l.self.columns ≡ l.fn.self.columns;
  shorter : length (rows_of_table l.self) ≤ length (rows_of_table l.fn.self);
  few : (digits : ℕ) → length (rows_of_table l.fn.self) < 2 ^ digits → l.count + length l.left * (digits + digits + 2) ≤ l.fn.count + length l.fn.rows * (digits + digits + 2);
}

abbrev pub decreases-loop-row : goal.decreases-loop-row
decreases-loop-row l = length l.left
