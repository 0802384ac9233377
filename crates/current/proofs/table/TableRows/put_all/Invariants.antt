use Rattle.std.proofs.Common.{ℕ, ◌+◌, ◌*◌, ◌^◌, ◌<◌, ◌≤◌, length, drop, map, ◌⊎◌}
use Rattle.model.specs.Tables.{Row}
use Rattle.rowlaws.specs.Rows.{Has}
use Rattle.current.specs.Rows.{row_of}
use Rattle.current.specs.Table.{rows_of_table, CanPut}
use Rattle.current.proofs.table.TableRows.put_all.Given as goal

abbrev pub invariant-loop-row : goal.invariant-loop-row
invariant-loop-row l =
    let left = map row_of (drop l.row-index l.rows) in
    record {
      columns : (most : ℕ) → l.fn.self.columns ≤ most → ((r : Row) → Has (map row_of l.rows) r → length r.key ≤ most) → l.self.columns ≤ most;
      longer : length (rows_of_table l.self) ≤ length (rows_of_table l.fn.self) + l.row-index;
      few : (digits : ℕ) → length (rows_of_table l.fn.self) + length l.rows < 2 ^ digits → l.count ≤ l.fn.count + l.row-index * digits;
      fits : CanPut (rows_of_table l.self) left;
      joined : (r : Row) → ((Has (rows_of_table l.self) r ⊎ Has left r) → (Has (rows_of_table l.fn.self) r ⊎ Has (map row_of l.rows) r)) × ((Has (rows_of_table l.fn.self) r ⊎ Has (map row_of l.rows) r) → (Has (rows_of_table l.self) r ⊎ Has left r));
    }
