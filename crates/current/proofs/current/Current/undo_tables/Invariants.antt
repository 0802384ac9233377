use Rattle.std.proofs.Common.{◌≡◌, ◌+◌, ◌*◌, ◌^◌, ◌<◌, ◌≤◌, ◌++◌, ℕ, length}
use Rattle.model.specs.Tables.{Row}
use Rattle.rowlaws.specs.Rows.{Has}
use Rattle.rowlaws.specs.Touching.{rows_without}
use Rattle.current.specs.Current.{rows_of, schema_in, most_columns}
use Rattle.current.specs.Reads.{rows_touched}
use Rattle.current.specs.Table.{HaveSame}
use Rattle.current.specs.Touched.{removed_in, added_in}
use Rattle.current.proofs.current.Current.undo_tables.Given as goal

abbrev pub invariant-loop-n : goal.invariant-loop-n
invariant-loop-n l = record {
  long : length l.self.tables.items ≡ length l.fn.self.tables.items;
  done : (m : ℕ) → m < l.n → HaveSame (rows_without (rows_of l.fn.self m) (added_in l.touched m) ++ removed_in l.touched m) (rows_of l.self m);
  schema : schema_in l.self ≡ schema_in l.fn.self;
  columns : (m most : ℕ) → most_columns l.fn.self m ≤ most → ((r : Row) → Has (removed_in l.touched m) r → length r.key ≤ most) → most_columns l.self m ≤ most;
  few : (digits : ℕ) → ((m : ℕ) → length (rows_of l.fn.self m) + length (removed_in l.touched m) < 2 ^ digits) → l.count ≤ l.fn.count + rows_touched l.n (removed_in l.touched) (added_in l.touched) * (digits + digits + 2);
  left : (m : ℕ) → l.n ≤ m → rows_of l.self m ≡ rows_of l.fn.self m;
}
