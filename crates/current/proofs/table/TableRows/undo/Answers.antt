use Rattle.std.proofs.Common.{map, length, arith}
use Rattle.current.specs.Rows.{row_of}
use Rattle.current.specs.Table.{rows_of_table}
use Rattle.current.proofs.Counting.{both_few}
use Rattle.current.proofs.Changed.{on_ok}
use Rattle.current.proofs.Undoing.{can_put, undone_rows}
use Rattle.current.proofs.table.TableRows.undo.Goals as goal

pub put_all-requires : goal.put_all-requires
put_all-requires c = can_put (rows_of_table c.args.self.now) (map row_of c.args.removed.now) (map row_of c.args.added.now) (rows_of_table c.take_all.new.self) c.requires c.take_all.ensures.rows

pub returns-clause-rows : goal.returns-clause-rows
returns-clause-rows c =
    on_ok c.put_all.result
    (undone_rows (rows_of_table c.args.self.now) (map row_of c.args.removed.now) (map row_of c.args.added.now) (rows_of_table c.take_all.new.self) (rows_of_table c.put_all.new.self) c.take_all.ensures.rows)
    c.put_all.ensures.rows

pub returns-clause-columns : goal.returns-clause-columns
returns-clause-columns c = λ most before each. let same = c.take_all.ensures.columns in c.put_all.ensures.columns most (omega (arith, same, before)) each

pub returns-clause-few : goal.returns-clause-few
returns-clause-few c = λ digits short.
    let shorter = c.take_all.ensures.shorter in
    let out = c.take_all.ensures.few digits (omega (arith, short)) in
    let back = c.put_all.ensures.few digits (omega (arith, shorter, short)) in
    both_few (length c.args.removed.now) (length c.args.added.now) digits c.args.count.now c.take_all.new.count c.put_all.new.count out back
