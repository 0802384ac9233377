use Rattle.std.proofs.Common.{map, inr, arith, rules}
use Rattle.rowlaws.specs.Losing.{has_lost_day}
use Rattle.rowlaws.proofs.Members.{has_filter}
use Rattle.current.specs.Rows.{row_of}
use Rattle.current.specs.Places.{rows_at}
use Rattle.current.specs.Reads.{searching}
use Rattle.current.specs.Table.{rows_of_table}
use Rattle.current.proofs.Costs.{costs_next, costs_last}
use Rattle.current.proofs.Looking.{lost_then, lost_all, row_here}
use Rattle.current.proofs.suspects.lost_with.Goals as goal

pub loop-row-init : goal.loop-row-init
loop-row-init c = record { each = λ row d h lost. inr h; of_lost = search rules; few = λ digits short. omega arith }

pub loop-row-preserved : goal.loop-row-preserved
loop-row-preserved c =
    let rows = rows_at rows_of_table c.args.tables.now c.args.table in
    let removed = c.args.removed.now in
    let i = c.loop-row.row-index in
    let row = c.row-item.result in
    record {
      each = lost_then removed rows i row c.loop-row-test.true c.row-item.is c.loop-row.lost c.in_ok-next.next c.loop-row.invariant.each c.in_ok-next.ensures.before c.in_ok-next.ensures.row;
      of_lost = c.in_ok-next.ensures.of_lost _ c.loop-row.invariant.of_lost (λ y. has_filter (has_lost_day rows) (map row_of removed) (row_of row) (row_here removed i row c.loop-row-test.true c.row-item.is) y);
      few = λ digits short. costs_next row_of (λ q. searching digits q.key q.period rows) removed i row c.loop-row-test.true c.row-item.is c.loop-row.count c.with.new.count _ (c.loop-row.invariant.few digits short) (c.with.ensures.few digits short);
    }

pub returns-in_err-next-clause-few : goal.returns-in_err-next-clause-few
returns-in_err-next-clause-few c digits short =
    let rows = rows_at rows_of_table c.args.tables.now c.args.table in
    costs_last row_of (λ q. searching digits q.key q.period rows) c.args.removed.now c.loop-row.row-index c.row-item.result c.loop-row-test.true c.row-item.is c.loop-row.count c.with.new.count _ (c.loop-row.invariant.few digits short) (c.with.ensures.few digits short)

pub returns-clause-each : goal.returns-clause-each
returns-clause-each c = lost_all c.args.removed.now (rows_at rows_of_table c.args.tables.now c.args.table) c.loop-row.row-index c.loop-row.lost c.loop-row-test.false c.loop-row.invariant.each

pub returns-clause-few : goal.returns-clause-few
returns-clause-few c digits short = let few = c.loop-row.invariant.few digits short in omega (arith, few)
