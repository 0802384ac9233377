use Rattle.schema.proofs.Built.{columns_next}
use Rattle.schema.proofs.build.columns_of.Goals as goal

pub loop-column-preserved : goal.loop-column-preserved
loop-column-preserved c =
    let inserted = c.in_ok-insert.ensures.entries in
    let name = c.in_ok-clone.ensures.cases in
    let kind = c.kind_of.ensures in
    let before = c.loop-column.invariant in
    let next = columns_next c.args.columns.now c.loop-column.column-index c.column-item.result c.loop-column-test.true c.column-item.is c.requires in
    cc
