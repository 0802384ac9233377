use Rattle.schemasyntax.specs.Schemas.{table_form}
use Rattle.schemaread.proofs.Declared.{said_more}
use Rattle.schemaread.proofs.schemas.create_tables.Goals as goal

pub loop-next-preserved : goal.loop-next-preserved
loop-next-preserved c =
    let more = said_more table_form c.args.forms.now c.loop-next.next-index c.loop-next.tables.items c.next-item.result c.in_ok-create_table.field-0 c.loop-next-test.true c.loop-next.invariant c.next-item.is c.in_ok-create_table.ensures in
    rw c.in_ok-push.ensures.items more
