use Rattle.std.proofs.Common.{◌∙◌, ap}
use Rattle.indexmap.specs.IndexMap.{insert_entry}
use Rattle.schema.specs.Name.{same_name}
use Rattle.schema.proofs.Built.{next_passes, tables_next}
use Rattle.schema.proofs.build.tables_of.Goals as goal

pub table_of-requires : goal.table_of-requires
table_of-requires c = (next_passes c.args.tables.now c.loop-table.table-index c.table-item.result c.loop-table-test.true c.table-item.is c.requires).columns

pub loop-table-preserved : goal.loop-table-preserved
loop-table-preserved c =
    c.in_ok-insert.ensures.entries
    ∙ ap (λ name. insert_entry same_name c.loop-table.named.entries name c.in_ok-made.made) c.in_ok-clone.ensures.cases
    ∙ tables_next c.args.tables.now c.loop-table.table-index c.table-item.result c.loop-table-test.true c.table-item.is c.requires c.loop-table.named.entries c.in_ok-made.made c.loop-table.invariant c.in_ok-made.ensures.ok
