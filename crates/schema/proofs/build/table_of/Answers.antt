use Rattle.std.proofs.Common.{map, length, ap}
use Rattle.schema.proofs.Built.{shape_is}
use Rattle.schema.proofs.build.table_of.Goals as goal

pub returns-clause-ok : goal.returns-clause-ok
returns-clause-ok c =
    shape_is (map (λ e. e.0) c.args.tables.now.entries) c.args.table.now
    c.as_slice-declared.result.now c.as_slice.result.now c.as_slice-3.result.now (length c.as_slice-declared.result.now) c.as_slice-2.result.now
    c.in_ok-columns.columns.entries c.in_ok-period.period c.place_of-start.result c.place_of-end.result c.place_of-system_start.result c.place_of-system_end.result
    c.in_ok-key.key.items c.in_ok-values.values.items c.in_ok-references.references.items
    c.as_slice-declared.ensures.value c.as_slice.ensures.value c.as_slice-3.ensures.value (ap length c.as_slice-declared.ensures.value) c.as_slice-2.ensures.value
    c.in_ok-columns.ensures.ok c.in_ok-period.ensures.cases c.place_of-start.ensures c.place_of-end.ensures c.place_of-system_start.ensures c.place_of-system_end.ensures
    c.in_ok-key.ensures c.in_ok-values.ensures c.in_ok-references.ensures
