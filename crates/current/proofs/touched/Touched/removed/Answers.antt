use Rattle.std.proofs.Common.{ap, ◌∙◌, sym, [], map}
use Rattle.std.specs.Option.{option_map_or}
use Rattle.current.specs.Rows.{row_of}
use Rattle.current.specs.Touched.{removed_of}
use Rattle.current.proofs.Tabled.{rows_at-got}
use Rattle.current.proofs.touched.Touched.removed.Goals as goal

pub returns-in-Some : goal.returns-in-Some
returns-in-Some c =
    ap (map row_of) c.as_slice.ensures.value ∙ ap (λ o. option_map_or removed_of o []) c.in-Some.ensures ∙ sym (rows_at-got removed_of c.args.self.now.tables.items c.args.table)

pub returns-in-None : goal.returns-in-None
returns-in-None c = ap (λ o. option_map_or removed_of o []) c.in-None.ensures ∙ sym (rows_at-got removed_of c.args.self.now.tables.items c.args.table)
