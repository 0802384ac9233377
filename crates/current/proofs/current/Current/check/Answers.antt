use Rattle.std.proofs.Common.{◌∙◌, ap, option_map, sym, inr}
use Rattle.rowlaws.specs.Covering.{rows_orphan}
use Rattle.sqlread.specs.Meaning.{language_of}
use Rattle.current.specs.Orphans.{place_of}
use Rattle.current.specs.Places.{rows_at}
use Rattle.current.specs.Table.{rows_of_table}
use Rattle.current.proofs.Checked.{none_found, one_found}
use Rattle.current.proofs.current.Current.check.Goals as goal

pub returns-in_ok-no_parent-in-Some-clause-err : goal.returns-in_ok-no_parent-in-Some-clause-err
returns-in_ok-no_parent-in-Some-clause-err c =
    let schema = c.args.self.now.schema in
    let tables = ap (λ ts. rows_orphan (language_of schema) (rows_at rows_of_table ts)) c.as_slice.ensures.value in
    inr (one_found c.orphan_on_rows.ensures schema c.args.self.now.tables.items (place_of c.in-Some.place) c.in_ok-no_parent-in-Some.field-0 c.in_ok-no_parent-in-Some.ensures (sym (ap (option_map place_of) c.in-Some.is) ∙ c.in_ok-place.ensures.first ∙ tables))

pub returns-in-None-clause-ok : goal.returns-in-None-clause-ok
returns-in-None-clause-ok c =
    let schema = c.args.self.now.schema in
    let tables = ap (λ ts. rows_orphan (language_of schema) (rows_at rows_of_table ts)) c.as_slice.ensures.value in
    none_found c.orphan_on_rows.ensures schema c.args.self.now.tables.items (sym (ap (option_map place_of) c.in-None.is) ∙ c.in_ok-place.ensures.first ∙ tables)
