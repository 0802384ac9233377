use Rattle.std.proofs.Common.{◌≡◌, ◌∷◌, ◌==◌, ◌∙◌, ap, map, length, option_map, sym}
use Rattle.std.specs.Map.Iter.{deref_pair}
use Rattle.std.proofs.lemmas.Map.Iter.{rest_more}
use Rattle.rowlaws.specs.Covering.{missing_in_rows}
use Rattle.sqlread.specs.Meaning.{reference_of}
use Rattle.current.specs.Orphans.{place_of}
use Rattle.current.specs.Rows.{row_of}
use Rattle.current.specs.ByKey.{rows_in}
use Rattle.current.specs.Places.{rows_at}
use Rattle.current.specs.Table.{rows_of_table}
use Rattle.current.proofs.Orphans.{found_in_entry, none_in_entry, none_refer}
use Rattle.current.proofs.Planning.{Entry}
use Rattle.current.proofs.references.missing_in_strands.Goals as goal

pub returns-then-is_empty : goal.returns-then-is_empty
returns-then-is_empty c =
    let table = c.args.table.now in
    let none = ap (λ rs. length rs == 0) (sym c.references.ensures) ∙ sym c.is_empty.ensures ∙ c.if-is_empty.true in
    sym (none_refer c.args.place table table.references (rows_at rows_of_table c.args.tables.now) c.args.place (rows_in c.args.strands.now.entries) none)

pub returns-in-Some-2 : goal.returns-in-Some-2
returns-in-Some-2 c =
    let table = c.args.table.now in
    let references = map (reference_of c.args.place table) table.references in
    let all = rows_at rows_of_table c.args.tables.now in
    let e : Entry = (c.in-Some.field-0-0.now, c.in-Some.rows.now) in
    let rest = c.next.new.self in
    let split : c.loop-rows.rows-iterator ≡ e ∷ rest = rest_more deref_pair _ _ _ (c.in-Some.field-0-0, c.in-Some.rows) c.in-Some.is c.next.ensures.steps in
    found_in_entry references all c.args.place e rest c.loop-rows.rows-iterator (place_of c.in-Some-2.found) _ split c.loop-rows.invariant
    (sym (ap (option_map place_of) c.in-Some-2.is) ∙ c.in_ok-found.ensures ∙ ap (λ rows. missing_in_rows references all c.args.place (map row_of rows)) c.all-rows.ensures.items)

pub loop-rows-preserved : goal.loop-rows-preserved
loop-rows-preserved c =
    let table = c.args.table.now in
    let references = map (reference_of c.args.place table) table.references in
    let all = rows_at rows_of_table c.args.tables.now in
    let e : Entry = (c.in-Some.field-0-0.now, c.in-Some.rows.now) in
    let rest = c.next.new.self in
    let split : c.loop-rows.rows-iterator ≡ e ∷ rest = rest_more deref_pair _ _ _ (c.in-Some.field-0-0, c.in-Some.rows) c.in-Some.is c.next.ensures.steps in
    none_in_entry references all c.args.place e rest c.loop-rows.rows-iterator _ split c.loop-rows.invariant
    (sym (ap (option_map place_of) c.in_default.is) ∙ c.in_ok-found.ensures ∙ ap (λ rows. missing_in_rows references all c.args.place (map row_of rows)) c.all-rows.ensures.items)
