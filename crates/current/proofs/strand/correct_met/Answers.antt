use Rattle.std.proofs.Common.{map, ap, sym, ◌∙◌, ◌++◌, ◌∷◌, [], length, arith}
use Rattle.rowlaws.specs.Touching.{rows_without}
use Rattle.current.specs.Rows.{row_of}
use Rattle.current.specs.Corrections.{action_of_correction, made}
use Rattle.current.proofs.Walks.{rows_more, part_made, kept_met, removed_met, added_met}
use Rattle.current.proofs.strand.correct_met.Goals as goal

pub rows_from-parts-requires : goal.rows_from-parts-requires
rows_from-parts-requires c =
    let old = c.args.rows.now in
    let long = rows_more old.items c.add_parts.new.rows.items _ c.in_ok-add_parts.ensures.ok.0 in
    omega (arith, long, c.len-place.ensures, old.ok.0, ap length c.as_slice.ensures.value)

pub returns-clause-rows : goal.returns-clause-rows
returns-clause-rows c =
    let action = action_of_correction c.args.correction.now in
    c.in_ok-add_parts.ensures.ok.0 ∙ ap (λ rows. map row_of c.args.rows.now.items ++ rows) (sym (kept_met action c.args.correction.now.system_start (row_of c.args.row.now) c.requires))

pub returns-clause-removed : goal.returns-clause-removed
returns-clause-removed c =
    let action = action_of_correction c.args.correction.now in
    let t = c.args.correction.now.system_start in
    let row = row_of c.args.row.now in
    let rows = c.args.rows.now in
    let old = map row_of c.args.changes.now.removed.items in
    let parts = part_made rows.items c.add_parts.new.rows.items c.as_slice.result.now c.rows_from-parts.result.now (made action t row) c.len-place.result (c.len-place.ensures ∙ rows.ok.0) c.as_slice.ensures.value c.rows_from-parts.ensures c.in_ok-add_parts.ensures.ok.0 in
    c.in_ok-add_unless.ensures ∙ ap (λ others. old ++ rows_without (row ∷ []) others) parts ∙ ap (λ gone. old ++ gone) (sym (removed_met action t row c.requires))

pub returns-clause-added : goal.returns-clause-added
returns-clause-added c =
    let action = action_of_correction c.args.correction.now in
    let t = c.args.correction.now.system_start in
    let row = row_of c.args.row.now in
    let rows = c.args.rows.now in
    let old = map row_of c.args.changes.now.added.items in
    let parts = part_made rows.items c.add_parts.new.rows.items c.as_slice.result.now c.rows_from-parts.result.now (made action t row) c.len-place.result (c.len-place.ensures ∙ rows.ok.0) c.as_slice.ensures.value c.rows_from-parts.ensures c.in_ok-add_parts.ensures.ok.0 in
    c.in_ok-add_others.ensures ∙ ap (λ others. old ++ rows_without others (row ∷ [])) parts ∙ ap (λ come. old ++ come) (sym (added_met action t row c.requires))
