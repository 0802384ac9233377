use Rattle.std.proofs.Common.{◌++◌, map, ap, ◌∙◌, append_assoc}
use Rattle.std.specs.Option.{option_map}
use Rattle.std.specs.Arc.{arc_slice_items}
use Rattle.rowlaws.specs.Parts.{row_of_part}
use Rattle.current.specs.Rows.{row_of}
use Rattle.current.specs.Corrections.{new_part}
use Rattle.current.proofs.Parts.{parts_are}
use Rattle.current.proofs.correction.Correction.add_parts.Goals as goal

pub returns-clause-ok : goal.returns-clause-ok
returns-clause-ok c =
    let correction = c.args.self.now in
    let row = c.args.row.now in
    let t = correction.system_start in
    let are = parts_are c.parts_of_update.ensures c.parts_of_delete.ensures correction.conditions.now correction.portion correction.assignments t row c.pieces-before.result.0 c.pieces-before.result.1 c.pieces-before.result.2 (option_map arc_slice_items c.in_ok-new.new)
    c.requires c.in_ok-new.ensures.ok (record { before_days = c.pieces-before.ensures.before; within_days = c.pieces-before.ensures.within; after_days = c.pieces-before.ensures.after }) in
    let before = row_of_part (row_of row) c.pieces-before.result.0 (row_of row).values t in
    let after = row_of_part (row_of row) c.pieces-before.result.2 (row_of row).values t in
    let within = new_part (row_of row) c.pieces-before.result.1 (option_map arc_slice_items c.in_ok-new.new) t in
    let old = map row_of c.args.rows.now.items in
    let second = c.in_ok-push_new_part.ensures ∙ ap (λ front. front ++ within) c.in_ok-push_old_part.ensures in
    let third = c.in_ok-push_old_part-2.ensures ∙ ap (λ front. front ++ after) second in
    (third ∙ append_assoc (old ++ before) within after ∙ append_assoc old before (within ++ after) ∙ ap (λ parts. old ++ parts) are.0, are.1)
