use Rattle.std.proofs.Common.{map, refl}
use Rattle.current.specs.Rows.{row_of}
use Rattle.current.specs.Corrections.{action_of_correction, made}
use Rattle.current.proofs.Refusing.{after_made, before_made, among_more, if_ok}
use Rattle.current.proofs.refused.parts_are_lost.Goals as goal

pub returns-clause-before : goal.returns-clause-before
returns-clause-before c =
    let correction = c.args.correction.now in
    let row = row_of c.args.row.now in
    let parts = made (action_of_correction correction) correction.system_start row in
    if_ok c.add_parts.result _ _ c.add_parts.ensures.ok (λ u ok low. among_more (map row_of c.args.rows.now.items) parts _ _ ok.0 (before_made parts correction row refl low))

pub returns-clause-after : goal.returns-clause-after
returns-clause-after c =
    let correction = c.args.correction.now in
    let row = row_of c.args.row.now in
    let parts = made (action_of_correction correction) correction.system_start row in
    if_ok c.add_parts.result _ _ c.add_parts.ensures.ok (λ u ok high. among_more (map row_of c.args.rows.now.items) parts _ _ ok.0 (after_made parts correction row refl high))
