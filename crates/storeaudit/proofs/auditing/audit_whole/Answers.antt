use Rattle.std.proofs.Common.{◌≡◌, ◌∙◌, [], false, ap, rules, sym}
use Rattle.playback.specs.Scenes.{Scene, outset, scene_of}
use Rattle.sqlchecks.specs.Columns.{Tables}
use Rattle.storeaudit.specs.declared.auditing.Audited.{Audited}
use Rattle.storeaudit.proofs.Played.{upheld}
use Rattle.storeaudit.proofs.auditing.audit_whole.Goals as goal

pub returns : goal.returns
returns g c =
    let schema : Tables = c.in_ok-schema.schema in
    let members = c.args.form.now.members in
    let audited : Audited = record { schema = schema; members = members; sessions = c.in-Ok.found.0; requests = 0; missing = c.in-Ok.found.1 } in
    let first : schema ≡ c.args.form.now.schema = search rules in
    let second : c.in_ok-clone.field-0 ≡ c.args.form.now.schema = search rules in
    let same = second ∙ sym first in
    let begins = c.in_ok-play.ensures ∙ ap (λ (t : Tables). outset members (record { tables = t; members = members; deeds = [] }) false) same in
    upheld audited (scene_of c.in_ok-play.play) (scene_of c.check_all.new.play) begins c.in-Ok.ensures c.promises.ensures.agree c.promises.ensures.explained c.promises.ensures.invented c.promises.ensures.ordered
