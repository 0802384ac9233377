use Rattle.playback.specs.Scenes.{scene_of}
use Rattle.storeaudit.proofs.Played.{alike, ok_more}
use Rattle.storeaudit.proofs.auditing.compare_stored.Goals as goal

pub returns-clause-left : goal.returns-clause-left
returns-clause-left g c =
    ok_more c.compare_databases.result c.compare_databases.ensures
    (λ missing is. alike _ _ c.args.databases.items (scene_of c.args.play.now) c.args.form.now.members missing.items (scene_of c.compare_databases.new.play) is)
