use Rattle.playback.specs.Scenes.{scene_of}
use Rattle.storeaudit.proofs.Played.{all_heard}
use Rattle.storeaudit.proofs.auditing.check_all.Goals as goal

pub returns : goal.returns
returns g c =
    (scene_of c.tell_all.new.hearer, all_heard c.in_ok-count.count c.args.play.now c.tell_all.new.hearer c.in_ok-count.ensures, c.in_ok-missing.ensures)
