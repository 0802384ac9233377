use Rattle.playback.specs.Scenes.{scene_of}
use Rattle.playback.proofs.Turns.{comes_up, then_ok}
use Rattle.playback.proofs.play.Play.begin_life.Goals as goal

pub returns : goal.returns
returns c =
    then_ok c.begin.result c.begin.ensures
    (λ up. comes_up (scene_of c.args.self.now) (scene_of c.close.new.self) (scene_of c.meet.new.self) (scene_of c.start.new.self) (scene_of c.check_begun.new.self) (scene_of c.begin.new.self) c.args.member c.args.found.now
    c.in_ok-close.ensures c.in_ok-meet.ensures c.in_ok-start.ensures c.in_ok-check_begun.ensures up)
