use Rattle.std.proofs.Common.{refl, arith}
use Rattle.playback.specs.Standings.{standing_of}
use Rattle.playback.specs.Scenes.{scene_of}
use Rattle.playback.proofs.Members.{stands_as, idles}
use Rattle.playback.proofs.play.Play.is_idle.Goals as goal

pub returns : goal.returns
returns c =
    idles c.is_idle.result (scene_of c.args.self.now) c.args.member (standing_of c.index.result.now.doing)
    (stands_as c.args.self.now.actors.items c.in_ok-at.at c.args.member c.index.result.now (standing_of c.index.result.now.doing) c.in_ok-at.ensures.0 (omega (arith, c.in_ok-at.ensures.1)) c.index.ensures refl)
    c.is_idle.ensures
