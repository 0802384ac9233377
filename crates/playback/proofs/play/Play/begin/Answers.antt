use Rattle.std.proofs.Common.{List, ap}
use Rattle.playback.specs.Standings.{Standing, Up}
use Rattle.playback.specs.Scenes.{scene_of}
use Rattle.playback.proofs.Members.{stands_now}
use Rattle.playback.proofs.play.Play.begin.Goals as goal

pub returns : goal.returns
returns c =
    ap (λ (ms : List Standing). record (scene_of c.args.self.now) { members = ms })
    (stands_now c.args.self.now.actors.items c.in_ok-at.at c.args.member c.begin.new.self Up c.in_ok-at.ensures.0 c.in_ok-begin.ensures)
