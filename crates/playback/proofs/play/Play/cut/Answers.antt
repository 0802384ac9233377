use Rattle.std.proofs.Common.{List, ap}
use Rattle.playback.specs.Standings.{Standing, standing_of}
use Rattle.playback.specs.Scenes.{scene_of}
use Rattle.playback.proofs.Members.{stands_still}
use Rattle.playback.proofs.play.Play.cut.Goals as goal

pub returns : goal.returns
returns c =
    ap (λ (ms : List Standing). record (scene_of c.args.self.now) { members = ms })
    (stands_still c.args.self.now.actors.items c.in_ok-at.at c.cut.new.self c.index_mut.result.now c.index_mut.ensures.value (ap standing_of c.cut.ensures))
