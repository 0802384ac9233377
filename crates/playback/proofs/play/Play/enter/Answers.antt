use Rattle.std.proofs.Common.{◌≡◌, List, ap, arith}
use Rattle.playback.specs.Standings.{Standing, Up, Within, standing_of}
use Rattle.playback.specs.Scenes.{scene_of}
use Rattle.playback.proofs.Members.{stands_now, stands_as}
use Rattle.playback.proofs.play.Play.enter.Goals as goal

pub returns-clause-ok : goal.returns-clause-ok
returns-clause-ok c =
    let up : standing_of c.index.result.now.doing ≡ Up = c.is_idle.ensures.0 c.if-not-is_idle.false in (
      stands_as c.args.self.now.actors.items c.in_ok-at.at c.args.member c.index.result.now Up c.in_ok-at.ensures.0 (omega (arith, c.in_ok-at.ensures.1)) c.index.ensures up,
      ap (λ (ms : List Standing). record (scene_of c.args.self.now) { members = ms })
          (stands_now c.args.self.now.actors.items c.in_ok-at.at c.args.member c.enter.new.self (Within c.args.begun.job) c.in_ok-at.ensures.0 c.enter.ensures),
    )
