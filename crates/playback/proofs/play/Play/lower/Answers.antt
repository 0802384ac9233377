use Rattle.std.proofs.Common.{List, ap, sym, arith}
use Rattle.playback.specs.Standings.{Standing, Down, standing_of}
use Rattle.playback.specs.Scenes.{scene_of}
use Rattle.playback.proofs.Members.{stands_now, stands_as}
use Rattle.playback.proofs.play.Play.lower.Goals as goal

pub returns-clause-ok : goal.returns-clause-ok
returns-clause-ok c = (
  stands_as c.args.self.now.actors.items c.in_ok-at.at c.args.member c.index_mut.result.now (standing_of c.lower.result) c.in_ok-at.ensures.0 (omega (arith, c.in_ok-at.ensures.1)) c.index_mut.ensures.value (ap standing_of (sym c.lower.ensures.was)),
  ap (λ (ms : List Standing). record (scene_of c.args.self.now) { members = ms })
      (stands_now c.args.self.now.actors.items c.in_ok-at.at c.args.member c.lower.new.self Down c.in_ok-at.ensures.0 c.lower.ensures.down),
)
