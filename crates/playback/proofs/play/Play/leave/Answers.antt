use Rattle.std.proofs.Common.{List, ap, arith}
use Rattle.playback.specs.Standings.{Standing, Up, Within}
use Rattle.playback.specs.Scenes.{scene_of}
use Rattle.playback.proofs.Members.{stands_now, stands_as}
use Rattle.playback.proofs.play.Play.leave.Goals as goal

pub returns-in-Some-clause-ok : goal.returns-in-Some-clause-ok
returns-in-Some-clause-ok c = (
  stands_as c.args.self.now.actors.items c.in_ok-at.at c.args.member c.index_mut.result.now (Within c.in-Some.begun.job) c.in_ok-at.ensures.0 (omega (arith, c.in_ok-at.ensures.1)) c.index_mut.ensures.value c.in-Some.ensures.0,
  ap (λ (ms : List Standing). record (scene_of c.args.self.now) { members = ms })
      (stands_now c.args.self.now.actors.items c.in_ok-at.at c.args.member c.leave.new.self Up c.in_ok-at.ensures.0 c.in-Some.ensures.1),
)
