use Rattle.std.proofs.Common.{refl}
use Rattle.playback.specs.Scenes.{scene_of}
use Rattle.playback.proofs.Logs.{is_left}
use Rattle.playback.proofs.play.Play.left_by.Goals as goal

pub returns : goal.returns
returns c =
    let there = scene_of c.meet_told.new.self in (
      c.in_ok-meet_told.ensures.0,
      there,
      c.in_ok-meet_told.ensures.1,
      is_left there there (scene_of c.lay_down.new.self) (scene_of c.start.new.self) (scene_of c.all_stored.new.self) (scene_of c.happen.new.self) c.args.member
          (record { hard = c.in_ok-stored.stored.hard; log = c.in_ok-stored.stored.entries.items })
          refl c.in_ok-lay_down.ensures c.in_ok-start.ensures c.in_ok-stored.ensures.has c.all_stored.ensures.same c.in_ok-happen.ensures.ok,
    )
