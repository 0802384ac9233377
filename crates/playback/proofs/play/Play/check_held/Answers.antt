use Rattle.std.proofs.Common.{inl, subst}
use Rattle.keep.specs.Durable.{Durable}
use Rattle.playback.specs.Playing.{IsLeft}
use Rattle.playback.specs.Scenes.{scene_of, Scene}
use Rattle.playback.proofs.Logs.{on_ok}
use Rattle.playback.proofs.play.Play.check_held.Goals as goal

pub returns-in-Some : goal.returns-in-Some
returns-in-Some c =
    let held : Durable = record { hard = c.args.found.now.hard; log = c.entries.result.now } in
    let now : Scene = scene_of c.check_found.new.self in
    on_ok c.check_found.result (λ left. (scene_of c.meet_found.new.self, c.in_ok-meet_found.ensures, inl (held, subst (λ (s : Scene). IsLeft s c.args.member held now) c.in_ok-held.ensures left))) c.check_found.ensures
