use Rattle.std.proofs.Common.{◌≡◌, ◌∙◌, List, ap, refl, subst}
use Rattle.keep.specs.Durable.{Durable}
use Rattle.keep.specs.declared.hard_state.HardState.{HardState}
use Rattle.model.specs.declared.entry.Entry.{Entry}
use Rattle.playback.specs.Histories.{HasStored}
use Rattle.playback.specs.Scenes.{scene_of}
use Rattle.playback.proofs.Logs.{is_left}
use Rattle.playback.proofs.play.Play.check_found.Goals as goal

pub returns-then-is_just : goal.returns-then-is_just
returns-then-is_just c =
    let stored = c.in_ok-stored.stored in
    let had : Durable = record { hard = stored.hard; log = stored.entries.items } in
    let held : Durable = record { hard = c.args.found.now.hard; log = c.args.entries.now } in
    let is = c.is_just.ensures c.if-is_just.true in
    let same : had ≡ held = ap (λ (h : HardState). record { hard = h; log = stored.entries.items }) is.0 ∙ ap (λ (l : List Entry). record { hard = c.args.found.now.hard; log = l }) is.1 in
    let has = subst (λ (d : Durable). HasStored (scene_of c.start.new.self).history c.args.member d) same c.in_ok-stored.ensures.has in
    is_left (scene_of c.args.self.now) (scene_of c.args.self.now) (scene_of c.close.new.self) (scene_of c.start.new.self) (scene_of c.all_stored.new.self) (scene_of c.happen.new.self) c.args.member held
    refl c.in_ok-close.ensures c.in_ok-start.ensures has c.all_stored.ensures.same c.in_ok-happen.ensures.ok
