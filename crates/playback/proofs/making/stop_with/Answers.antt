use Rattle.std.proofs.Common.{◌∙◌, subst}
use Rattle.keep.specs.Durable.{Durable}
use Rattle.playback.proofs.making.stop_with.Goals as goal

pub returns-then-branch-clause-just : goal.returns-then-branch-clause-just
returns-then-branch-clause-just g c =
    let node = c.has_just-checked.new.node in
    let just = c.in_ok-checked.ensures.is c.if-branch.true in (
      λ d held. c.stop-image.ensures.last just.0 d held ∙ just.1 (g.met.K.LogReader.only_honest node.keeper d (c.stop-image.ensures.held d held)),
      λ sound.
          let honest = c.stop-image.ensures.sound sound in
          subst (λ (d : Durable). g.K.Keeper.holds c.stop-image.result d) (just.1 honest) (c.stop-image.ensures.whole just.0 honest),
    )
