use Rattle.std.proofs.Common.{◌≡◌, ◌∙◌, subst, sym}
use Rattle.store.specs.Announcing.{HasContinued}
use Rattle.store.proofs.Continuing.{continued_less}
use Rattle.store.proofs.announcing.AnnouncingLogReader.entry.Goals as goal

pub returns-in-Ok-clause-came : goal.returns-in-Ok-clause-came
returns-in-Ok-clause-came g c = λ o h. continued_less g.J.Device.contents o.0 _ _ c.args.self.now.voice (λ keeps honest. c.entry.ensures.same honest ∙ keeps (c.entry.ensures.honest honest)) h

pub returns-in-Err-clause-came : goal.returns-in-Err-clause-came
returns-in-Err-clause-came g c = λ o h.
    let reader = g.K.LogReader in
    let read = c.entry.new.self in
    let last = c.refuse.new.self in
    subst (λ k. HasContinued g.J.Device.contents o.0 (reader.is_honest k → reader.stored k ≡ o.1) last.voice) (sym c.refuse.ensures.keeper.0)
    (subst (HasContinued g.J.Device.contents o.0 (reader.is_honest read → reader.stored read ≡ o.1)) (sym c.refuse.ensures.keeper.1)
    (continued_less g.J.Device.contents o.0 _ _ c.args.self.now.voice (λ keeps honest. c.entry.ensures.same honest ∙ keeps (c.entry.ensures.honest honest)) h))
