use Rattle.std.proofs.Common.{◌≡◌, subst, sym}
use Rattle.store.specs.Announcing.{HasContinued}
use Rattle.store.proofs.Continuing.{continued_filed, continued_waited}
use Rattle.store.proofs.announcing.AnnouncingKeeper.save.Goals as goal

pub returns-in-Err-clause-came : goal.returns-in-Err-clause-came
returns-in-Err-clause-came g c = λ o h.
    let reader = g.K.LogReader in
    let first = c.args.self.now in
    let last = c.refuse.new.self in
    subst (λ k. HasContinued g.J.Device.contents o.0 (reader.is_honest k → reader.stored k ≡ o.1) last.voice) (sym c.refuse.ensures.keeper.0)
    (subst (HasContinued g.J.Device.contents o.0 (reader.is_honest first.keeper → reader.stored first.keeper ≡ o.1)) (sym c.refuse.ensures.keeper.1)
    (continued_waited g.J.Device.contents o.0 _ first.voice _ h c.in-Err.ensures.waited))

pub returns-in-Err-save-clause-came : goal.returns-in-Err-save-clause-came
returns-in-Err-save-clause-came g c = λ o h.
    let reader = g.K.LogReader in
    let saved = c.save.new.self in
    let last = c.refuse-in-Err-save.new.self in
    subst (λ k. HasContinued g.J.Device.contents o.0 (reader.is_honest k → reader.stored k ≡ o.1) last.voice) (sym c.refuse-in-Err-save.ensures.keeper.0)
    (subst (HasContinued g.J.Device.contents o.0 (reader.is_honest saved → reader.stored saved ≡ o.1)) (sym c.refuse-in-Err-save.ensures.keeper.1)
    (continued_filed g.J.Device.contents o.0 _ _ c.args.self.now.voice _ h c.in_default.ensures.filed))

pub returns-in-Ok-clause-came : goal.returns-in-Ok-clause-came
returns-in-Ok-clause-came g c = λ o h. continued_filed g.J.Device.contents o.0 _ _ c.args.self.now.voice c.announce.new.voice h c.in_default.ensures.filed
