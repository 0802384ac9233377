use Rattle.std.proofs.Common.{Some, [], ◌∷◌, subst, sym}
use Rattle.journal.specs.declared.line.Line.TheVariants.{Takes}
use Rattle.store.specs.Continuing.{IsKeptOn}
use Rattle.store.specs.Going.{BeginsStep}
use Rattle.store.specs.Lines.{waiting}
use Rattle.store.proofs.Continuing.{continues_both, kept_both, kept_none, kept_same, kept_unfiled}
use Rattle.store.proofs.Written.{on_err}
use Rattle.store.proofs.store.Store.begin_step.Goals as goal

pub returns-in_err-show-in-Some-clause-kept : goal.returns-in_err-show-in-Some-clause-kept
returns-in_err-show-in-Some-clause-kept g c = on_err _ (subst (λ s. IsKeptOn g.K.Journal.Device.contents s (Some c.show.new.self)) (sym c.in-Some.is) (kept_unfiled g.K.Journal.Device.contents (Some c.in-Some.scribe) (Some c.show.new.self) c.show.ensures.continues))

pub returns-in_err-add-in-Some-clause-kept : goal.returns-in_err-add-in-Some-clause-kept
returns-in_err-add-in-Some-clause-kept g c =
    on_err _ (subst (λ s. IsKeptOn g.K.Journal.Device.contents s (Some c.add.new.self)) (sym c.in-Some.is) (kept_both g.K.Journal.Device.contents (Some c.in-Some.scribe) (Some c.show.new.self) (Some c.add.new.self) (kept_unfiled g.K.Journal.Device.contents (Some c.in-Some.scribe) (Some c.show.new.self) c.show.ensures.continues) (kept_none g.K.Journal.Device.contents (Some c.show.new.self) (Some c.add.new.self) c.in_err-add-in-Some.ensures.lost)))

pub returns-in_ok-add-in-Some-clause-begins : goal.returns-in_ok-add-in-Some-clause-begins
returns-in_ok-add-in-Some-clause-begins g c =
    let before = c.show.ensures.continues in
    subst (λ s. BeginsStep g.K.Journal.Device.contents s (Some c.add.new.self) c.args.member c.args.taken) (sym c.in-Some.is)
    (before.0, before.1, continues_both g.K.Journal.Device.contents c.in-Some.scribe c.show.new.self c.add.new.self (waiting before.0) (waiting (Takes c.args.member c.args.taken ∷ [])) before.2 c.in_ok-add-in-Some.ensures.continues)

pub returns-in-None-clause-kept : goal.returns-in-None-clause-kept
returns-in-None-clause-kept g c = kept_same g.K.Journal.Device.contents c.args.self.now.scribe
