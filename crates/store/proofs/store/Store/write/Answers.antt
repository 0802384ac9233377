use Rattle.std.proofs.Common.{Some, [], ◌∷◌, refl, rules, subst, sym}
use Rattle.store.specs.Continuing.{IsContinued}
use Rattle.store.specs.Journals.{IsSpent}
use Rattle.store.specs.Lines.{no_lines, waiting}
use Rattle.store.proofs.Continuing.{kept_by, kept_none, none_some}
use Rattle.store.proofs.Going.{only_scribe, publishes_none, publishes_on, stays, unwritten}
use Rattle.store.proofs.store.Store.write.Goals as goal

pub returns-in_err-add-in-Some-clause-goes : goal.returns-in_err-add-in-Some-clause-goes
returns-in_err-add-in-Some-clause-goes g c = λ silent.
    unwritten g.K.Journal.Device.contents g.K.LogReader.is_honest g.K.LogReader.may_hold g.K.Keeper.holds c.args.self.now _ refl (subst (λ s. IsContinued g.K.Journal.Device.contents s (Some c.add.new.self) no_lines) (sym c.in-Some.is) c.in_err-add-in-Some.ensures.lost) (search rules)

pub returns-in_err-add-in-Some-clause-passes : goal.returns-in_err-add-in-Some-clause-passes
returns-in_err-add-in-Some-clause-passes g c = λ silent.
    let old = c.args.self.now in
    let spent : IsSpent (Some c.add.new.self) = search rules in
    only_scribe g.K.Journal.Device.contents g.K.LogReader.is_honest g.K.LogReader.may_hold g.K.Keeper.holds old _ refl
    (kept_none g.K.Journal.Device.contents old.scribe (Some c.add.new.self) (subst (λ s. IsContinued g.K.Journal.Device.contents s (Some c.add.new.self) no_lines) (sym c.in-Some.is) c.in_err-add-in-Some.ensures.lost))
    (λ was. spent)

pub returns-in_ok-add-in-Some-clause-passes : goal.returns-in_ok-add-in-Some-clause-passes
returns-in_ok-add-in-Some-clause-passes g c = λ silent.
    let old = c.args.self.now in
    only_scribe g.K.Journal.Device.contents g.K.LogReader.is_honest g.K.LogReader.may_hold g.K.Keeper.holds old _ refl
    (kept_by g.K.Journal.Device.contents old.scribe (Some c.add.new.self) c.args.line.now silent (subst (λ s. IsContinued g.K.Journal.Device.contents s (Some c.add.new.self) (waiting (c.args.line.now ∷ []))) (sym c.in-Some.is) c.in_ok-add-in-Some.ensures.continues))
    (λ was. absurd (none_some c.in-Some.scribe.failure c.in_ok-add-in-Some.ensures.up.0 (subst IsSpent c.in-Some.is was)))

pub returns-in_ok-add-in-Some-clause-goes : goal.returns-in_ok-add-in-Some-clause-goes
returns-in_ok-add-in-Some-clause-goes g c = λ silent.
    let old = c.args.self.now in
    publishes_on g.K.Journal.Device.contents g.K.LogReader.is_honest g.K.LogReader.may_hold g.K.Keeper.holds old _ (only_scribe g.K.Journal.Device.contents g.K.LogReader.is_honest g.K.LogReader.may_hold g.K.Keeper.holds old _ refl
    (kept_by g.K.Journal.Device.contents old.scribe (Some c.add.new.self) c.args.line.now silent (subst (λ s. IsContinued g.K.Journal.Device.contents s (Some c.add.new.self) (waiting (c.args.line.now ∷ []))) (sym c.in-Some.is) c.in_ok-add-in-Some.ensures.continues))
    (λ was. absurd (none_some c.in-Some.scribe.failure c.in_ok-add-in-Some.ensures.up.0 (subst IsSpent c.in-Some.is was))))

pub returns-in-None-clause-goes : goal.returns-in-None-clause-goes
returns-in-None-clause-goes g c = λ silent. stays g.K.Journal.Device.contents g.K.LogReader.is_honest g.K.LogReader.may_hold g.K.Keeper.holds c.args.self.now

pub returns-in-None-clause-passes : goal.returns-in-None-clause-passes
returns-in-None-clause-passes g c = λ silent. publishes_none g.K.Journal.Device.contents g.K.LogReader.is_honest g.K.LogReader.may_hold g.K.Keeper.holds c.args.self.now
