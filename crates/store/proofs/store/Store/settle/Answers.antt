use Rattle.std.proofs.Common.{Some, refl, rules, subst, sym}
use Rattle.store.specs.Continuing.{IsContinued, IsKeptOn}
use Rattle.store.specs.Lines.{no_lines}
use Rattle.store.specs.Journals.{IsFlushed, IsPartOn, IsSpent}
use Rattle.store.proofs.Continuing.{kept_none, kept_same, kept_written, none_some}
use Rattle.store.proofs.Going.{only_scribe, publishes_on, stays, unwritten}
use Rattle.store.proofs.Written.{on_err, part_flushed}
use Rattle.store.proofs.store.Store.settle.Goals as goal

pub returns-in_err-settle-in-Some-clause-part : goal.returns-in_err-settle-in-Some-clause-part
returns-in_err-settle-in-Some-clause-part g c =
    let contents = g.K.Journal.Device.contents in
    on_err _ (subst (λ s. IsPartOn contents s (Some c.settle.new.self.device)) (sym c.in-Some.is) (part_flushed contents c.in-Some.scribe c.settle.new.self c.in_err-settle-in-Some.ensures.part (λ k. (c.settle.ensures.spent k).1)))

pub returns-in_ok-settle-in-Some-clause-ok : goal.returns-in_ok-settle-in-Some-clause-ok
returns-in_ok-settle-in-Some-clause-ok g c =
    subst (λ s. IsFlushed g.K.Journal.Device.contents s (Some c.settle.new.self)) (sym c.in-Some.is) (c.in_ok-settle-in-Some.ensures.ok, c.in_ok-settle-in-Some.ensures.empty)

pub returns-in_ok-settle-in-Some-clause-goes : goal.returns-in_ok-settle-in-Some-clause-goes
returns-in_ok-settle-in-Some-clause-goes g c =
    let contents = g.K.Journal.Device.contents in
    let old = c.args.self.now in
    publishes_on g.K.Journal.Device.contents g.K.LogReader.is_honest g.K.LogReader.may_hold g.K.Keeper.holds old _ (only_scribe g.K.Journal.Device.contents g.K.LogReader.is_honest g.K.LogReader.may_hold g.K.Keeper.holds old _ refl
    (subst (λ s. IsKeptOn contents s (Some c.settle.new.self)) (sym c.in-Some.is) (kept_written contents c.in-Some.scribe c.settle.new.self c.in_ok-settle-in-Some.ensures.continues))
    (λ was. absurd (none_some c.in-Some.scribe.failure c.in_ok-settle-in-Some.ensures.up.0 (subst IsSpent c.in-Some.is was))))

pub returns-in_err-settle-in-Some-clause-goes : goal.returns-in_err-settle-in-Some-clause-goes
returns-in_err-settle-in-Some-clause-goes g c = unwritten g.K.Journal.Device.contents g.K.LogReader.is_honest g.K.LogReader.may_hold g.K.Keeper.holds c.args.self.now _ refl (subst (λ s. IsContinued g.K.Journal.Device.contents s (Some c.settle.new.self) no_lines) (sym c.in-Some.is) c.in_err-settle-in-Some.ensures.lost) (search rules)

pub returns-in-None-clause-goes : goal.returns-in-None-clause-goes
returns-in-None-clause-goes g c = stays g.K.Journal.Device.contents g.K.LogReader.is_honest g.K.LogReader.may_hold g.K.Keeper.holds c.args.self.now

pub returns-in_ok-settle-in-Some-clause-continues : goal.returns-in_ok-settle-in-Some-clause-continues
returns-in_ok-settle-in-Some-clause-continues g c =
    let contents = g.K.Journal.Device.contents in
    subst (λ s. IsKeptOn contents s (Some c.settle.new.self)) (sym c.in-Some.is) (kept_written contents c.in-Some.scribe c.settle.new.self c.in_ok-settle-in-Some.ensures.continues)

pub returns-in_err-settle-in-Some-clause-continues : goal.returns-in_err-settle-in-Some-clause-continues
returns-in_err-settle-in-Some-clause-continues g c =
    let contents = g.K.Journal.Device.contents in
    subst (λ s. IsKeptOn contents s (Some c.settle.new.self)) (sym c.in-Some.is) (kept_none contents (Some c.in-Some.scribe) (Some c.settle.new.self) c.in_err-settle-in-Some.ensures.lost)

pub returns-in-None-clause-continues : goal.returns-in-None-clause-continues
returns-in-None-clause-continues g c = kept_same g.K.Journal.Device.contents c.args.self.now.scribe
