use Rattle.std.proofs.Common.{rules, sym, subst, FitsSigned, w64}
use Rattle.std.proofs.lemmas.Int.{to_z-of_z}
use Rattle.model.specs.declared.event.Job.TheVariants.{Delivery}
use Rattle.node.specs.Work.{Delivered}
use Rattle.store.specs.Going.{HasSent, IsBrought, SaysWhy}
use Rattle.store.proofs.Going.{goes_so, so_weaker, stays}
use Rattle.store.proofs.Taking.{delivers}
use Rattle.store.proofs.store.Store.deliver.Goals as goal

pub returns-in_err-step-clause-goes : goal.returns-in_err-step-clause-goes
returns-in_err-step-clause-goes g c =
    let old = c.args.self.now in
    let letter = c.args.letter in
    let to = letter.message.addressee in
    let fits : FitsSigned w64 c.args.reading = search rules in
    let read = to_z-of_z w64 c.args.reading fits in
    so_weaker g.K.Journal.Device.contents g.K.LogReader.is_honest g.K.LogReader.may_hold g.K.Keeper.holds _ (HasSent old letter) (SaysWhy to c.step.result) (λ gave. Unit {0}) old c.step.new.self
    (λ w sent. subst (λ r. IsBrought old to (Delivery letter.number r) (Delivered r letter.message) w) (sym read) (delivers g.K.Journal.Device.contents g.K.LogReader.is_honest g.K.LogReader.may_hold g.K.Keeper.holds old letter c.args.reading w sent)) (λ gave s. tt) c.step.ensures.goes

pub returns-clause-goes : goal.returns-clause-goes
returns-clause-goes g c =
    let old = c.args.self.now in
    let letter = c.args.letter in
    let to = letter.message.addressee in
    let fits : FitsSigned w64 c.args.reading = search rules in
    let read = to_z-of_z w64 c.args.reading fits in
    so_weaker g.K.Journal.Device.contents g.K.LogReader.is_honest g.K.LogReader.may_hold g.K.Keeper.holds _ (HasSent old letter) (SaysWhy to c.step.result) (λ gave. Unit {0}) old c.step.new.self
    (λ w sent. subst (λ r. IsBrought old to (Delivery letter.number r) (Delivered r letter.message) w) (sym read) (delivers g.K.Journal.Device.contents g.K.LogReader.is_honest g.K.LogReader.may_hold g.K.Keeper.holds old letter c.args.reading w sent)) (λ gave s. tt) c.step.ensures.goes

pub returns-then-not-is_up-clause-goes : goal.returns-then-not-is_up-clause-goes
returns-then-not-is_up-clause-goes g c = goes_so g.K.Journal.Device.contents g.K.LogReader.is_honest g.K.LogReader.may_hold g.K.Keeper.holds (HasSent c.args.self.now c.args.letter) (λ gave. Unit {0}) c.args.self.now c.args.self.now (λ gave. tt) (stays g.K.Journal.Device.contents g.K.LogReader.is_honest g.K.LogReader.may_hold g.K.Keeper.holds c.args.self.now)
