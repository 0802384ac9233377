use Rattle.std.proofs.Common.{◌∙◌, Result, Ok, Err, [], ◌∷◌, IsErr, ap, refl, rules, subst}
use Rattle.std.specs.List.{Contains}
use Rattle.node.specs.declared.node.Fault.{Fault}
use Rattle.node.specs.declared.node.Out.{Out}
use Rattle.node.specs.declared.node.Fault.TheVariants.{Kept}
use Rattle.store.specs.Going.{HasStepped, IsBrought}
use Rattle.journal.specs.declared.line.Line.TheVariants.{Takes}
use Rattle.store.specs.Recording.{job_of}
use Rattle.store.proofs.Continuing.{kept_none}
use Rattle.store.proofs.Going.{ends_spent, from_weaker, made_then, only_scribe, publishes_none}
use Rattle.store.proofs.Recording.{made_told, of_none}
use Rattle.store.proofs.Taking.{says_nothing, stepped, stepped_down, stepped_last, Says}
use Rattle.store.proofs.store.Store.take_step.Goals as goal

pub returns-in_err-out-clause-goes : goal.returns-in_err-out-clause-goes
returns-in_err-out-clause-goes g c = λ taken now shown.
    let old = c.args.self.now in
    let err : IsErr c.from_residual.result = search rules in
    from_weaker g.K.Journal.Device.contents g.K.LogReader.is_honest g.K.LogReader.may_hold g.K.Keeper.holds (Takes c.args.member taken ∷ []) (IsBrought old c.args.member (job_of now taken) c.args.work) (IsBrought old c.args.member (job_of now taken) c.args.work) (λ gave. Unit {0}) _ old c.lend.new.self (λ w b. b) (λ gave u. says_nothing c.args.member c.from_residual.result gave err)
    (stepped_last g.K.Journal.Device.contents g.K.LogReader.is_honest g.K.LogReader.may_hold g.K.Keeper.holds old c.lend.new.self c.args.at c.args.member taken now c.args.work c.requires.member shown c.in_err-out.ensures.lost c.requires.live c.in_err-out.ensures.fails)

pub returns-in_err-end_step-in-Ok-clause-goes : goal.returns-in_err-end_step-in-Ok-clause-goes
returns-in_err-end_step-in-Ok-clause-goes g c = λ taken now shown.
    let old = c.args.self.now in
    let err : IsErr c.from_residual-in_err-end_step-in-Ok.result = search rules in
    let h = subst (HasStepped g.K.Journal.Device.contents g.K.LogReader.is_honest g.K.LogReader.may_hold g.K.Keeper.holds old c.lend.new.self c.args.at c.args.work) c.in-Ok.is c.in_ok-out.ensures.stepped in
    from_weaker g.K.Journal.Device.contents g.K.LogReader.is_honest g.K.LogReader.may_hold g.K.Keeper.holds (Takes c.args.member taken ∷ []) (IsBrought old c.args.member (job_of now taken) c.args.work) (IsBrought old c.args.member (job_of now taken) c.args.work) (λ gave. Unit {0}) _ old c.end_step.new.self (λ w b. b) (λ gave u. says_nothing c.args.member c.from_residual-in_err-end_step-in-Ok.result gave err)
    (stepped g.K.Journal.Device.contents g.K.LogReader.is_honest g.K.LogReader.may_hold g.K.Keeper.holds old c.lend.new.self c.end_step.new.self c.args.at c.args.member taken now c.args.work (Ok c.in-Ok.out) c.requires.member shown h c.requires.live c.end_step.ensures.passes)

pub returns-in_ok-end_step-in-Ok-clause-goes : goal.returns-in_ok-end_step-in-Ok-clause-goes
returns-in_ok-end_step-in-Ok-clause-goes g c = λ taken now shown.
    let old = c.args.self.now in
    let h = subst (HasStepped g.K.Journal.Device.contents g.K.LogReader.is_honest g.K.LogReader.may_hold g.K.Keeper.holds old c.lend.new.self c.args.at c.args.work) c.in-Ok.is c.in_ok-out.ensures.stepped in
    stepped g.K.Journal.Device.contents g.K.LogReader.is_honest g.K.LogReader.may_hold g.K.Keeper.holds old c.lend.new.self c.end_step.new.self c.args.at c.args.member taken now c.args.work (Ok c.in-Ok.out) c.requires.member shown h c.requires.live c.end_step.ensures.passes

pub returns-in_err-write-in-Err-Kept-clause-goes : goal.returns-in_err-write-in-Err-Kept-clause-goes
returns-in_err-write-in-Err-Kept-clause-goes g c = λ taken now shown.
    let old = c.args.self.now in
    let err : IsErr c.from_residual-in_err-write-in-Err-Kept.result = search rules in
    let r : Result Out Fault = Err (Kept c.in-Err-Kept.refusal) in
    let h = subst (HasStepped g.K.Journal.Device.contents g.K.LogReader.is_honest g.K.LogReader.may_hold g.K.Keeper.holds old c.lend.new.self c.args.at c.args.work) (c.in-Err-Kept.is ∙ ap (λ (f : Fault). Err f) c.in-Err-Kept.field-0-is) c.in_ok-out.ensures.stepped in
    from_weaker g.K.Journal.Device.contents g.K.LogReader.is_honest g.K.LogReader.may_hold g.K.Keeper.holds (Takes c.args.member taken ∷ []) (IsBrought old c.args.member (job_of now taken) c.args.work) (IsBrought old c.args.member (job_of now taken) c.args.work) (Says c.args.member r) _ old c.write.new.self (λ w b. b) (λ gave says. says_nothing c.args.member c.from_residual-in_err-write-in-Err-Kept.result gave err)
    (stepped g.K.Journal.Device.contents g.K.LogReader.is_honest g.K.LogReader.may_hold g.K.Keeper.holds old c.lend.new.self c.write.new.self c.args.at c.args.member taken now c.args.work r c.requires.member shown h c.requires.live (ends_spent g.K.Journal.Device.contents g.K.LogReader.is_honest g.K.LogReader.may_hold g.K.Keeper.holds c.args.member c.lend.new.self c.write.new.self [] [] (only_scribe g.K.Journal.Device.contents g.K.LogReader.is_honest g.K.LogReader.may_hold g.K.Keeper.holds c.lend.new.self c.write.new.self c.write.ensures.same (kept_none g.K.Journal.Device.contents c.lend.new.self.scribe c.write.new.self.scribe c.in_err-write-in-Err-Kept.ensures.lost) (λ was. c.in_err-write-in-Err-Kept.ensures.fails)) c.in_err-write-in-Err-Kept.ensures.fails))

pub returns-in_ok-write-in-Err-Kept-clause-goes : goal.returns-in_ok-write-in-Err-Kept-clause-goes
returns-in_ok-write-in-Err-Kept-clause-goes g c = λ taken now shown.
    let old = c.args.self.now in
    let h = subst (HasStepped g.K.Journal.Device.contents g.K.LogReader.is_honest g.K.LogReader.may_hold g.K.Keeper.holds old c.lend.new.self c.args.at c.args.work) (c.in-Err-Kept.is ∙ ap (λ (f : Fault). Err f) c.in-Err-Kept.field-0-is) c.in_ok-out.ensures.stepped in
    stepped g.K.Journal.Device.contents g.K.LogReader.is_honest g.K.LogReader.may_hold g.K.Keeper.holds old c.lend.new.self c.write.new.self c.args.at c.args.member taken now c.args.work (Err (Kept c.in-Err-Kept.refusal)) c.requires.member shown h c.requires.live (made_then g.K.Journal.Device.contents g.K.LogReader.is_honest g.K.LogReader.may_hold g.K.Keeper.holds c.args.member _ c.lend.new.self c.lend.new.self c.write.new.self c.write.new.self [] [] (made_told c.args.member [] _ (of_none (Contains []) _ c.none-outcomes.ensures)) (c.none-outcomes.ensures, refl) refl c.write.ensures.same c.in_ok-write-in-Err-Kept.ensures.live c.in_ok-write-in-Err-Kept.ensures.continues (publishes_none g.K.Journal.Device.contents g.K.LogReader.is_honest g.K.LogReader.may_hold g.K.Keeper.holds c.write.new.self))

pub returns-in-Err-Down-clause-goes : goal.returns-in-Err-Down-clause-goes
returns-in-Err-Down-clause-goes g c = λ taken now shown.
    let old = c.args.self.now in
    let h = subst (HasStepped g.K.Journal.Device.contents g.K.LogReader.is_honest g.K.LogReader.may_hold g.K.Keeper.holds old c.lend.new.self c.args.at c.args.work) (c.in-Err-Down.is ∙ ap (λ (f : Fault). Err f) c.in-Err-Down.field-0-is) c.in_ok-out.ensures.stepped in
    stepped_down g.K.Journal.Device.contents g.K.LogReader.is_honest g.K.LogReader.may_hold g.K.Keeper.holds old c.lend.new.self c.fall.new.self c.args.at c.args.member taken now c.args.work _ c.requires.member shown h c.requires.live c.fall.ensures.stops
