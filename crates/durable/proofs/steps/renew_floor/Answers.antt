use Rattle.std.proofs.Common.{◌≡◌, Some, sym, subst, ◌∙◌, rules}
use Rattle.durable.specs.Steps.{IsFloor}
use Rattle.durable.proofs.Stepping.{goes_still, with_floor, keeps_nothing, survives_still}
use Rattle.durable.proofs.steps.renew_floor.Goals as goal

pub returns-in-Some-clause-ok : goal.returns-in-Some-clause-ok
returns-in-Some-clause-ok g c clean =
    let opened = c.requires.inside clean in
    let place = c.requires.known clean in
    let told : IsFloor (Some c.in-Some.hard) place.0.floor = subst (λ known. IsFloor known place.0.floor) c.in-Some.is place.2 in
    let same : c.in-Some.hard.floor ≡ c.args.floor = search rules in
    goes_still _ place.0 _ opened.0 opened.1 place.1 (with_floor place.0 c.args.floor (sym same ∙ told))

pub returns-in-Some-clause-keeps : goal.returns-in-Some-clause-keeps
returns-in-Some-clause-keeps g c clean = keeps_nothing _

pub returns-in-Some-clause-survives : goal.returns-in-Some-clause-survives
returns-in-Some-clause-survives g c = survives_still _
