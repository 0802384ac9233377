use Rattle.std.proofs.Common.{◌≡◌, Some, sym, subst, ◌∙◌, rules}
use Rattle.durable.specs.Contents.{number_of_vote}
use Rattle.durable.specs.Steps.{IsMeta}
use Rattle.durable.proofs.Stepping.{goes_still, with_meta, keeps_nothing, survives_still}
use Rattle.durable.proofs.steps.renew_meta.Goals as goal

pub returns-in-Some-clause-ok : goal.returns-in-Some-clause-ok
returns-in-Some-clause-ok g c clean =
    let opened = c.requires.inside clean in
    let place = c.requires.known clean in
    let told : IsMeta (Some c.in-Some.hard) place.0.term place.0.vote = subst (λ known. IsMeta known place.0.term place.0.vote) c.in-Some.is place.2 in
    let term : c.in-Some.hard.term ≡ c.args.term.value = search rules in
    let vote : number_of_vote c.in-Some.hard.vote ≡ c.args.vote.value = search rules in
    goes_still _ place.0 _ opened.0 opened.1 place.1 (with_meta place.0 c.args.term.value c.args.vote.value (sym term ∙ told.0) (sym vote ∙ told.1))

pub returns-in-Some-clause-keeps : goal.returns-in-Some-clause-keeps
returns-in-Some-clause-keeps g c clean = keeps_nothing _

pub returns-in-Some-clause-survives : goal.returns-in-Some-clause-survives
returns-in-Some-clause-survives g c = survives_still _
