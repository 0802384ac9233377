use Rattle.std.proofs.lemmas.Option.{IfSome_then}
use Rattle.period.proofs.InstantLemmas.{names, none_named, instant_named}
use Rattle.period.proofs.instant.instant_of.Goals as goal

pub returns-in-Some-clause-some : goal.returns-in-Some-clause-some
returns-in-Some-clause-some c =
    IfSome_then c.at_time.result c.at_time.ensures.some (λ i at. instant_named i.microseconds c.in-Some.day.number c.args.parts c.in-Some.ensures.some at.0 at.1)

pub returns-in-Some-clause-none : goal.returns-in-Some-clause-none
returns-in-Some-clause-none c =
    none_named c.at_time.result c.in-Some.day.number c.args.parts c.requires.date c.requires.time c.in-Some.ensures.some c.at_time.ensures.none

pub returns-in-None-clause-none : goal.returns-in-None-clause-none
returns-in-None-clause-none c = λ i is h.
    let n = names i c.args.parts c.requires.date c.requires.time h in
    c.in-None.ensures.none h.day n.on_day
