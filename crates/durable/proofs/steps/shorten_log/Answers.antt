use Rattle.std.proofs.Common.{◌≤◌, length, take, arith}
use Rattle.std.proofs.lemmas.List.{take_all}
use Rattle.durable.proofs.Stepping.{goes_still, with_log, keeps_nothing, survives_still}
use Rattle.durable.proofs.steps.shorten_log.Goals as goal

pub returns-then-count-kept-clause-ok : goal.returns-then-count-kept-clause-ok
returns-then-count-kept-clause-ok g c clean =
    let opened = c.requires.inside clean in
    let place = c.requires.counted clean in
    let low : length place.0.log ≤ c.args.kept.value = omega (arith, place.2) in
    goes_still _ place.0 _ opened.0 opened.1 place.1 (with_log place.0 (take c.args.kept.value place.0.log) place.0.log (take_all c.args.kept.value place.0.log low))

pub returns-then-count-kept-clause-keeps : goal.returns-then-count-kept-clause-keeps
returns-then-count-kept-clause-keeps g c clean = keeps_nothing _

pub returns-then-count-kept-clause-survives : goal.returns-then-count-kept-clause-survives
returns-then-count-kept-clause-survives g c = survives_still _
