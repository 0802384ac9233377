use Rattle.std.proofs.Common.{sym, ap, ◌∙◌}
use Rattle.sqlite.specs.State.{HasCleanDisk}
use Rattle.sqlite.specs.Held.{state}
use Rattle.sqlite.specs.Effect.{Database}
use Rattle.durable.proofs.finding.find_hard.Goals as goal

pub returns-clause-ok : goal.returns-clause-ok
returns-clause-ok g c clean has =
    let mid : HasCleanDisk (state g.S.Store c.find_meta.new.conn) = c.find_floor.ensures.clean clean in
    let meta = rw c.in-Some.is at (c.in_ok-meta.ensures.ok mid has) in
    let now = (c.in_ok-meta.ensures.same mid has).0.now_is in
    let there = ap (λ (b : Database). b.schema) now ∙ has in
    let floor = rw c.in-Some-2.is at (c.in_ok-floor.ensures.ok clean there) in
    record { meta = meta.0; floor = ap (λ (b : Database). b.trees 2) (sym now) ∙ floor.0; term = meta.1; vote = meta.2; instant = floor.1 }
