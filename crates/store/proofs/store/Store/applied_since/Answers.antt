use Rattle.std.proofs.Common.{◌≡◌, ◌+◌, ◌-◌, ◌<◌, MatchOption, arith, rules, subst}
use Rattle.store.specs.Applied.{IsSince, found}
use Rattle.store.proofs.Reading.{since_up}
use Rattle.store.proofs.store.Store.applied_since.Goals as goal

pub returns-in-Ok-clause-goes : goal.returns-in-Ok-clause-goes
returns-in-Ok-clause-goes g c = c.read_since.ensures.stays (search (rules, since_up))

pub returns-in-Ok-clause-since : goal.returns-in-Ok-clause-since
returns-in-Ok-clause-since g c =
    let place : c.args.member ≡ c.in-Some.at + 1 = c.in-Some.ensures.some.1 in
    let there : c.in-Some.at ≡ c.args.member - 1 = omega (arith, place) in
    let some : 0 < c.args.member = omega (arith, place) in
    (some, subst (λ at. MatchOption (found c.read_since.new.self.seats.items at (λ seat. seat.node)) ⊥ (λ n. IsSince g.K.LogReader.is_honest n c.args.after c.in-Ok.since)) there c.in-Ok.ensures.since)
