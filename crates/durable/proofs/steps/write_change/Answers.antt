use Rattle.std.proofs.Common.{◌+◌, sym, ap, arith}
use Rattle.std.proofs.lemmas.List.{length-take-le}
use Rattle.sqlite.specs.State.{HasCleanDisk}
use Rattle.sqlite.specs.Held.{state}
use Rattle.durable.proofs.Stepping.{goes_on}
use Rattle.durable.proofs.steps.write_change.Goals as goal

pub renew_meta-requires-clause-known : goal.renew_meta-requires-clause-known
renew_meta-requires-clause-known g c clean =
    let place = c.requires.held clean in
    (place.0, place.1, (c.requires.known clean place.0 place.1).meta)

pub renew_floor-requires-clause-inside : goal.renew_floor-requires-clause-inside
renew_floor-requires-clause-inside g c clean =
    let one = c.in_ok-renew_meta.ensures.ok clean in
    (one.is_open, one.is_in)

pub renew_floor-requires-clause-known : goal.renew_floor-requires-clause-known
renew_floor-requires-clause-known g c clean =
    let early : HasCleanDisk (state g.S.Store c.args.tx.now.conn.now) = omega (arith, c.renew_meta.ensures.survives.clean) in
    let place = c.requires.held early in
    let one = (c.in_ok-renew_meta.ensures.ok clean).holds place.0 place.1 in
    (_, one, (c.requires.known early place.0 place.1).floor)

pub shorten_log-requires-clause-inside : goal.shorten_log-requires-clause-inside
shorten_log-requires-clause-inside g c clean =
    let two = c.in_ok-renew_floor.ensures.ok clean in
    (two.is_open, two.is_in)

pub shorten_log-requires-clause-counted : goal.shorten_log-requires-clause-counted
shorten_log-requires-clause-counted g c clean =
    let mid : HasCleanDisk (state g.S.Store c.renew_meta.new.tx.conn.now) = omega (arith, c.renew_floor.ensures.survives.clean) in
    let early : HasCleanDisk (state g.S.Store c.args.tx.now.conn.now) = omega (arith, c.renew_meta.ensures.survives.clean) in
    let place = c.requires.held early in
    let one = (c.in_ok-renew_meta.ensures.ok mid).holds place.0 place.1 in
    let two = (c.in_ok-renew_floor.ensures.ok clean).holds _ one in
    (_, two, (c.requires.known early place.0 place.1).counted)

pub append_all-requires-clause-inside : goal.append_all-requires-clause-inside
append_all-requires-clause-inside g c clean =
    let three = c.in_ok-shorten_log.ensures.ok clean in
    (three.is_open, three.is_in)

pub append_all-requires-clause-next : goal.append_all-requires-clause-next
append_all-requires-clause-next g c clean =
    let later : HasCleanDisk (state g.S.Store c.renew_floor.new.tx.conn.now) = omega (arith, c.shorten_log.ensures.survives.clean) in
    let mid : HasCleanDisk (state g.S.Store c.renew_meta.new.tx.conn.now) = omega (arith, c.renew_floor.ensures.survives.clean) in
    let early : HasCleanDisk (state g.S.Store c.args.tx.now.conn.now) = omega (arith, c.renew_meta.ensures.survives.clean) in
    let place = c.requires.held early in
    let one = (c.in_ok-renew_meta.ensures.ok mid).holds place.0 place.1 in
    let two = (c.in_ok-renew_floor.ensures.ok later).holds _ one in
    let three = (c.in_ok-shorten_log.ensures.ok clean).holds _ two in
    (_, three, ap (λ n. n + 1) (sym (length-take-le c.args.change.now.kept place.0.log place.2)))

pub returns-clause-ok : goal.returns-clause-ok
returns-clause-ok g c clean =
    let late : HasCleanDisk (state g.S.Store c.shorten_log.new.tx.conn.now) = omega (arith, c.append_all.ensures.survives.clean) in
    let later : HasCleanDisk (state g.S.Store c.renew_floor.new.tx.conn.now) = omega (arith, c.shorten_log.ensures.survives.clean) in
    let mid : HasCleanDisk (state g.S.Store c.renew_meta.new.tx.conn.now) = omega (arith, c.renew_floor.ensures.survives.clean) in
    let second = goes_on _ _ _ _ _ (c.in_ok-renew_meta.ensures.ok mid) (c.in_ok-renew_floor.ensures.ok later) in
    let third = goes_on _ _ _ _ _ second (c.in_ok-shorten_log.ensures.ok late) in
    let all = goes_on _ _ _ _ _ third (rw c.deref.ensures.value at (c.in_ok-append_all.ensures.ok clean)) in
    rw c.number_of_vote.ensures at all
