use Rattle.std.proofs.Common.{◌<◌, [], length, arith}
use Rattle.beginnings.specs.declared.beginning.Beginning.{Beginning}
use Rattle.beginnings.proofs.Seen.{found_more}
use Rattle.beginnings.proofs.group.found_in.Goals as goal

pub loop-place-preserved : goal.loop-place-preserved
loop-place-preserved c =
    let less : c.loop-place.place < length c.args.flights.now = omega arith in
    let short : c.loop-place.place < length c.args.seen.now = omega (arith, less, c.requires) in
    let blank : Beginning = record { bytes = 0; answers = 0; digest = [] } in
    rw c.in_ok-push.ensures.items (found_more c.args.flights.now c.args.seen.now c.loop-place.place c.index-flights-place.result blank c.loop-place.found.items c.in_ok-own.own less short c.index-flights-place.is c.loop-place.invariant c.in_ok-own.ensures)
