use Rattle.std.proofs.Common.{rules}
use Rattle.adopt.specs.Group.{IsRead}
use Rattle.adopt.proofs.Grouping.{zip_more}
use Rattle.adopt.proofs.group.read_flights.Goals as goal

pub loop-text-preserved : goal.loop-text-preserved
loop-text-preserved c =
    let f = c.in_ok-read_flight.field-0 in
    let read : IsRead c.text-item.result f = rw c.as_str.ensures.value at c.in_ok-read_flight.ensures.ok in
    rw c.in_ok-push.ensures.items (zip_more c.args.texts.now c.loop-text.flights.items c.loop-text.text-index c.text-item.result f (search rules) c.text-item.is c.loop-text.invariant read)
