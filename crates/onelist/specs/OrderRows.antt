-- Worked rows of order: short lists of events, and what comes of them, found by computing the definitions. The runs are those of
-- the model's own rows.
use Rattle.std.specs.Prelude.{◌≡◌, pos, Some, List, [], ◌∷◌, ◌++◌, map}
use Rattle.model.specs.declared.message.Input.TheVariants.{Submit}
use Rattle.model.specs.declared.event.Job.TheVariants.{Local}
use Rattle.model.specs.declared.event.Left.{Left}
use Rattle.model.specs.declared.event.Left.TheVariants.{Old, New}
use Rattle.model.specs.Members.{closed_time}
use Rattle.model.specs.Worlds.{World, Event, Hand, Deliver, Stop, Start, Torn, led_world, run}
use Rattle.model.specs.Agreement.{decided}
use Rattle.model.specs.Rows.{dept, request, request_entry, deliveries, inserted_entry, told_insert}
use Rattle.onelist.specs.Order.{IsToldAfter}

abbrev pub after : List Event → World
after events = run dept 3 (led_world 3) events

-- a request is submitted, and member 2 acknowledges it
abbrev pub acknowledged : List Event
acknowledged = Hand 1 (Submit (pos 100) (request 7 1)) ∷ deliveries 1 2

-- it is told of; then the leader's clock shows 50, and one more is submitted
abbrev pub told_and_more : List Event
told_and_more = deliveries 3 6 ++ Hand 1 (Submit (pos 50) (request 8 1)) ∷ deliveries 9 8

-- the later one stands after, and is stamped after, though the clock went back
abbrev pub ClockFalls : Type 0
ClockFalls =
    IsToldAfter dept 3 (led_world 3) acknowledged told_and_more told_insert
    × (decided dept 3 (led_world 3) (acknowledged ++ told_and_more) ≡ request_entry 1 100 7 1 ∷ request_entry 1 101 8 1 ∷ [])

abbrev pub torn_submit : Left → List Event
torn_submit left = Torn 1 (Local (Submit (pos 100) (request 7 1))) left ∷ []

-- a request whose step was cut short stands in the log where it was stored, and nowhere where it was not
abbrev pub TornSubmit : Type 0
TornSubmit = (map (λ x. x.log) (after (torn_submit New)).nodes ≡ inserted_entry ∷ [] ∷ [] ∷ []) × (map (λ x. x.log) (after (torn_submit Old)).nodes ≡ [] ∷ [] ∷ [] ∷ [])

-- a member that was stopped, and is started again, may be told an old commit first: its closed time is then below what it was
abbrev pub RestartFallsBack : Type 0
RestartFallsBack =
    (map closed_time (after (acknowledged ++ told_and_more)).nodes ≡ Some 101 ∷ Some 101 ∷ Some 101 ∷ [])
    × (map closed_time (after (acknowledged ++ told_and_more ++ Stop 3 ∷ Start 3 ∷ Deliver 6 (pos 100) ∷ [])).nodes ≡ Some 101 ∷ Some 101 ∷ Some 100 ∷ [])
