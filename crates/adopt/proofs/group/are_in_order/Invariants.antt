use Rattle.std.proofs.Common.{◌≡◌, ◌<◌, ◌+◌, ℕ, get_or}
use Rattle.flight.specs.declared.flight.Flight.{Flight}
use Rattle.adopt.proofs.group.are_in_order.Given as goal

abbrev pub invariant-loop-at : goal.invariant-loop-at
invariant-loop-at l = (k : ℕ) (d : Flight) → k < l.at → (get_or l.flights k d).node ≡ k + 1
