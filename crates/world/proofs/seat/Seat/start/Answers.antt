use Rattle.std.proofs.Common.{◌∙◌, rules, ap, sym}
use Rattle.world.specs.View.{recalled, rest}
use Rattle.world.proofs.Seating.{if_some}
use Rattle.world.proofs.seat.Seat.start.Goals as goal

pub returns-in-Up-clause-seat : goal.returns-in-Up-clause-seat
returns-in-Up-clause-seat c = search rules

pub returns-in-Up-clause-node : goal.returns-in-Up-clause-node
returns-in-Up-clause-node c = search rules

pub returns-in-Ok-clause-seat : goal.returns-in-Ok-clause-seat
returns-in-Ok-clause-seat c = search rules

pub returns-in-Ok-clause-node : goal.returns-in-Ok-clause-node
returns-in-Ok-clause-node c = search rules

pub returns-clause-seat : goal.returns-clause-seat
returns-clause-seat c = search rules

pub returns-clause-node : goal.returns-clause-node
returns-clause-node c = search rules

pub start_again-requires-clause-recall : goal.start_again-requires-clause-recall
start_again-requires-clause-recall c = if_some _ _ (λ r is. c.requires.seat.recall r (ap recalled (sym c.in-Down.ensures.value) ∙ is))

pub start_again-requires-clause-suits : goal.start_again-requires-clause-suits
start_again-requires-clause-suits c = c.requires.seat.down _ (ap rest (sym c.in-Down.ensures.value))
