use Rattle.std.proofs.Common.{ap, refl, sym}
use Rattle.node.specs.Member.{member_of}
use Rattle.world.specs.View.{node_in, occupant, occupant_of}
use Rattle.world.proofs.Seating.{at_rest_there, recalled_there, stopped_there, suited_there}
use Rattle.world.proofs.seat.Seat.stop.Goals as goal

pub returns-in-Up-clause-seat : goal.returns-in-Up-clause-seat
returns-in-Up-clause-seat c t n m seat =
    let x = c.in-Up.member in
    let is = sym c.in-Up.ensures.value in
    at_rest_there t n m c.rest-image.result.0 c.rest-image.result.1 (suited_there t n m c.args.self.now (occupant_of x) (ap occupant is) (member_of x) refl (ap node_in is) seat c.rest-image.result.0 c.rest-image.ensures.suits)
    (recalled_there t n m c.args.self.now (occupant_of x) (ap occupant is) (member_of x) refl (ap node_in is) seat c.rest-image.result.1 c.rest-image.ensures.recall)

pub returns-in-Up-clause-node : goal.returns-in-Up-clause-node
returns-in-Up-clause-node c t n m seat =
    let x = c.in-Up.member in
    let is = sym c.in-Up.ensures.value in
    stopped_there t n m c.args.self.now (occupant_of x) (ap occupant is) (member_of x) refl (ap node_in is) seat c.rest-image.result.0 (λ up d held. c.rest-image.ensures.last up d held)
