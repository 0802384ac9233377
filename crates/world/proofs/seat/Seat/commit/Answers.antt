use Rattle.std.proofs.Common.{◌∙◌, ap, refl}
use Rattle.node.specs.Member.{member_of}
use Rattle.world.specs.View.{node_in, occupant, occupant_of}
use Rattle.world.proofs.Seating.{commit_there}
use Rattle.world.proofs.seat.Seat.commit.Goals as goal

pub returns-in-Up : goal.returns-in-Up
returns-in-Up c t n m seat =
    let x = c.in-Up.node in
    c.commit.ensures ∙ commit_there t n m c.args.self.now (occupant_of x) (ap occupant c.in-Up.is) (member_of x) refl (ap node_in c.in-Up.is) seat
