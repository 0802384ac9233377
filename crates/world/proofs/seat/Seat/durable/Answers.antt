use Rattle.std.proofs.Common.{◌∙◌, ap, refl}
use Rattle.std.proofs.lemmas.Result.{IfOk-weaker}
use Rattle.node.specs.Member.{member_of}
use Rattle.world.specs.View.{node_in, occupant, occupant_of}
use Rattle.world.proofs.Seating.{durable_there}
use Rattle.world.proofs.seat.Seat.durable.Goals as goal

pub returns-in-Up : goal.returns-in-Up
returns-in-Up c t n m seat =
    let x = c.in-Up.node in
    c.ok.ensures.value ∙ durable_there t n m c.args.self.now (occupant_of x) (ap occupant c.in-Up.is) (member_of x) refl (ap node_in c.in-Up.is) seat c.durable.result (IfOk-weaker c.durable.result _ _ (λ d h. (h.0, h.1 tt)) c.durable.ensures.ok) c.durable.ensures.down
