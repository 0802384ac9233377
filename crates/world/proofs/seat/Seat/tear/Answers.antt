use Rattle.std.proofs.Common.{◌∙◌, ap, refl}
use Rattle.model.specs.Worlds.{stopped}
use Rattle.sqlread.specs.Meaning.{language_of}
use Rattle.world.specs.View.{node_in, works_at}
use Rattle.world.proofs.Seating.{made}
use Rattle.world.proofs.seat.Seat.tear.Goals as goal

pub returns-in_ok-step-in-New-clause-node : goal.returns-in_ok-step-in-New-clause-node
returns-in_ok-step-in-New-clause-node c t n m seat =
    let x = node_in c.args.self.now in
    let effect = works_at t n m c.args.work x in
    let step = c.in_ok-step-in-New.ensures in
    c.stop-in-New.ensures.node t n m (step.seat t n m seat) ∙ ap stopped (made (language_of t) m x (node_in c.step.new.self) effect c.in_ok-step-in-New.field-0 (step.step t n m seat)) ∙ rw c.in-New.is refl

pub returns-in_ok-step-in-New-clause-seat : goal.returns-in_ok-step-in-New-clause-seat
returns-in_ok-step-in-New-clause-seat c t n m seat = c.stop-in-New.ensures.seat t n m (c.in_ok-step-in-New.ensures.seat t n m seat)

pub returns-in-Old-clause-node : goal.returns-in-Old-clause-node
returns-in-Old-clause-node c t n m seat = c.stop.ensures.node t n m seat ∙ rw c.in-Old.is refl
