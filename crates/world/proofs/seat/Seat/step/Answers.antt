use Rattle.std.proofs.Common.{◌≡◌, ap, refl, subst, Err}
use Rattle.model.specs.Steps.{Refuses}
use Rattle.node.specs.View.{Gave, IsSame}
use Rattle.node.specs.declared.node.Fault.{Fault}
use Rattle.node.specs.Member.{effect_at, member_of}
use Rattle.world.specs.View.{node_in, occupant, occupant_of}
use Rattle.world.proofs.Seating.{member, made_there, kept}
use Rattle.world.proofs.seat.Seat.step.Goals as goal

pub returns-in-Ok-clause-step : goal.returns-in-Ok-clause-step
returns-in-Ok-clause-step c t n m seat =
    let x = c.in-Up.node in
    let here = member t n m c.args.self.now (occupant_of x) (ap occupant c.in-Up.is) (member_of x) refl (ap node_in c.in-Up.is) seat in
    made_there t n m c.args.self.now (occupant_of x) (ap occupant c.in-Up.is) (member_of x) refl (ap node_in c.in-Up.is) seat (member_of c.step.new.self) c.args.work c.in-Ok.out (c.in-Ok.ensures.done here.is_up tt) (c.in-Ok.ensures.told tt)

pub returns-in-Err-Kept-clause-step : goal.returns-in-Err-Kept-clause-step
returns-in-Err-Kept-clause-step c t n m seat =
    let x = c.in-Up.node in
    let here = member t n m c.args.self.now (occupant_of x) (ap occupant c.in-Up.is) (member_of x) refl (ap node_in c.in-Up.is) seat in
    let effect = effect_at x c.args.work in
    let P : Fault → Type 0 = λ f. Gave (member_of x) (member_of c.step.new.self) effect (Err f) in
    let did : Refuses c.in-Err-Kept.refusal ≡ effect = subst P c.in-Err-Kept.field-0-is (c.in-Err-Kept.ensures.done here.is_up tt) in
    let Q : Fault → Type 0 = λ f. IsSame (member_of x) (member_of c.step.new.self) f in
    kept t n m c.args.self.now (occupant_of x) (ap occupant c.in-Up.is) (member_of x) refl (ap node_in c.in-Up.is) seat (member_of c.step.new.self) c.args.work c.in-Err-Kept.refusal did (subst Q c.in-Err-Kept.field-0-is (c.in-Err-Kept.ensures.same tt))
