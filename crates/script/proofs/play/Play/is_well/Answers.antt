use Rattle.std.proofs.Common.{◌≡◌, ◌∙◌, ◌+◌, sym, ap, subst, arith, length}
use Rattle.std.specs.Prelude.{Bool}
use Rattle.script.specs.Plays.{stage_of}
use Rattle.script.proofs.Recovering.{InStep, in_step_none, in_step_more, in_step_all}
use Rattle.script.proofs.play.Play.is_well.Goals as goal

pub loop-place-init : goal.loop-place-init
loop-place-init c = in_step_none c.args.self.now c.standing.new.self c.in_ok-leader.leader c.in_ok-leader.ensures.still

pub loop-place-preserved : goal.loop-place-preserved
loop-place-preserved c =
    let P : Bool → Type 0 = λ b. InStep c.args.self.now c.standing-in-loop-place.new.self c.in_ok-leader.leader (c.loop-place.place + 1) b in
    subst P (sym c.is_in_step_too-are_in_step.ensures)
    (in_step_more c.args.self.now c.loop-place.self c.standing-in-loop-place.new.self c.in_ok-leader.leader c.in_ok-standing.standing c.loop-place.place c.loop-place.are_in_step
    c.loop-place.invariant c.in_ok-standing.ensures.standing c.in_ok-standing.ensures.still)

pub returns-clause-well : goal.returns-clause-well
returns-clause-well c =
    let all : c.loop-place.place ≡ length c.args.self.now.clocks.items = omega (arith, c.len-members.ensures) in
    c.is_well.ensures ∙ in_step_all c.args.self.now c.loop-place.self c.args.node c.loop-place.place (length c.args.self.now.clocks.items) c.in_ok-leader.leader c.loop-place.are_in_step c.loop-place.invariant c.in_ok-leader.ensures.standing all

pub returns-clause-still : goal.returns-clause-still
returns-clause-still c = c.loop-place.invariant.still
