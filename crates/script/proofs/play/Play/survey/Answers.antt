use Rattle.std.proofs.Common.{◌≡◌, ◌∙◌, sym, ap, arith, length}
use Rattle.script.specs.Standing.{foremost, longest}
use Rattle.script.specs.Plays.{stage_of}
use Rattle.script.proofs.Recovering.{surveyed_none, surveyed_won, surveyed_lost}
use Rattle.script.proofs.play.Play.survey.Goals as goal
use Rattle.script.proofs.play.Play.survey.Goals.{then-is_up_to_date, else-is_up_to_date}

pub loop-place-init : goal.loop-place-init
loop-place-init c = surveyed_none c.args.self.now c.requires.live

pub loop-place-preserved : goal.loop-place-preserved
loop-place-preserved c = elim c.if-is_up_to_date.branch [
  | then-is_up_to_date w ↦
      rw (w.first-is, w.best-is, c.max-longest.ensures)
      (surveyed_won c.args.self.now c.loop-place.self c.standing.new.self c.loop-place.place c.loop-place.first c.loop-place.longest c.loop-place.best c.in_ok-standing.standing
      c.loop-place.invariant c.in_ok-standing.ensures.standing c.in_ok-standing.ensures.still (sym c.is_up_to_date.ensures ∙ w.if-is_up_to_date.true))
  | else-is_up_to_date w ↦
      rw (w.first-is, w.best-is, c.max-longest.ensures)
      (surveyed_lost c.args.self.now c.loop-place.self c.standing.new.self c.loop-place.place c.loop-place.first c.loop-place.longest c.loop-place.best c.in_ok-standing.standing
      c.loop-place.invariant c.in_ok-standing.ensures.standing c.in_ok-standing.ensures.still (sym c.is_up_to_date.ensures ∙ w.if-is_up_to_date.false))
]

pub returns-clause-foremost : goal.returns-clause-foremost
returns-clause-foremost c =
    let all : c.loop-place.place ≡ length c.args.self.now.clocks.items = omega (arith, c.len-members.ensures) in
    c.loop-place.invariant.first_is ∙ ap (λ k. foremost k (stage_of c.args.self.now).world) all

pub returns-clause-longest : goal.returns-clause-longest
returns-clause-longest c =
    let all : c.loop-place.place ≡ length c.args.self.now.clocks.items = omega (arith, c.len-members.ensures) in
    c.loop-place.invariant.most_is ∙ ap (λ k. longest k (stage_of c.args.self.now).world) all

pub returns-clause-still : goal.returns-clause-still
returns-clause-still c = c.loop-place.invariant.still
