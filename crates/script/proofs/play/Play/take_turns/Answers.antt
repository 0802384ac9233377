use Rattle.std.proofs.Common.{arith, ◌≡◌, ◌∙◌, ◌+◌, ◌-◌, suc, sym}
use Rattle.script.specs.Plays.{stage_of, tables_of, members_of}
use Rattle.script.specs.Stage.{turns}
use Rattle.script.proofs.Recovering.{turns_well, turns_more, turns_fail}
use Rattle.script.proofs.play.Play.take_turns.Goals as goal

pub returns-then-well-clause-plays : goal.returns-then-well-clause-plays
returns-then-well-clause-plays g c =
    let first = c.args.self.now in
    turns_well first.world c.loop-taken.self (turns (tables_of first) (members_of first) c.args.most c.args.node (stage_of first)) _ _ (c.args.most - c.loop-taken.taken) c.args.node c.is_well.new.self
    c.in_ok-well.ensures.still c.loop-taken.invariant (sym c.in_ok-well.ensures.well ∙ c.if-well.true)

pub returns-in-Err-clause-plays : goal.returns-in-Err-clause-plays
returns-in-Err-clause-plays g c =
    let first = c.args.self.now in
    let one : c.args.most - c.loop-taken.taken ≡ suc (c.args.most - (c.loop-taken.taken + 1)) = omega (arith, c.loop-taken-test.true) in
    turns_fail first.world c.loop-taken.self (turns (tables_of first) (members_of first) c.args.most c.args.node (stage_of first)) _ _ (c.args.most - c.loop-taken.taken) c.args.node c.is_well.new.self
    c.in_ok-well.ensures.still c.loop-taken.invariant (c.args.most - (c.loop-taken.taken + 1)) one (sym c.in_ok-well.ensures.well ∙ c.if-well.false) c.in-Err.fault c.turn.new.self c.turn.new.self _ c.in-Err.ensures.plays

pub loop-taken-preserved : goal.loop-taken-preserved
loop-taken-preserved g c =
    let first = c.args.self.now in
    let one : c.args.most - c.loop-taken.taken ≡ suc (c.args.most - (c.loop-taken.taken + 1)) = omega (arith, c.loop-taken-test.true) in
    turns_more first.world c.loop-taken.self (turns (tables_of first) (members_of first) c.args.most c.args.node (stage_of first)) _ _ (c.args.most - c.loop-taken.taken) c.args.node c.is_well.new.self
    c.in_ok-well.ensures.still c.loop-taken.invariant (c.args.most - (c.loop-taken.taken + 1)) one (sym c.in_ok-well.ensures.well ∙ c.if-well.false) c.turn.new.self _ c.in_default.ensures.plays
