use Rattle.std.proofs.Common.{arith, ◌≡◌, ◌∙◌, ◌+◌, ◌-◌, suc}
use Rattle.script.specs.Plays.{stage_of, tables_of, members_of}
use Rattle.script.specs.Stage.{rounds}
use Rattle.script.proofs.Rounds.{rounds_settle, rounds_more, rounds_fail}
use Rattle.script.proofs.play.Play.settle.Goals as goal

pub returns-then-first_left-len-clause-plays : goal.returns-then-first_left-len-clause-plays
returns-then-first_left-len-clause-plays g c =
    let first = c.args.self.now in
    rounds_settle first.world c.loop-played.self (rounds (tables_of first) (members_of first) c.args.most (stage_of first)) _ _ (c.args.most - c.loop-played.played) c.first_left.result
    c.loop-played.invariant c.first_left.ensures (c.if-first_left-len.true ∙ c.len.ensures)

pub returns-in-Err-clause-plays : goal.returns-in-Err-clause-plays
returns-in-Err-clause-plays g c =
    let first = c.args.self.now in
    let one : c.args.most - c.loop-played.played ≡ suc (c.args.most - (c.loop-played.played + 1)) = omega (arith, c.loop-played-test.true) in
    rounds_fail first.world c.loop-played.self (rounds (tables_of first) (members_of first) c.args.most (stage_of first)) _ _ (c.args.most - c.loop-played.played) (c.args.most - (c.loop-played.played + 1)) one
    c.loop-played.invariant c.in-Err.fault c.play_round.new.self c.play_round.new.self _ c.in-Err.ensures.plays

pub loop-played-preserved : goal.loop-played-preserved
loop-played-preserved g c =
    let first = c.args.self.now in
    let one : c.args.most - c.loop-played.played ≡ suc (c.args.most - (c.loop-played.played + 1)) = omega (arith, c.loop-played-test.true) in
    rounds_more first.world c.loop-played.self (rounds (tables_of first) (members_of first) c.args.most (stage_of first)) _ _ (c.args.most - c.loop-played.played) (c.args.most - (c.loop-played.played + 1)) one
    c.loop-played.invariant c.play_round.new.self _ c.in_default.ensures.plays
