use Rattle.std.proofs.Common.{arith, ◌≡◌, ◌∙◌, ◌+◌, ◌-◌, ◌≤◌, length, suc, sym}
use Rattle.script.specs.Plays.{stage_of, tables_of, members_of}
use Rattle.script.specs.Stage.{deliveries_from}
use Rattle.script.proofs.Recovering.{deliveries_stop, deliveries_more, deliveries_fail}
use Rattle.script.proofs.play.Play.deliver_from.Goals as goal

pub returns-then-sent-place-clause-plays : goal.returns-then-sent-place-clause-plays
returns-then-sent-place-clause-plays g c =
    let first = c.args.self.now in
    let over : length c.loop-delivered.self.mail ≤ c.loop-delivered.place = omega (arith, c.len-sent.ensures, c.if-sent-place.true) in
    deliveries_stop first.world c.loop-delivered.self (deliveries_from (tables_of first) (members_of first) c.args.most (suc c.args.first) (stage_of first)) _ _
    (c.args.most - c.loop-delivered.delivered) c.loop-delivered.place c.loop-delivered.invariant over

pub returns-in-Err-clause-plays : goal.returns-in-Err-clause-plays
returns-in-Err-clause-plays g c =
    let first = c.args.self.now in
    let one : c.args.most - c.loop-delivered.delivered ≡ suc (c.args.most - (c.loop-delivered.delivered + 1)) = omega (arith, c.loop-delivered-test.true) in
    deliveries_fail first.world c.loop-delivered.self (deliveries_from (tables_of first) (members_of first) c.args.most (suc c.args.first) (stage_of first)) _ _
    (c.args.most - c.loop-delivered.delivered) (c.args.most - (c.loop-delivered.delivered + 1)) c.loop-delivered.place one c.loop-delivered.invariant c.in-Err.fault c.deliver_at.new.self c.deliver_at.new.self _ c.in-Err.ensures.plays

pub loop-delivered-preserved : goal.loop-delivered-preserved
loop-delivered-preserved g c =
    let first = c.args.self.now in
    let one : c.args.most - c.loop-delivered.delivered ≡ suc (c.args.most - (c.loop-delivered.delivered + 1)) = omega (arith, c.loop-delivered-test.true) in
    deliveries_more first.world c.loop-delivered.self (deliveries_from (tables_of first) (members_of first) c.args.most (suc c.args.first) (stage_of first)) _ _
    (c.args.most - c.loop-delivered.delivered) (c.args.most - (c.loop-delivered.delivered + 1)) c.loop-delivered.place one c.loop-delivered.invariant c.deliver_at.new.self _ c.in_default.ensures.plays
