use Rattle.std.proofs.Common.{arith, ◌≡◌, ◌∙◌, ◌+◌, ◌-◌, length, suc, sym}
use Rattle.script.specs.Plays.{stage_of, tables_of, members_of}
use Rattle.script.specs.Stage.{starts}
use Rattle.script.proofs.Recovering.{starts_begin, starts_more, starts_fail}
use Rattle.script.proofs.play.Play.start_all.Goals as goal

pub loop-place-init : goal.loop-place-init
loop-place-init g c =
    let count : c.len-members.result ≡ length c.args.self.now.clocks.items = omega (arith, c.len-members.ensures) in
    starts_begin c.args.self.now c.len-members.result _ c.requires.live count

pub returns-in-Err-clause-plays : goal.returns-in-Err-clause-plays
returns-in-Err-clause-plays g c =
    let first = c.args.self.now in
    let one : c.len-members.result - c.loop-place.place ≡ suc (c.len-members.result - (c.loop-place.place + 1)) = omega (arith, c.loop-place-test.true) in
    starts_fail first.world c.loop-place.self (starts (tables_of first) (members_of first) (length first.clocks.items) 1 (stage_of first)) _ _
    (c.len-members.result - c.loop-place.place) (c.len-members.result - (c.loop-place.place + 1)) (c.loop-place.place + 1) one c.loop-place.invariant c.in-Err.fault c.happen.new.self c.happen.new.self _ c.in-Err.ensures.plays

pub loop-place-preserved : goal.loop-place-preserved
loop-place-preserved g c =
    let first = c.args.self.now in
    let one : c.len-members.result - c.loop-place.place ≡ suc (c.len-members.result - (c.loop-place.place + 1)) = omega (arith, c.loop-place-test.true) in
    starts_more first.world c.loop-place.self (starts (tables_of first) (members_of first) (length first.clocks.items) 1 (stage_of first)) _ _
    (c.len-members.result - c.loop-place.place) (c.len-members.result - (c.loop-place.place + 1)) (c.loop-place.place + 1) one c.loop-place.invariant c.happen.new.self _ c.in_default.ensures.plays
