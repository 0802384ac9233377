use Rattle.std.proofs.Common.{◌≡◌, ◌*◌, length, suc, arith}
use Rattle.script.specs.Plays.{stage_of, tables_of, members_of}
use Rattle.script.specs.Stage.{stirred, deliveries_from}
use Rattle.script.proofs.Recovering.{turned, first_fails}
use Rattle.script.proofs.play.Play.turn.Goals as goal

pub returns-in-Err-clause-plays : goal.returns-in-Err-clause-plays
returns-in-Err-clause-plays g c =
    let first = c.args.self.now in
    first_fails first c.stir.new.self c.requires.live (stirred (tables_of first) (members_of first) c.args.node (stage_of first)) _ _
    (deliveries_from (tables_of first) (members_of first) (2 * length first.clocks.items) (suc (length first.mail))) c.in-Err.fault c.stir.new.self c.in-Err.ensures.plays

pub returns-clause-plays : goal.returns-clause-plays
returns-clause-plays g c =
    let count : c.len-members.result ≡ length c.args.self.now.clocks.items = omega (arith, c.len-members.ensures) in
    turned c.args.self.now c.stir.new.self c.deliver_from.new.self c.requires.live c.args.node c.len-sent.result c.len-members.result c.len-sent.ensures count c.deliver_from.result _ _ _ c.in_default.ensures.plays c.deliver_from.ensures.plays
