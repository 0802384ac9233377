use Rattle.script.specs.Player.{group_of, standing_of, tables_in, members_in, now_of}
use Rattle.shell.proofs.Scripts.{on_err, lines_begun, lines_cut, lines_printed}
use Rattle.shell.proofs.sim.play_lines.Goals as goal

pub returns-in_err-send-clause-begun : goal.returns-in_err-send-clause-begun
returns-in_err-send-clause-begun g c =
    let start = c.in_ok-player.ensures in
    let player = c.in_ok-player.player in
    on_err c.from_residual-in_err-send.result _ (
    lines_begun c.args.schema c.args.members c.args.lines.now (tables_in (group_of player)) (members_in (group_of player)) (now_of (group_of player)) (standing_of player) start.schema start.members start.group start.stage
    (g.O.Outlet.holds c.args.outlet.now) (g.O.Outlet.holds c.play_all.new.printer) (g.O.Outlet.holds c.send.new.self)
    (c.in_ok-play_all.ensures.plays start.goes_on).1 c.send.ensures.kept)

pub returns-in_err-play_all-clause-begun : goal.returns-in_err-play_all-clause-begun
returns-in_err-play_all-clause-begun g c =
    let start = c.in_ok-player.ensures in
    let player = c.in_ok-player.player in
    on_err c.from_residual-in_err-play_all.result _ (
    lines_cut c.args.schema c.args.members c.args.lines.now (tables_in (group_of player)) (members_in (group_of player)) (now_of (group_of player)) (standing_of player) start.schema start.members start.group start.stage
    (g.O.Outlet.holds c.args.outlet.now) (g.O.Outlet.holds c.play_all.new.printer) (c.in_err-play_all.ensures.plays start.goes_on).1)

pub returns-clause-printed : goal.returns-clause-printed
returns-clause-printed g c =
    let start = c.in_ok-player.ensures in
    let player = c.in_ok-player.player in
    lines_printed c.args.schema c.args.members c.args.lines.now (tables_in (group_of player)) (members_in (group_of player)) (now_of (group_of player)) (standing_of player) start.schema start.members start.group start.stage
    (g.O.Outlet.holds c.args.outlet.now) (g.O.Outlet.holds c.play_all.new.printer) (g.O.Outlet.holds c.send.new.self)
    (c.in_ok-play_all.ensures.plays start.goes_on).1 c.in_ok-send.ensures.kept
