use Rattle.std.proofs.Common.{◌<◌, ◌++◌, [], length, rules, refl}
use Rattle.answertext.specs.Appending.{appends-nothing, appends-more}
use Rattle.shell.proofs.Playing.{begun-at, plays-next}
use Rattle.shell.proofs.Scripts.{on_err}
use Rattle.shell.specs.Showing.{PlaysIn}
use Rattle.shell.proofs.live_run.play_lines.Goals as goal

pub loop-line-init : goal.loop-line-init
loop-line-init g c = ([], (refl, refl), appends-nothing (g.O.Outlet.holds c.args.outlet.now))

pub loop-line-preserved : goal.loop-line-preserved
loop-line-preserved g c =
    let so_far = c.loop-line.invariant in
    let now = c.in_ok-play_line.ensures.played in
    let less : c.loop-line.line-index < length c.args.lines.now = search rules in (
      so_far.0 ++ now.0,
      plays-next (PlaysIn c.args.manner.look.form g.P.Pilot.plays) c.args.showing.now c.args.lines.now c.loop-line.line-index so_far.0 c.loop-line.showing c.line-item.result now.0 _ less c.line-item.is so_far.1 now.1,
      appends-more _ _ _ so_far.0 now.0 so_far.2 now.2,
    )

pub returns-in_err-play_line-clause-begun : goal.returns-in_err-play_line-clause-begun
returns-in_err-play_line-clause-begun g c =
    let less : c.loop-line.line-index < length c.args.lines.now = search rules in
    on_err c.from_residual.result _ (begun-at (PlaysIn c.args.manner.look.form g.P.Pilot.plays) g.O.Outlet.holds c.args.showing.now c.args.lines.now c.loop-line.line-index c.loop-line.showing c.line-item.result c.play_line.new.showing
    (g.O.Outlet.holds c.args.outlet.now) c.loop-line.outlet c.play_line.new.outlet less c.line-item.is c.loop-line.invariant c.in_err-play_line.ensures.begun)
