use Rattle.std.proofs.Common.{subst}
use Rattle.shell.proofs.Playing.{begun-all}
use Rattle.shell.proofs.Scripts.{on_err}
use Rattle.shell.specs.Live.{PlaysAll}
use Rattle.shell.specs.Showing.{PlaysIn, unshown}
use Rattle.shell.specs.declared.showing.Showing.{Showing}
use Rattle.shell.proofs.live_run.fly.Goals as goal

pub returns-in_err-ended-clause-begun : goal.returns-in_err-ended-clause-begun
returns-in_err-ended-clause-begun g c =
    let p = c.in_ok-played.ensures.played in
    let plays = PlaysIn c.args.manner.look.form g.P.Pilot.plays in
    let last = c.play_lines-played.new.showing in
    let all = subst (λ (s : Showing g.row.P.Denot). PlaysAll plays s c.args.lines.now p.0 last) c.new-showing.ensures p.1 in
    on_err c.from_residual-in_err-ended.result _ (begun-all plays (unshown c.args.pilot) c.args.lines.now p.0 last (g.O.Outlet.holds c.args.outlet.now) (g.O.Outlet.holds c.play_lines-played.new.outlet) all p.2)

pub returns-clause-records : goal.returns-clause-records
returns-clause-records g c =
    let p = c.in_ok-played.ensures.played in
    let last = c.play_lines-played.new.showing in
    let all = subst (λ (s : Showing g.row.P.Denot). PlaysAll (PlaysIn c.args.manner.look.form g.P.Pilot.plays) s c.args.lines.now p.0 last) c.new-showing.ensures p.1 in
    (p.0, last, all, c.in_ok-ended.ensures, p.2)
