use Rattle.shell.proofs.Playing.{run_begun, run_printed}
use Rattle.shell.proofs.live_run.run_by.Goals as goal

pub returns-in-Ok-clause-begun : goal.returns-in-Ok-clause-begun
returns-in-Ok-clause-begun g c =
    run_begun c.args.run.look.form g.P.Pilot.plays g.P.Pilot.recorded c.args.script.now.schema c.args.script.now.lines.items c.args.pilot c.in-Ok.records.lives.items c.in-Ok.records.answers.items
    (g.O.Outlet.holds c.args.outlet.now) c.end_run.result g.O.Outlet.holds c.fly.new.outlet c.end_run.new.outlet (rw c.as_slice.ensures.value at c.in-Ok.ensures.records) c.end_run.ensures.begun

pub returns-in-Ok-clause-printed : goal.returns-in-Ok-clause-printed
returns-in-Ok-clause-printed g c =
    run_printed c.args.run.look.form g.P.Pilot.plays g.P.Pilot.recorded c.args.script.now.schema c.args.script.now.lines.items c.args.pilot c.in-Ok.records.lives.items c.in-Ok.records.answers.items
    (g.O.Outlet.holds c.args.outlet.now) c.end_run.result (g.O.Outlet.holds c.fly.new.outlet) (g.O.Outlet.holds c.end_run.new.outlet) (rw c.as_slice.ensures.value at c.in-Ok.ensures.records) c.end_run.ensures.said
