use Rattle.std.proofs.Common.{refl}
use Rattle.model.specs.Worlds.{new_world}
use Rattle.script.specs.Brought.{IsPrinted}
use Rattle.script.specs.Stage.{events_in}
use Rattle.shell.specs.Sim.{acts_of}
use Rattle.sqlread.specs.Meaning.{language_of}
use Rattle.shell.proofs.sim.play_text.Goals as goal

pub returns : goal.returns
returns g c =
    let script = c.in_ok-script.script in
    let lines = script.lines.items in
    let acts = acts_of script.members script.schema lines in
    let printed : IsPrinted script.schema script.members (new_world script.members) acts (g.O.Outlet.holds c.args.outlet.now) (g.O.Outlet.holds c.play_lines.new.outlet) = rw c.as_slice.ensures.value at c.in_ok-play_lines.ensures.printed in
    let agree = c.promises.ensures.agree (language_of script.schema) script.members (events_in acts) in
    let explained = c.promises.ensures.explained (language_of script.schema) script.members (events_in acts) in
    (refl, (script.members, script.schema, lines, c.in_ok-script.ensures.script, printed, agree, explained), c.in_ok-play_lines.ensures.sent)
