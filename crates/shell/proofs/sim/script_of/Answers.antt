use Rattle.shell.proofs.Scripts.{script_read, script_unread}
use Rattle.shell.proofs.sim.script_of.Goals as goal

pub returns-in-Ok-clause-script : goal.returns-in-Ok-clause-script
returns-in-Ok-clause-script c = script_read c.in-Ok.text.now c.args.bytes.now c.in-Ok.ensures.cases.0 c.in-Ok.ensures.cases.1 c.read_script.result c.read_script.ensures.lines

pub returns-in-Ok-clause-err : goal.returns-in-Ok-clause-err
returns-in-Ok-clause-err c = script_unread c.in-Ok.text.now c.args.bytes.now c.in-Ok.ensures.cases.0 c.in-Ok.ensures.cases.1 c.read_script.result c.ways_apart.ensures.bad c.ways_apart.ensures.refused c.read_script.ensures.err
