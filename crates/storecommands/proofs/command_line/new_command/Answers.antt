use Rattle.storecommands.proofs.CommandLines.{no_new}
use Rattle.storecommands.proofs.command_line.new_command.Goals as goal

pub returns-in-None-clause-none : goal.returns-in-None-clause-none
returns-in-None-clause-none c = no_new _ c.in-None.ensures.none
