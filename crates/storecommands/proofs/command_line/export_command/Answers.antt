use Rattle.storecommands.proofs.CommandLines.{no_export}
use Rattle.storecommands.proofs.command_line.export_command.Goals as goal

pub returns-in-None-clause-none : goal.returns-in-None-clause-none
returns-in-None-clause-none c = no_export _ c.in-None.ensures.none
