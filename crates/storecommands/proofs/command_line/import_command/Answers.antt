use Rattle.storecommands.proofs.CommandLines.{no_import}
use Rattle.storecommands.proofs.command_line.import_command.Goals as goal

pub returns-in-None-clause-none : goal.returns-in-None-clause-none
returns-in-None-clause-none c = no_import _ c.in-None.ensures.none
