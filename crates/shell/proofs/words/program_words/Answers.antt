use Rattle.std.proofs.Common.{rules}
use Rattle.shell.proofs.words.program_words.Goals as goal

pub returns : goal.returns
returns c = search rules
