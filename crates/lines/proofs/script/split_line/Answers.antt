use Rattle.std.proofs.Common.{arith}
use Rattle.std.proofs.lemmas.Str.Pattern.{split_once_first}
use Rattle.lines.proofs.Scripts.{pieces_split, pieces_last}
use Rattle.lines.proofs.script.split_line.Goals as goal

pub returns-clause-first : goal.returns-clause-first
returns-clause-first c = pieces_split c.args.text.now c.split_once.result (split_once_first 10 c.args.text.now c.split_once.result c.split_once.ensures.cases (omega arith))

pub returns-clause-last : goal.returns-clause-last
returns-clause-last c = pieces_last c.args.text.now c.split_once.result (split_once_first 10 c.args.text.now c.split_once.result c.split_once.ensures.cases (omega arith))
