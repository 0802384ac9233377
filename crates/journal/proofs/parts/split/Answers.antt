use Rattle.std.proofs.Common.{arith}
use Rattle.flight.proofs.Numbers.{split_only, split_none}
use Rattle.journal.proofs.parts.split.Goals as goal

pub returns-clause-only : goal.returns-clause-only
returns-clause-only c = split_only 10 c.args.text.now (omega arith) c.split_once.result c.split_once.ensures.cases

pub returns-clause-none : goal.returns-clause-none
returns-clause-none c = split_none 10 c.args.text.now (omega arith) c.split_once.result c.split_once.ensures.cases
