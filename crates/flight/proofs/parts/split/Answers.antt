use Rattle.flight.proofs.Numbers.{split_only, split_none}
use Rattle.flight.proofs.parts.split.Goals as goal

pub returns-clause-only : goal.returns-clause-only
returns-clause-only c = split_only c.args.end c.args.text.now c.requires c.split_once.result c.split_once.ensures.cases

pub returns-clause-none : goal.returns-clause-none
returns-clause-none c = split_none c.args.end c.args.text.now c.requires c.split_once.result c.split_once.ensures.cases
