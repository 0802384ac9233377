use Rattle.overlaps.proofs.Ordered.{list_any-with_item, find-none}
use Rattle.overlaps.proofs.laws.one_more_period.Goals as goal

pub returns-clause-some : goal.returns-clause-some
returns-clause-some c = list_any-with_item

pub returns-clause-none : goal.returns-clause-none
returns-clause-none c = find-none
