use Rattle.lines.proofs.Ways.{read_is_not_bad, read_is_not_refused, bad_is_not_refused}
use Rattle.lines.proofs.laws.ways_apart.Goals as goal

pub returns-clause-bad : goal.returns-clause-bad
returns-clause-bad c = read_is_not_bad

pub returns-clause-refused : goal.returns-clause-refused
returns-clause-refused c = read_is_not_refused c.schema_says.ensures.one

pub returns-clause-bad_or_refused : goal.returns-clause-bad_or_refused
returns-clause-bad_or_refused c = bad_is_not_refused c.schema_says.ensures.one
