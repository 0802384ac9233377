use Rattle.lines.proofs.Ways.{one_bad_line, one_refusal, one_reading}
use Rattle.lines.proofs.laws.one_answer.Goals as goal

pub returns-clause-line : goal.returns-clause-line
returns-clause-line c = one_bad_line

pub returns-clause-refusal : goal.returns-clause-refusal
returns-clause-refusal c = one_refusal c.schema_says.ensures.one

pub returns-clause-reading : goal.returns-clause-reading
returns-clause-reading c = one_reading c.schema_says.ensures.one
