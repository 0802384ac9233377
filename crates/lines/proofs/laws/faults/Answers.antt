use Rattle.lines.proofs.Ways.{read_has_no_fault, one_fault}
use Rattle.lines.proofs.laws.faults.Goals as goal

pub returns-clause-read : goal.returns-clause-read
returns-clause-read c = read_has_no_fault c.schema_says.ensures.one

pub returns-clause-one : goal.returns-clause-one
returns-clause-one c = one_fault c.schema_says.ensures.one
