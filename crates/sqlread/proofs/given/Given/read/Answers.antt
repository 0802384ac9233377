use Rattle.sqlsyntax.specs.Shared.{literal_form}
use Rattle.sqlread.proofs.Days.{literal_in_calendar}
use Rattle.sqlread.proofs.given.Given.read.Goals as goal

pub invariant_of-result : goal.invariant_of-result
invariant_of-result c = record { in_calendar = literal_in_calendar c.args.column.1 (literal_form c.args.literal) c.in_ok-value.value c.in_ok-value.ensures }
