use Rattle.std.proofs.Output.{has_written_of_eq}
use Rattle.rowtext.proofs.Values.{day_written, other_written}
use Rattle.rowtext.proofs.transactions.SqlLiteralDisplay.fmt.Goals as goal

pub returns-in-Day-clause-writes : goal.returns-in-Day-clause-writes
returns-in-Day-clause-writes g c = λ plain ok. has_written_of_eq _ _ _ _ _ (day_written c.args.self.now.0.now c.in-Day.field-0 c.in-Day.is) (c.write.ensures.writes plain ok)

pub returns-in_default : goal.returns-in_default
returns-in_default g c = record {
  writes = λ plain ok. has_written_of_eq _ _ _ _ _ (other_written c.args.self.now.0.now c.in_default.not-Day) (c.write-in_default.ensures.writes plain ok);
  styled = tt;
}
