use Rattle.std.proofs.Common.{subst}
use Rattle.sqlread.specs.Shapes.{statement_of}
use Rattle.current.specs.Current.{IsNarrow}
use Rattle.current.proofs.current.Current.run.Goals as goal

pub returns-in-Insert-clause-columns : goal.returns-in-Insert-clause-columns
returns-in-Insert-clause-columns c = λ columns before narrow. c.insert.ensures.columns columns before (subst (λ s. IsNarrow columns (statement_of s)) c.in-Insert.is narrow)
