use Rattle.sqlread.proofs.Saying.{transaction_says, transaction_bounded}
use Rattle.sqlread.proofs.laws.transaction_says.Goals as goal

pub returns-clause-says : goal.returns-clause-says
returns-clause-says c = transaction_says c.forms_told.ensures.transaction

pub returns-clause-bounded : goal.returns-clause-bounded
returns-clause-bounded c = transaction_bounded
