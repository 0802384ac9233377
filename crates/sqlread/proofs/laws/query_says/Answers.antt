use Rattle.sqlread.proofs.Saying.{query_says, query_bounded}
use Rattle.sqlread.proofs.laws.query_says.Goals as goal

pub returns-clause-says : goal.returns-clause-says
returns-clause-says c = query_says c.forms_told.ensures.query

pub returns-clause-bounded : goal.returns-clause-bounded
returns-clause-bounded c = query_bounded
