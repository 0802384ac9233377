use Rattle.sqlsyntax.specs.Queries.{query}
use Rattle.sqlsyntax.specs.Transactions.{statements}
use Rattle.sqltokens.proofs.Told.{is_told}
use Rattle.sqlsyntax.proofs.LawsQuery.{query_lawful}
use Rattle.sqlsyntax.proofs.LawsTransaction.{statements_lawful}
use Rattle.sqlsyntax.proofs.laws.forms_told.Goals as goal

pub returns-clause-query : goal.returns-clause-query
returns-clause-query c = is_told query query_lawful

pub returns-clause-transaction : goal.returns-clause-transaction
returns-clause-transaction c = is_told statements statements_lawful
