use Rattle.sqlsyntax.specs.Transactions.{statement, statement_form, is_statement}
use Rattle.namesyntax.proofs.Shorter.{by_some}
use Rattle.sqlsyntax.proofs.LawsTransaction.{statement_begins, statement_lawful}
use Rattle.sqlsyntax.proofs.transaction.AnotherStatementRepeated.read.Goals as goal

pub returns-clause-shorter : goal.returns-clause-shorter
returns-clause-shorter c =
    by_some is_statement statement statement_begins statement_lawful statement_form c.statement.result c.args.cursor.now.rest.now c.statement.new.cursor.rest.now c.statement.ensures
