use Rattle.sqltokens.specs.declared.token.Sign.TheVariants.{Comma}
use Rattle.sqltokens.specs.What.{sign}
use Rattle.sqltokens.proofs.Symbols.{a_sign}
use Rattle.sqlsyntax.specs.Transactions.{assignment, assignment_form}
use Rattle.namesyntax.proofs.Shorter.{behind}
use Rattle.sqlsyntax.proofs.LawsTransaction.{assignment_lawful}
use Rattle.sqlsyntax.proofs.transaction.AnotherAssignmentRepeated.read.Goals as goal

pub returns-clause-shorter : goal.returns-clause-shorter
returns-clause-shorter c =
    behind (sign Comma) (a_sign Comma) assignment assignment_lawful assignment_form c.assignment.result c.args.cursor.now.rest.now c.sign.new.cursor.rest.now c.assignment.new.cursor.rest.now c.in_ok-sign.ensures c.assignment.ensures
