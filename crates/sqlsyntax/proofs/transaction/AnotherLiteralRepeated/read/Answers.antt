use Rattle.sqltokens.specs.declared.token.Sign.TheVariants.{Comma}
use Rattle.sqltokens.specs.What.{sign}
use Rattle.sqltokens.proofs.Symbols.{a_sign}
use Rattle.sqlsyntax.specs.Shared.{literal, literal_form}
use Rattle.namesyntax.proofs.Shorter.{behind}
use Rattle.sqlsyntax.proofs.LawsShared.{literal_lawful}
use Rattle.sqlsyntax.proofs.transaction.AnotherLiteralRepeated.read.Goals as goal

pub returns-clause-shorter : goal.returns-clause-shorter
returns-clause-shorter c =
    behind (sign Comma) (a_sign Comma) literal literal_lawful literal_form c.literal.result c.args.cursor.now.rest.now c.sign.new.cursor.rest.now c.literal.new.cursor.rest.now c.in_ok-sign.ensures c.literal.ensures
