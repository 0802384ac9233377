use Rattle.sqltokens.specs.declared.token.Sign.TheVariants.{Comma}
use Rattle.sqltokens.specs.What.{sign}
use Rattle.sqltokens.proofs.Symbols.{a_sign}
use Rattle.schemasyntax.specs.Schemas.{column, column_form}
use Rattle.namesyntax.proofs.Shorter.{before}
use Rattle.schemasyntax.proofs.LawsSchema.{column_lawful}
use Rattle.schemasyntax.proofs.schema.ColumnBeforeCommaRepeated.read.Goals as goal

pub returns-clause-shorter : goal.returns-clause-shorter
returns-clause-shorter c =
    before (sign Comma) (a_sign Comma) column column_lawful (column_form c.in_ok-column.column) c.args.cursor.now.rest.now c.column.new.cursor.rest.now c.sign.new.cursor.rest.now c.in_ok-column.ensures c.in_ok-sign.ensures
