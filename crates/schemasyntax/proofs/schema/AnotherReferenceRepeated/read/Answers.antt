use Rattle.sqltokens.specs.declared.token.Sign.TheVariants.{Comma}
use Rattle.sqltokens.specs.What.{sign}
use Rattle.sqltokens.proofs.Symbols.{a_sign}
use Rattle.schemasyntax.specs.Schemas.{reference, reference_form}
use Rattle.namesyntax.proofs.Shorter.{behind}
use Rattle.schemasyntax.proofs.LawsSchema.{reference_lawful}
use Rattle.schemasyntax.proofs.schema.AnotherReferenceRepeated.read.Goals as goal

pub returns-clause-shorter : goal.returns-clause-shorter
returns-clause-shorter c =
    behind (sign Comma) (a_sign Comma) reference reference_lawful reference_form c.reference.result c.args.cursor.now.rest.now c.sign.new.cursor.rest.now c.reference.new.cursor.rest.now c.in_ok-sign.ensures c.reference.ensures
