use Rattle.sqltokens.specs.declared.token.Keyword.TheVariants as keyword
use Rattle.sqltokens.specs.What.{is_word}
use Rattle.schemasyntax.specs.Schemas.{table, table_form}
use Rattle.namesyntax.proofs.Shorter.{by_some}
use Rattle.schemasyntax.proofs.LawsSchema.{table_begins, table_lawful}
use Rattle.schemasyntax.proofs.schema.AnotherTableRepeated.read.Goals as goal

pub returns-clause-shorter : goal.returns-clause-shorter
returns-clause-shorter c =
    by_some (is_word keyword.Create) table table_begins table_lawful table_form c.table.result c.args.cursor.now.rest.now c.table.new.cursor.rest.now c.table.ensures
