use Rattle.schemasyntax.specs.Schemas.{tables}
use Rattle.sqltokens.proofs.Told.{is_told}
use Rattle.schemasyntax.proofs.LawsSchema.{tables_lawful}
use Rattle.schemasyntax.proofs.laws.forms_told.Goals as goal

pub returns : goal.returns
returns c = is_told tables tables_lawful
