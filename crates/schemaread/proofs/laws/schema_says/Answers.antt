use Rattle.schemaread.proofs.SayingSchemas.{schema_says, schema_bounded, schema_one}
use Rattle.schemaread.proofs.laws.schema_says.Goals as goal

pub returns-clause-says : goal.returns-clause-says
returns-clause-says c = schema_says c.forms_told.ensures

pub returns-clause-bounded : goal.returns-clause-bounded
returns-clause-bounded c = schema_bounded

pub returns-clause-one : goal.returns-clause-one
returns-clause-one c = schema_one
