use Rattle.readerlaws.proofs.Tables.{inserted_is_there, insert_is_refused}
use Rattle.readerlaws.proofs.inserted_is_there.Goals as goal

pub returns-clause-there : goal.returns-clause-there
returns-clause-there c = inserted_is_there c.action_on_rows.ensures c.each_listed.ensures

pub returns-clause-refused : goal.returns-clause-refused
returns-clause-refused c = insert_is_refused c.action_on_rows.ensures c.each_listed.ensures c.overlaps_on_rows.ensures
