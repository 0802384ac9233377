use Rattle.readerlaws.proofs.Whole.{no_orphans, orphans_are_refused, tables_arise}
use Rattle.readerlaws.proofs.no_orphans.Goals as goal

pub returns-clause-parents : goal.returns-clause-parents
returns-clause-parents c = no_orphans c.texts_fine.ensures c.fine_logs.ensures c.logs_on_rows.ensures c.no_orphan_after.ensures c.references.ensures

pub returns-clause-refused : goal.returns-clause-refused
returns-clause-refused c = orphans_are_refused c.action_on_rows.ensures c.references.ensures c.none_accepted.ensures

pub returns-clause-tables : goal.returns-clause-tables
returns-clause-tables c = tables_arise c.texts_fine.ensures
