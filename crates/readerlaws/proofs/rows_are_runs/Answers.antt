use Rattle.readerlaws.proofs.Tables.{rows_are_runs, no_longer_run}
use Rattle.readerlaws.proofs.rows_are_runs.Goals as goal

pub returns-clause-runs : goal.returns-clause-runs
returns-clause-runs c = rows_are_runs c.action_on_rows.ensures c.each_listed.ensures

pub returns-clause-longest : goal.returns-clause-longest
returns-clause-longest c = no_longer_run
