use Rattle.readerlaws.proofs.Tables.{rows_share_no_day}
use Rattle.readerlaws.proofs.rows_share_no_day.Goals as goal

pub returns : goal.returns
returns c = rows_share_no_day
