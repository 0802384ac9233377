use Rattle.readerlaws.proofs.Tables.{deleted_is_gone}
use Rattle.readerlaws.proofs.deleted_is_gone.Goals as goal

pub returns : goal.returns
returns c = deleted_is_gone c.action_on_rows.ensures c.each_listed.ensures
