use Rattle.versionlaws.proofs.Kept.{holds_in_log}
use Rattle.versionlaws.proofs.holds.Goals as goal

pub returns : goal.returns
returns c = holds_in_log c.logs_on_rows.ensures c.logs_follow.ensures c.touched.ensures
