use Rattle.versionlaws.proofs.Kept.{keeps_in_log}
use Rattle.versionlaws.proofs.keeps.Goals as goal

pub returns : goal.returns
returns c = keeps_in_log c.logs_on_rows.ensures c.logs_follow.ensures c.touched.ensures
