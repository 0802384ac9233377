use Rattle.versionlaws.proofs.Found.{versions_rows_are}
use Rattle.versionlaws.proofs.versions_rows.Goals as goal

pub returns : goal.returns
returns c = versions_rows_are
