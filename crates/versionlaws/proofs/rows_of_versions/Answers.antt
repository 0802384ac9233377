use Rattle.std.proofs.Common.{refl}
use Rattle.model.specs.Values.{same_key, key_cmp}
use Rattle.rowlaws.specs.Sorting.{in_order}
use Rattle.versionlaws.specs.Committing.{committed}
use Rattle.versionlaws.specs.Answering.{answer_from}
use Rattle.versionlaws.proofs.rows_of_versions.Goals as goal

pub returns-clause-deleted_version : goal.returns-clause-deleted_version
unfolding same_key key_cmp in_order committed answer_from
returns-clause-deleted_version c = (refl, refl, refl, refl)

pub returns-clause-cut_version : goal.returns-clause-cut_version
unfolding same_key key_cmp in_order committed answer_from
returns-clause-cut_version c = (refl, refl, refl, refl)

pub returns-clause-moved_versions : goal.returns-clause-moved_versions
unfolding same_key key_cmp committed
returns-clause-moved_versions c = (refl, refl)
