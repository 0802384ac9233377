use Rattle.std.proofs.Common.{refl}
use Rattle.model.specs.Values.{same_key, key_cmp}
use Rattle.rowlaws.specs.Cutting.{cut_rows}
use Rattle.rowlaws.specs.Changes.{rows_changed}
use Rattle.rowlaws.specs.Touching.{rows_without}
use Rattle.rowlaws.specs.Covering.{rows_orphan}
use Rattle.rowlaws.proofs.rows_of_lists.Goals as goal

pub returns-clause-portion_update : goal.returns-clause-portion_update
unfolding same_key key_cmp cut_rows rows_changed
returns-clause-portion_update c = refl

pub returns-clause-portion_touched : goal.returns-clause-portion_touched
unfolding same_key key_cmp rows_without
returns-clause-portion_touched c = (refl, refl, refl)

pub returns-clause-refused : goal.returns-clause-refused
unfolding same_key key_cmp cut_rows rows_changed
returns-clause-refused c = (refl, refl, refl)

pub returns-clause-came_and_went : goal.returns-clause-came_and_went
unfolding same_key key_cmp rows_without
returns-clause-came_and_went c = (refl, refl, refl, refl)

pub returns-clause-reference_gap : goal.returns-clause-reference_gap
unfolding same_key key_cmp rows_orphan
returns-clause-reference_gap c = (refl, refl)
