-- What is seen of a recorder.
use Rattle.std.specs.Prelude.{ℕ, Bool, List, Option, is_some}
use Rattle.model.specs.Lists.{nth_or, with_nth}
use Rattle.lanes.specs.declared.fates.Fate.{Fate}
use Rattle.lanes.specs.declared.recorder.Recorder.{Recorder}
use Rattle.lanes.specs.declared.role.Role.{Role}
use Rattle.lanes.specs.declared.role.Standing.{Standing}
use Rattle.lanes.specs.Roles.{opening}

-- what became of each message
abbrev pub fates_of : Recorder → List Fate
fates_of recorder = recorder.fates

-- what each member is
abbrev pub roles_of : Recorder → List Standing
roles_of recorder = recorder.roles

-- with what this makes of member m
abbrev pub with_member : List Standing → ℕ → (Standing → Standing) → List Standing
with_member roles m f = with_nth roles m (f (nth_or roles m opening))
