-- What becomes of messages. They are numbered from 1.
use Rattle.std.specs.Prelude.{ℕ, ◌+◌, ◌++◌, Bool, true, false, if◌then◌else◌, Option, Some, None, List, [], ◌∷◌}
use Rattle.model.specs.Lists.{nth, with_nth}
use Rattle.lanes.specs.declared.fates.Fate.{Fate}
use Rattle.lanes.specs.declared.fates.Fate.TheVariants.{UnderWay, Taken, Missed, Lost, Unseen}

abbrev pub is_under_way : Option Fate → Bool
is_under_way (Some UnderWay) = true
is_under_way (Some Taken) = false
is_under_way (Some Missed) = false
is_under_way (Some Lost) = false
is_under_way (Some Unseen) = false
is_under_way None = false

-- the k-th message is lost, where it is under way
abbrev pub lost : List Fate → ℕ → List Fate
lost fates k = if is_under_way (nth fates k) then with_nth fates k Lost else fates

-- the number of a message that is under way
abbrev pub number_if : ℕ → Fate → List ℕ
number_if k UnderWay = k ∷ []
number_if k Taken = []
number_if k Missed = []
number_if k Lost = []
number_if k Unseen = []

-- the numbers of the messages that are under way, where the first has this number
abbrev pub under_way_from : ℕ → List Fate → List ℕ
under_way_from k [] = []
under_way_from k (fate ∷ fates) = number_if k fate ++ under_way_from (k + 1) fates
