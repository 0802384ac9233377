-- Open versions of a key, by the starts of their periods.
use Rattle.std.specs.Prelude.{◌≡◌, ℕ, Bool, false, ◌&&◌, ◌==◌, Some, is_none, List, filter, slice_get, if◌then◌else◌}
use Rattle.std.specs.declared.cmp.Ordering.{Ordering}
use Rattle.std.specs.BTreeSet.{BTreeSet, contains}
use Rattle.std.specs.Option.{option_map_or}
use Rattle.std.specs.Ordering.{nat_cmp, ordering_then}
use Rattle.versionlaws.specs.Versions.{Version}

-- the version is open, and its period starts on the day
abbrev pub is_open_from : ℕ → Version → Bool
is_open_from start v = is_none v.end && v.row.period.start == start

-- the open versions that start on the day
abbrev pub open_from : ℕ → List Version → List Version
open_from start versions = filter (is_open_from start) versions

-- a version that is open and starts on the day ends at t
abbrev pub ended_from : ℕ → ℕ → Version → Version
ended_from t start v = if is_open_from start v then record { row = v.row; end = Some t } else v

-- by start, then by place
abbrev pub place_cmp : ℕ × ℕ → ℕ × ℕ → Ordering
place_cmp p q = ordering_then (nat_cmp p.0 q.0) (nat_cmp p.1 q.1)

-- the places are those of the open versions, each with its version's start
abbrev pub AreIndexed : BTreeSet (ℕ × ℕ) → List Version → Type 0
AreIndexed places versions = (start place : ℕ) → contains place_cmp places (start, place) ≡ option_map_or (is_open_from start) (slice_get versions place) false
