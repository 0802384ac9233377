-- Versions of a key by the days that their periods have.
use Rattle.std.specs.Prelude.{◌≡◌, ℕ, ◌+◌, Bool, true, false, ◌&&◌, ◌==◌, nat_le, nat_lt, Some, List, slice_get}
use Rattle.std.specs.declared.cmp.Ordering.{Ordering}
use Rattle.std.specs.BTreeSet.{BTreeSet, contains}
use Rattle.std.specs.Option.{option_map_or}
use Rattle.std.specs.Ordering.{nat_cmp, ordering_then}
use Rattle.model.specs.Tables.{inside}
use Rattle.versionlaws.specs.Versions.{Version}
use Rattle.sysversion.specs.Open.{place_cmp}

-- the version's period has the day
abbrev pub has_day : ℕ → Version → Bool
has_day day v = inside v.row.period day

-- it has the day, or would have it if it went on for as many days again
abbrev pub nearly_has : ℕ → Version → Bool
nearly_has day v = nat_le v.row.period.start day && nat_lt (v.row.period.start + day) (v.row.period.end + v.row.period.end)

-- ---- where versions stand

-- a reach, a start and a place, in this order
abbrev pub Reached : Type 0
Reached = ℕ × (ℕ × ℕ)

abbrev pub reached_cmp : Reached → Reached → Ordering
reached_cmp p q = ordering_then (nat_cmp p.0 q.0) (place_cmp p.1 q.1)

-- the version's period starts then, and has at most as many days as the reach, and at least half as many
abbrev pub is_reached : ℕ → ℕ → Version → Bool
is_reached reach start v = v.row.period.start == start && nat_le v.row.period.end (start + reach) && nat_le (start + start + reach) (v.row.period.end + v.row.period.end)

-- each version's place is there, with its start and a reach, and no other places are
pub record AreReached (places : BTreeSet Reached) (versions : List Version) : Type 0 where
  pub only : (reach start place : ℕ) → contains reached_cmp places (reach, (start, place)) ≡ true → option_map_or (is_reached reach start) (slice_get versions place) false ≡ true
  pub each : (place : ℕ) (v : Version) → slice_get versions place ≡ Some v → (reach : ℕ) × (contains reached_cmp places (reach, (v.row.period.start, place)) ≡ true)
