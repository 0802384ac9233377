-- Instants of UTC, their dates and times of day, and their texts. An instant is counted in microseconds from 1970-01-01
-- 00:00:00; each day has 86,400 seconds.
use Rattle.std.specs.Prelude.{ℕ, ◌≡◌, ◌+◌, ◌*◌, ◌/◌, ◌%◌, ◌<◌, ◌≤◌, List, [], ◌∷◌, ◌++◌}
use Rattle.period.specs.declared.parts.DateParts.{DateParts}
use Rattle.period.specs.declared.parts.TimeParts.{TimeParts}
use Rattle.period.specs.Day.{IsDateOf, day_text}
use Rattle.period.specs.Places.{date_text, time_text}

-- a number of microseconds that stands for an instant: the last is 9999-12-30 23:59:59.999999
abbrev pub IsInstant : ℕ → Type 0
IsInstant n = n ≤ 253_402_214_399_999_999

-- a clock shows this time
abbrev pub IsTimeOfDay : TimeParts → Type 0
IsTimeOfDay t = (t.hour < 24) × (t.minute < 60) × (t.second < 60) × (t.microsecond < 1_000_000)

-- the microseconds from midnight to that time
abbrev pub microseconds_of : TimeParts → ℕ
microseconds_of t = ((t.hour * 60 + t.minute) * 60 + t.second) * 1_000_000 + t.microsecond

-- the instant is this day at this time, where day 719162 is 1970-01-01 and a day has 24 hours
abbrev pub IsDayAtTime : ℕ → ℕ → TimeParts → Type 0
IsDayAtTime n day t = n + 719_162 * 86_400_000_000 ≡ day * 86_400_000_000 + microseconds_of t

-- the text is the instant's date and time as YYYY-MM-DD hh:mm:ss.ffffff
pub record IsInstantText (n : ℕ) (text : List ℕ) : Type 0 where
  pub day : ℕ
  pub date : DateParts
  pub time : TimeParts
  pub is_date : IsDateOf day date
  pub is_time : IsTimeOfDay time
  pub is_instant : IsDayAtTime n day time
  pub spelled : text ≡ date_text date ++ 32 ∷ time_text time

-- the time of day so many microseconds after midnight
abbrev pub time_of : ℕ → TimeParts
time_of n = record { hour = n / 3_600_000_000; minute = n / 60_000_000 % 60; second = n / 1_000_000 % 60; microsecond = n % 1_000_000 }

-- the instant's one text
unfoldable pub instant_text : ℕ → List ℕ
instant_text n = day_text (n / 86_400_000_000 + 719_162) ++ 32 ∷ [] ++ time_text (time_of (n % 86_400_000_000))
