-- Laws of days, instants and periods, which the crates above have as facts.
use Rattle.std.specs.Prelude.{◌≡◌, ◌↔◌, ℕ, ◌<◌, ◌≤◌, List}
use Rattle.period.specs.declared.period.Period.{Period}
use Rattle.period.specs.Day.{IsDayText, day_text}
use Rattle.period.specs.Instant.{IsInstant, IsInstantText, instant_text}
use Rattle.period.specs.Period.{ShareDay, SameDays, MeetsEnd}

-- what is printed of a day is its text
abbrev pub DayTexts : Type 0
DayTexts = (day : ℕ) → day ≤ 3_652_058 → IsDayText day (day_text day)

-- a text is that of one day at most
abbrev pub OneDay : Type 0
OneDay = (a b : ℕ) (text : List ℕ) → IsDayText a text → IsDayText b text → a ≡ b

-- what is printed of an instant is its text
abbrev pub InstantTexts : Type 0
InstantTexts = (instant : ℕ) → IsInstant instant → IsInstantText instant (instant_text instant)

-- a text is that of one instant at most
abbrev pub OneInstant : Type 0
OneInstant = (a b : ℕ) (text : List ℕ) → IsInstantText a text → IsInstantText b text → a ≡ b

-- some day is in both where each starts before the other ends
abbrev pub ShareDayByEnds : Type 0
ShareDayByEnds = (x y : Period) → ShareDay x y ↔ ((x.start.number < y.end.number) × (y.start.number < x.end.number))

-- both have the same days where they start and end alike
abbrev pub SameDaysByEnds : Type 0
SameDaysByEnds = (x y : Period) → SameDays x y ↔ ((x.start.number ≡ y.start.number) × (x.end.number ≡ y.end.number))

-- no day lies between them where one ends at the other's start
abbrev pub MeetsEndByEnds : Type 0
MeetsEndByEnds = (x y : Period) → MeetsEnd x y ↔ (x.end.number ≡ y.start.number)
