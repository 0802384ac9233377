-- Days, their dates in the proleptic Gregorian calendar, and their texts. A day is counted from 0001-01-01; the last is
-- 9999-12-31, number 3652058.
use Rattle.std.specs.Prelude.{ℕ, zero, suc, ◌≡◌, ◌+◌, ◌-◌, nat_le, Bool, if◌then◌else◌, List, pos, ◌+ℤ◌}
use Rattle.jiff_core.specs.Calendar.{IsCivilDate, day_count, days_from_civil}
use Rattle.period.specs.declared.parts.DateParts.{DateParts}
use Rattle.period.specs.Places as places

-- this date of the proleptic Gregorian calendar is the day, where day 0 is 0001-01-01
abbrev pub IsDateOf : ℕ → DateParts → Type 0
IsDateOf day p = IsCivilDate (pos p.year) p.month p.day × (days_from_civil (pos p.year) p.month p.day +ℤ pos 719_162 ≡ pos day)

-- the text is the day's date as YYYY-MM-DD
abbrev pub IsDayText : ℕ → List ℕ → Type 0
IsDayText day text = (date : DateParts) × (IsDateOf day date × (text ≡ places.date_text date))

-- the greatest number up to n that passes the test, or 0
unfoldable pub greatest : (ℕ → Bool) → ℕ → ℕ
greatest p zero = 0
greatest p (suc n) = if p (suc n) then suc n else greatest p n

-- how many days lie between 0001-01-01 and a date
abbrev pub day_number : ℕ → ℕ → ℕ → ℕ
day_number y m d = day_count (pos y) m d - day_count (pos 1) 1 1

-- the last year that begins on the day or before it
unfoldable pub year_of : ℕ → ℕ
year_of day = greatest (λ y. nat_le (day_number y 1 1) day) 9999

-- the last month of that year that does
unfoldable pub month_of : ℕ → ℕ
month_of day = greatest (λ m. nat_le (day_number (year_of day) m 1) day) 12

-- the place in that month, from 1
unfoldable pub day_of_month : ℕ → ℕ
day_of_month day = day - day_number (year_of day) (month_of day) 1 + 1

-- the parts of the day's date
abbrev pub parts_of : ℕ → DateParts
parts_of day = record { year = year_of day; month = month_of day; day = day_of_month day }

-- the day's one text
unfoldable pub day_text : ℕ → List ℕ
day_text day = places.date_text (parts_of day)
