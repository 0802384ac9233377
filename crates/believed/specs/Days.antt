-- Days and instants, and their texts. A day is counted from 0001-01-01, an instant in microseconds from 1970-01-01 00:00:00 of UTC.
use Rattle.std.specs.Prelude.{ℕ, suc, ◌+◌, ◌-◌, ◌/◌, ◌%◌, ◌==◌, nat_le, if◌then◌else◌, List, [], ◌∷◌, ◌++◌, map, flat_map, decimal}
use Rattle.std.specs.Fmt.{signed_decimal}
use Rattle.std.specs.List.{join_with_byte}
use Rattle.model.specs.declared.value.Value.{Value}
use Rattle.model.specs.declared.value.Value.TheVariants.{Number, Text, Day}
use Rattle.period.specs.Day.{day_number, year_of, month_of}

-- a number in so many decimal digits, one or more: it has no more
abbrev pub places : ℕ → ℕ → List ℕ
places (suc (suc w)) n = places (suc w) (n / 10) ++ (48 + n % 10) ∷ []
places w n = (48 + n) ∷ []

-- the day's date, as 2024-06-19
unfoldable pub day_text : ℕ → List ℕ
day_text day = places 4 (year_of day) ++ 45 ∷ places 2 (month_of day) ++ 45 ∷ places 2 (day - day_number (year_of day) (month_of day) 1 + 1)

-- a time of day, by the microseconds from midnight, as 17:30:05.250000
abbrev pub time_text : ℕ → List ℕ
time_text n = places 2 (n / 3_600_000_000) ++ 58 ∷ places 2 (n / 60_000_000 % 60) ++ 58 ∷ places 2 (n / 1_000_000 % 60) ++ 46 ∷ places 6 (n % 1_000_000)

-- the instant's date and time; day 719162 is 1970-01-01, and each day has 86,400 seconds
unfoldable pub instant_text : ℕ → List ℕ
instant_text n = day_text (n / 86_400_000_000 + 719_162) ++ 32 ∷ time_text (n % 86_400_000_000)

-- How a refusal names values and keys: a number in decimal, a text in quotes with each quote inside it twice, a day as its date;
-- a number past the last day is that of no day, and stands as it is.
abbrev pub value_text : Value → List ℕ
value_text (Number n) = signed_decimal n
value_text (Text s) = 39 ∷ flat_map (λ b. if b == 39 then 39 ∷ 39 ∷ [] else (b ∷ [])) s ++ 39 ∷ []
value_text (Day d) = if nat_le d 3_652_058 then day_text d else decimal d

-- the values of a key, with commas between them
unfoldable pub key_text : List Value → List ℕ
key_text key = join_with_byte 44 (map value_text key)
