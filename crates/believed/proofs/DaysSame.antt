-- Days and instants have the same texts in both words.
use Rattle.std.proofs.Common.{◌≡◌, ℕ, ◌+◌, ◌-◌, ◌/◌, ◌%◌, arith, List, [], ◌∷◌, ◌++◌, map, refl, ap, ◌∙◌}
use Rattle.std.specs.Prelude.{nat_le, if◌then◌else◌, decimal}
use Rattle.std.specs.List.{join_with_byte}
use Rattle.model.specs.declared.value.Value.{Value}
use Rattle.model.specs.declared.value.Value.TheVariants.{Number, Text, Day}
use Rattle.model.specs.Texts as texts
use Rattle.period.specs.Day.{day_number, year_of, month_of, day_of_month}
use Rattle.period.specs.Day as day
use Rattle.period.specs.Places as before
use Rattle.period.specs.Instant as instant
use Rattle.believed.specs.Days as now

four_digits : (a a' b b' c c' d d' : ℕ) → a ≡ a' → b ≡ b' → c ≡ c' → d ≡ d' → a ∷ b ∷ c ∷ d ∷ [] ≡ a' ∷ b' ∷ c' ∷ d' ∷ []
four_digits a a' b b' c c' d d' p q r s = λ i. p i ∷ q i ∷ r i ∷ s i ∷ []

four_same : (n : ℕ) → now.places 4 n ≡ before.four_places n
four_same n = four_digits (48 + n / 10 / 10 / 10) (48 + n / 100 / 10) (48 + n / 10 / 10 % 10) (48 + n / 100 % 10) (48 + n / 10 % 10) (48 + n % 100 / 10) (48 + n % 10) (48 + n % 100 % 10)
    (omega arith) (omega arith) (omega arith) (omega arith)

six_digits : (a a' b b' c c' d d' e e' f f' : ℕ) → a ≡ a' → b ≡ b' → c ≡ c' → d ≡ d' → e ≡ e' → f ≡ f' → a ∷ b ∷ c ∷ d ∷ e ∷ f ∷ [] ≡ a' ∷ b' ∷ c' ∷ d' ∷ e' ∷ f' ∷ []
six_digits a a' b b' c c' d d' e e' f f' p q r s t u = λ i. p i ∷ q i ∷ r i ∷ s i ∷ t i ∷ u i ∷ []

six_same : (n : ℕ) → now.places 6 n ≡ before.six_places n
six_same n = six_digits (48 + n / 10 / 10 / 10 / 10 / 10) (48 + n / 10_000 / 10) (48 + n / 10 / 10 / 10 / 10 % 10) (48 + n / 10_000 % 10) (48 + n / 10 / 10 / 10 % 10) (48 + n / 100 % 100 / 10)
    (48 + n / 10 / 10 % 10) (48 + n / 100 % 100 % 10) (48 + n / 10 % 10) (48 + n % 100 / 10) (48 + n % 10) (48 + n % 100 % 10)
    (omega arith) (omega arith) (omega arith) (omega arith) (omega arith) (omega arith)

pub day_same : (d : ℕ) → now.day_text d ≡ day.day_text d
unfolding now.day_text day.day_text day_of_month
day_same d = ap (λ xs. xs ++ 45 ∷ before.two_places (month_of d) ++ 45 ∷ before.two_places (d - day_number (year_of d) (month_of d) 1 + 1)) (four_same (year_of d))

time_same : (n : ℕ) → now.time_text n ≡ before.time_text (instant.time_of n)
time_same n = ap (λ xs. before.two_places (n / 3_600_000_000) ++ 58 ∷ before.two_places (n / 60_000_000 % 60) ++ 58 ∷ before.two_places (n / 1_000_000 % 60) ++ 46 ∷ xs) (six_same (n % 1_000_000))

pub instant_same : (n : ℕ) → now.instant_text n ≡ instant.instant_text n
unfolding now.instant_text instant.instant_text day.day_text
instant_same n = ap (λ xs. xs ++ 32 ∷ now.time_text (n % 86_400_000_000)) (day_same (n / 86_400_000_000 + 719_162))
    ∙ ap (λ xs. day.day_text (n / 86_400_000_000 + 719_162) ++ 32 ∷ xs) (time_same (n % 86_400_000_000))

value_same : (v : Value) → now.value_text v ≡ texts.value_text v
value_same (Number n) = refl
value_same (Text s) = refl
value_same (Day d) = ap (λ xs. if nat_le d 3_652_058 then xs else decimal d) (day_same d)

pub key_same : (key : List Value) → now.key_text key ≡ texts.key_text key
unfolding now.key_text texts.key_text
key_same key = λ i. join_with_byte 44 (map (λ v. value_same v i) key)
