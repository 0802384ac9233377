-- A period as the set of its days, and how two periods lie to each other, said of their days alone: the period predicates
-- of SQL:2011 (Kulkarni and Michels, "Temporal features in SQL:2011", 2012).
use Rattle.std.specs.Prelude.{ℕ, ◌<◌, ◌≤◌, ◌↔◌}
use Rattle.period.specs.declared.period.Period.{Period}

-- the period has this day: its start and every day after it, up to its end and without it
abbrev pub HasDay : Period → ℕ → Type 0
HasDay p day = (p.start.number ≤ day) × (day < p.end.number)

-- some day is in both
abbrev pub ShareDay : Period → Period → Type 0
ShareDay x y = (day : ℕ) × (HasDay x day × HasDay y day)

-- each day of y is a day of x
abbrev pub HasDaysOf : Period → Period → Type 0
HasDaysOf x y = (day : ℕ) → HasDay y day → HasDay x day

-- both have the same days
abbrev pub SameDays : Period → Period → Type 0
SameDays x y = (day : ℕ) → HasDay x day ↔ HasDay y day

-- each day of x is before each day of y
abbrev pub Precedes : Period → Period → Type 0
Precedes x y = (day later : ℕ) → HasDay x day → HasDay y later → day < later

-- and no day lies between them
abbrev pub MeetsEnd : Period → Period → Type 0
MeetsEnd x y =
    Precedes x y
    × ((between : ℕ) → ¬ (((day : ℕ) → HasDay x day → day < between) × ((day : ℕ) → HasDay y day → between < day)))
