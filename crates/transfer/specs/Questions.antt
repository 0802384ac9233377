-- The questions whose answers an export prints.
use Rattle.std.specs.Prelude.{ℕ, List, ◌++◌, codes}
use Rattle.period.specs.Instant.{instant_text}

-- what is believed now
abbrev pub now_text : List ℕ → List ℕ
now_text table = codes "SELECT * FROM " ++ (table ++ codes ";")

-- what was believed at an instant
abbrev pub then_text : List ℕ → ℕ → List ℕ
then_text table instant = codes "SELECT * FROM " ++ (table ++ (codes " FOR SYSTEM_TIME AS OF TIMESTAMP '" ++ (instant_text instant ++ codes "';")))

-- all that was believed up to an instant
abbrev pub ever_text : List ℕ → ℕ → List ℕ
ever_text table instant =
    codes "SELECT * FROM " ++ (table ++ (codes " FOR SYSTEM_TIME BETWEEN TIMESTAMP '1970-01-01 00:00:00.000000' AND TIMESTAMP '" ++ (instant_text instant ++ codes "';")))
