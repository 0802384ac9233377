-- What UPDATE and DELETE make of a row that they meet, and of a list of rows.
use Rattle.std.specs.Prelude.{ℕ, ◌<◌, Bool, nat_lt, Option, unwrap_or, List, [], ◌∷◌, ◌++◌, if◌then◌else◌, min, max, flat_map}
use Rattle.model.specs.declared.value.Value.{Value}
use Rattle.model.specs.Tables.{Period, Table, Row}
use Rattle.model.specs.Statements.{meets, updated, deleted}
use Rattle.rowlaws.specs.Rows.{Lists}

-- some days of the row's, with these values, born at t
abbrev pub part : Row → (start end : ℕ) → List Value → (t : ℕ) → Row
part r start end values t = record { key = r.key; period = record { start = start; end = end }; values = values; system_start = t }

-- the row, if there is a day from start up to end
abbrev pub if_days : (start end : ℕ) → Row → List Row
if_days start end r = if nat_lt start end then r ∷ [] else []

-- of a row that UPDATE meets: what lies before the portion, within it and after it
abbrev pub pieces : Period → (List Value → Option (List Value)) → ℕ → Row → List Row
pieces p set t r =
    if_days r.period.start p.start (part r r.period.start p.start r.values t)
    ++ (part r (max r.period.start p.start) (min r.period.end p.end) (unwrap_or (set r.values) r.values) t
    ∷ if_days p.end r.period.end (part r p.end r.period.end r.values t))

-- a row that is not met stays
abbrev pub cut : (Row → Bool) → Period → (List Value → Option (List Value)) → ℕ → Row → List Row
cut passes p set t r = if meets passes p r then pieces p set t r else r ∷ []

-- the rows after UPDATE
unfoldable pub cut_rows : (Row → Bool) → Period → (List Value → Option (List Value)) → ℕ → List Row → List Row
cut_rows passes p set t rows = flat_map (cut passes p set t) rows

-- of a row that DELETE meets: what lies before the portion and after it
abbrev pub rest : Period → ℕ → Row → List Row
rest p t r = if_days r.period.start p.start (part r r.period.start p.start r.values t) ++ if_days p.end r.period.end (part r p.end r.period.end r.values t)

-- a row that is not met stays
abbrev pub removed : (Row → Bool) → Period → ℕ → Row → List Row
removed passes p t r = if meets passes p r then rest p t r else r ∷ []

-- the rows after DELETE
unfoldable pub removed_rows : (Row → Bool) → Period → ℕ → List Row → List Row
removed_rows passes p t rows = flat_map (removed passes p t) rows

-- ---- laws

-- UPDATE of days cuts each row that is met in at most three
abbrev pub UpdateOnRows : Type 0
UpdateOnRows = (passes : Row → Bool) (p : Period) (set : List Value → Option (List Value)) (t : ℕ) (old : Table) (rows : List Row) →
    p.start < p.end → Lists rows old → Lists (cut_rows passes p set t rows) (updated passes p set t old)

-- DELETE of days leaves of each row that is met what lies before and after the portion
abbrev pub DeleteOnRows : Type 0
DeleteOnRows = (passes : Row → Bool) (p : Period) (t : ℕ) (old : Table) (rows : List Row) →
    p.start < p.end → Lists rows old → Lists (removed_rows passes p t rows) (deleted passes p t old)
