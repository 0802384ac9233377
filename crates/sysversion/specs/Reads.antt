-- How many versions a commit reads.
use Rattle.std.specs.Prelude.{ℕ, zero, suc, ◌+◌, ◌≤◌, List, [], ◌∷◌, length, filter}
use Rattle.model.specs.Tables.{Table, Row}
use Rattle.rowlaws.specs.Statements.{Rows}
use Rattle.versionlaws.specs.Versions.{Version, Holds}
use Rattle.versionlaws.specs.ByKey.{is_of}
use Rattle.sysversion.specs.Open.{open_from}

-- for each row that goes, the open versions of its key that start on its first day
abbrev pub reads_to_end : List Row → List Version → ℕ
reads_to_end [] versions = 0
reads_to_end (r ∷ rows) versions = length (open_from r.period.start (filter (is_of r.key) versions)) + reads_to_end rows versions

-- the same of the first n tables
abbrev pub reads_in_tables : ℕ → Rows → (ℕ → List Version) → ℕ
reads_in_tables zero removed versions = 0
reads_in_tables (suc n) removed versions = reads_in_tables n removed versions + reads_to_end (removed n) (versions n)

-- how many rows of the first n tables go
abbrev pub rows_gone : ℕ → Rows → ℕ
rows_gone zero removed = 0
rows_gone (suc n) removed = rows_gone n removed + length (removed n)

-- ---- laws

-- where the versions of each table hold its history, at most as many of them are read as rows go
abbrev pub OneForEachRow : Type 0
OneForEachRow = (tables : ℕ) (versions : ℕ → List Version) (history : ℕ → ℕ → Table) (bound : ℕ) (current : ℕ → Table) (removed : Rows) →
    ((n : ℕ) → Holds (versions n) (history n) bound (current n)) → reads_in_tables tables removed versions ≤ rows_gone tables removed
