-- A worked example: the one of Kulkarni and Michels, "Temporal features in SQL:2011", as texts that the definitions read and run.
use Rattle.std.specs.Prelude.{◌≡◌, ◌↔◌, ℕ, pos, List, [], ◌∷◌, ◌++◌, reverse, Contains, codes, Err}
use Rattle.fault.specs.declared.refusal.Refusal.TheVariants.{KeyOverlap}
use Rattle.model.specs.declared.value.Value.TheVariants.{Number}
use Rattle.model.specs.declared.entry.Entry.{Entry}
use Rattle.model.specs.Tables.{Table, Row, IsRow}
use Rattle.model.specs.Logs.{outcome, state_at}
use Rattle.schema.specs.declared.table.Kind.TheVariants.{Integer, Date, SystemStart, SystemEnd}
use Rattle.sqlchecks.specs.Columns.{Tables}
use Rattle.sqlread.specs.Meaning.{language_of}
use Rattle.readerlaws.specs.Laws.{requests_from}

-- Emp: an employee, and from which day up to which other without it he is of which department; key ENo with EPeriod
unfoldable pub emp : Tables
emp = (
  codes "Emp",
  record {
    columns = (codes "ENo", Integer) ∷ (codes "EStart", Date) ∷ (codes "EEnd", Date) ∷ (codes "EDept", Integer) ∷ (codes "Since", SystemStart) ∷ (codes "Until", SystemEnd) ∷ [];
    period = codes "EPeriod";
    start = 1;
    end = 2;
    system_start = 4;
    system_end = 5;
    key = 0 ∷ [];
    values = 3 ∷ [];
    references = [];
  },
) ∷ []

-- 22217 is of department 3
abbrev pub hires : List ℕ
hires = codes "INSERT INTO Emp (ENo, EStart, EEnd, EDept) VALUES (22217, DATE '2010-01-01', DATE '2011-11-12', 3);" ++ 10 ∷ []

-- and in between of department 4
abbrev pub lends : List ℕ
lends = codes "UPDATE Emp FOR PORTION OF EPeriod FROM DATE '2011-02-03' TO DATE '2011-09-10' SET EDept = 4 WHERE ENo = 22217;" ++ 10 ∷ []

-- both, as the first and the second request of client 7, at the instants 101 and 102
abbrev pub worked : List Entry
worked = requests_from 7 1 ((101, hires) ∷ (102, lends) ∷ [])

-- his days from one to another
abbrev pub his : (start end dept since : ℕ) → Row
his start end dept since = record { key = Number (pos 22217) ∷ []; period = record { start = start; end = end }; values = Number (pos dept) ∷ []; system_start = since }

-- the rows of the table are these
abbrev pub HasRows : Table → List Row → Type 0
HasRows table rows = (row : Row) → IsRow table row ↔ Contains rows row

-- 14. By example: AS OF the first instant there is the row that was inserted, and AS OF the second its three parts. The days are 2010-01-01, 2011-02-03, 2011-09-10 and 2011-11-12. The
-- same INSERT once more is refused.
abbrev pub ByExample : Type 0
ByExample =
    HasRows (state_at (language_of emp) worked 101 0) (his 733772 734452 3 101 ∷ [])
    × HasRows (state_at (language_of emp) worked 102 0) (his 733772 734170 3 102 ∷ his 734170 734389 4 102 ∷ his 734389 734452 3 102 ∷ [])
    × (outcome (language_of emp) 103 (record { client = 7; number = 3; text = hires }) (reverse worked) ≡ Err KeyOverlap)
