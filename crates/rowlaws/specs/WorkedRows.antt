-- Worked rows, found by computing the definitions. Day 730119 is 2000-01-01, and 734168 is 2011-02-01.
use Rattle.std.specs.Prelude.{◌≡◌, ℕ, pos, Bool, true, nat_lt, Some, None, Ok, Err, List, [], ◌∷◌, ◌++◌, if◌then◌else◌}
use Rattle.fault.specs.declared.refusal.Refusal.TheVariants.{KeyOverlap, NumberRange}
use Rattle.model.specs.declared.value.Value.{Value}
use Rattle.model.specs.declared.value.Value.TheVariants.{Number}
use Rattle.model.specs.Values.{same_key}
use Rattle.model.specs.Tables.{Period, Row}
use Rattle.model.specs.Transactions.{Action, Insert, Update, Delete, Language}
use Rattle.rowlaws.specs.Changes.{rows_changed}
use Rattle.rowlaws.specs.Touching.{rows_without, removed_by, added_by, removed_both, added_both}
use Rattle.rowlaws.specs.Statements.{Rows}
use Rattle.rowlaws.specs.Covering.{rows_orphan}

abbrev pub number : ℕ → List Value
number n = Number (pos n) ∷ []

abbrev pub from_to : ℕ → ℕ → Period
from_to s e = record { start = s; end = e }

-- a number's row, with another number for its value
abbrev pub row : ℕ → ℕ → ℕ → ℕ → ℕ → Row
row n s e v t = record { key = number n; period = from_to s e; values = number v; system_start = t }

abbrev pub has_number : ℕ → Row → Bool
has_number n r = same_key r.key (number n)

-- ---- UPDATE of a portion

-- employee 22217 is of department 3 from 2010-01-01 to 2011-11-12, and of department 4 from 2011-02-03 to 2011-09-10 in between
abbrev pub hired : List Row
hired = row 22217 733772 734452 3 101 ∷ []

abbrev pub lent : Action
lent = Update (has_number 22217) (from_to 734170 734389) (λ values. Some (number 4))

abbrev pub after_lent : List Row
after_lent = row 22217 733772 734170 3 102 ∷ row 22217 734170 734389 4 102 ∷ row 22217 734389 734452 3 102 ∷ []

-- the row is cut in three, each born with the UPDATE
abbrev pub PortionUpdate : Type 0
PortionUpdate = rows_changed lent 102 hired ≡ Ok after_lent

-- the row goes, and the three come; without them and with it the rows are as before
abbrev pub PortionTouched : Type 0
PortionTouched =
    (removed_by lent 102 hired ≡ hired) × (added_by lent 102 hired ≡ after_lent)
    × (rows_without after_lent (added_by lent 102 hired) ++ removed_by lent 102 hired ≡ hired)

-- ---- refusals

-- rows of one key may touch, and may not share a day; nothing is set where one value is out of range
abbrev pub Refused : Type 0
Refused =
    (rows_changed (Insert (number 22217) (number 3) (from_to 734452 734453)) 102 hired ≡ Ok (row 22217 733772 734452 3 101 ∷ row 22217 734452 734453 3 102 ∷ []))
    × (rows_changed (Insert (number 22217) (number 3) (from_to 734451 734453)) 102 hired ≡ Err KeyOverlap)
    × (rows_changed (Update (λ r. true) (from_to 0 3652058) (λ values. None)) 102 hired ≡ Err NumberRange)

-- ---- two actions in turn

-- the middle of the three is deleted again in the same transaction
abbrev pub dropped : Action
dropped = Delete (λ r. true) (from_to 734170 734389)

-- it came and went, so it is in neither list; and so is a row that is inserted and deleted
abbrev pub CameAndWent : Type 0
CameAndWent =
    let inserted = Insert (number 3) (number 0) (from_to 730119 737424) in
    let deleted = Delete (has_number 3) (from_to 0 3652058) in
    let dept = row 3 730119 737424 0 101 ∷ [] in
    (removed_both (removed_by lent 102 hired) (added_by lent 102 hired) (removed_by dropped 102 after_lent) ≡ hired)
    × (added_both (added_by lent 102 hired) (removed_by dropped 102 after_lent) (added_by dropped 102 after_lent) ≡ row 22217 733772 734170 3 102 ∷ row 22217 734389 734452 3 102 ∷ [])
    × (removed_both (removed_by inserted 101 []) (added_by inserted 101 []) (removed_by deleted 101 dept) ≡ [])
    × (added_both (added_by inserted 101 []) (removed_by deleted 101 dept) (added_by deleted 101 dept) ≡ [])

-- ---- references

-- department 3 from 2011-01-01 to 2011-03-01, and from a day on to 2011-06-01; employee 5 of it from 2011-02-01 to 2011-04-01
abbrev pub company : ℕ → Rows
company from n = if nat_lt n 1 then row 3 734137 734196 0 100 ∷ row 3 from 734288 0 100 ∷ [] else (row 5 734168 734227 3 101 ∷ [])

abbrev pub references : Language
references = record { tables = 2; name = λ n. []; references = record { child = 1; parent = 0; refers = λ k v. v } ∷ []; reads = λ text. Ok [] }

-- the two periods of the parent touch; or there is one day between them, 2011-03-01
abbrev pub ReferenceGap : Type 0
ReferenceGap =
    (rows_orphan references (company 734196) ≡ None)
    × (rows_orphan references (company 734197) ≡ Some (record { table = 1; key = number 5; day = 734196 }))
