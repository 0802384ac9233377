-- Worked references by what was touched, found by computing the definitions. Day 734200 is 2011-03-05.
use Rattle.std.specs.Prelude.{◌≡◌, true, nat_lt, Some, None, Ok, List, [], ◌∷◌, if◌then◌else◌}
use Rattle.model.specs.Values.{same_key}
use Rattle.model.specs.Tables.{Row}
use Rattle.model.specs.Transactions.{Action, Delete}
use Rattle.rowlaws.specs.Changes.{rows_changed}
use Rattle.rowlaws.specs.Touching.{removed_by, added_by}
use Rattle.rowlaws.specs.Statements.{Rows}
use Rattle.rowlaws.specs.Losing.{loses, losing_keys}
use Rattle.rowlaws.specs.Suspects.{suspects, picked_orphan, touched_orphan, ordered_orphan}
use Rattle.rowlaws.specs.Indexes.{Index, keys_to_check, rows_of_keys}
use Rattle.rowlaws.specs.WorkedRows.{number, from_to, row, has_number, references, lent}

-- departments 3 and 4 from 2011-01-01 to 2011-06-01; employees 5 and 6 of department 3, and 7 of department 4, from 2011-02-01 to 2011-04-01
abbrev pub departments : List Row
departments = row 3 734137 734288 0 100 ∷ row 4 734137 734288 0 100 ∷ []

abbrev pub employees : List Row
employees = row 6 734168 734227 3 101 ∷ row 5 734168 734227 3 101 ∷ row 7 734168 734227 4 101 ∷ []

-- table 0 has these rows, and table 1 those
abbrev pub of_two : List Row → List Row → Rows
of_two first second n = if nat_lt n 1 then first else (if nat_lt n 2 then second else [])

-- department 3 without ten days of March, or without May
abbrev pub without_march : Action
without_march = Delete (has_number 3) (from_to 734200 734210)

abbrev pub without_may : Action
without_may = Delete (has_number 3) (from_to 734257 734288)

abbrev pub after_march : List Row
after_march = row 3 734137 734200 0 102 ∷ row 3 734210 734288 0 102 ∷ row 4 734137 734288 0 100 ∷ []

abbrev pub after_may : List Row
after_may = row 3 734137 734257 0 102 ∷ row 4 734137 734288 0 100 ∷ []

-- department 3 loses days that its employees have, so they are looked at and that of department 4 is not; the least key has the first day without a parent
abbrev pub LostMarch : Type 0
LostMarch =
    let all = of_two after_march employees in
    let removed = of_two (removed_by without_march 102 departments) [] in
    let added = of_two (added_by without_march 102 departments) [] in
    (rows_changed without_march 102 departments ≡ Ok after_march)
    × (loses (removed 0) (added 0) (number 3) ≡ true)
    × (losing_keys (removed 0) after_march ≡ number 3 ∷ [])
    × (suspects references.references all removed added 1 ≡ row 6 734168 734227 3 101 ∷ row 5 734168 734227 3 101 ∷ [])
    × (touched_orphan references all removed added ≡ Some (record { table = 1; key = number 5; day = 734200 }))

-- without May nobody is looked at: none of its employees has a day of it
abbrev pub LostMay : Type 0
LostMay =
    let all = of_two after_may employees in
    let removed = of_two (removed_by without_may 102 departments) [] in
    let added = of_two (added_by without_may 102 departments) [] in
    (rows_changed without_may 102 departments ≡ Ok after_may)
    × (losing_keys (removed 0) after_may ≡ number 3 ∷ [])
    × (suspects references.references all removed added 1 ≡ [])
    × (touched_orphan references all removed added ≡ None)

-- an UPDATE that cuts an employee's row in three: each piece came, so it is looked at; what it names may have no row
abbrev pub CameWithoutParent : Type 0
CameWithoutParent =
    let hired = row 22217 733772 734452 3 101 ∷ [] in
    let cut = row 22217 733772 734170 3 102 ∷ row 22217 734170 734389 4 102 ∷ row 22217 734389 734452 3 102 ∷ [] in
    let parents = row 3 733772 734452 0 100 ∷ [] in
    (losing_keys (removed_by lent 102 hired) cut ≡ [])
    × (touched_orphan references (of_two parents cut) (of_two [] (removed_by lent 102 hired)) (of_two [] (added_by lent 102 hired)) ≡ Some (record { table = 1; key = number 22217; day = 734170 }))

-- a row that is not picked is not looked at
abbrev pub NotPicked : Type 0
NotPicked =
    let all = of_two after_march employees in
    (picked_orphan references all (of_two [] (row 6 734168 734227 3 101 ∷ [])) ≡ Some (record { table = 1; key = number 6; day = 734200 }))
    × (picked_orphan references all (of_two departments []) ≡ None)

-- ---- by an index

-- at department 3 it has employees 5 and 6, and 9, who has no row; at the others 7
abbrev pub index : Index
index child parent k = if same_key k (number 3) then number 5 ∷ number 6 ∷ number 9 ∷ [] else (number 7 ∷ [])

-- the rows of the keys that it has at department 3, in order, have the first day without a parent first
abbrev pub ByIndex : Type 0
ByIndex =
    let all = of_two after_march employees in
    let removed = of_two (removed_by without_march 102 departments) [] in
    let added = of_two (added_by without_march 102 departments) [] in
    let keys = keys_to_check references.references all removed added index in
    (keys 0 ≡ [])
    × (keys 1 ≡ number 5 ∷ number 6 ∷ number 9 ∷ [])
    × (rows_of_keys all keys 1 ≡ row 5 734168 734227 3 101 ∷ row 6 734168 734227 3 101 ∷ [])
    × (ordered_orphan references all (rows_of_keys all keys) ≡ Some (record { table = 1; key = number 5; day = 734200 }))
