-- Worked rows of versions and answers, found by computing the definitions. Day 730119 is 2000-01-01, and 737424 is 2020-01-01.
use Rattle.std.specs.Prelude.{◌≡◌, ℕ, pos, true, Option, Some, None, List, [], ◌∷◌, length, filter}
use Rattle.model.specs.declared.value.Value.TheVariants.{Number}
use Rattle.model.specs.Tables.{Row}
use Rattle.model.specs.Answers.{Query, Answer}
use Rattle.versionlaws.specs.Versions.{Version}
use Rattle.versionlaws.specs.ByKey.{is_of}
use Rattle.versionlaws.specs.Committing.{committed}
use Rattle.versionlaws.specs.Answering.{answer_from}

-- department 3 in these days, born at the instant
abbrev pub dept : ℕ → ℕ → ℕ → Row
dept start end t = record { key = Number (pos 3) ∷ []; period = record { start = start; end = end }; values = []; system_start = t }

abbrev pub version : Row → Option ℕ → Version
version r end = record { row = r; end = end }

-- a query for all rows at the instants from the first to the last
abbrev pub asked : (first last : ℕ) → Query
asked first last = record { table = 0; time = record { first = first; last = last }; passes = λ r. true }

abbrev pub answer : ℕ → Row → Option ℕ → Answer
answer last r end = record { last = last; rows = record { row = r; end = end } ∷ [] }

-- ---- a row that is deleted

-- inserted at 101, and deleted at 102
abbrev pub deleted : List Version
deleted = committed 102 (dept 730119 737424 101 ∷ []) [] (committed 101 [] (dept 730119 737424 101 ∷ []) [])

abbrev pub DeletedVersion : Type 0
DeletedVersion =
    (deleted ≡ version (dept 730119 737424 101) (Some 102) ∷ [])
    × (answer_from (asked 101 102) deleted ≡ answer 102 (dept 730119 737424 101) (Some 102))
    × (answer_from (asked 101 101) deleted ≡ answer 101 (dept 730119 737424 101) None)
    × (answer_from (asked 102 102) deleted ≡ record { last = 102; rows = [] })

-- ---- a row that is cut

-- at 103 what lies before day 733772 is deleted, and later still the answer up to 102 is what it was
abbrev pub cut : List Version
cut = committed 103 (dept 730119 737424 101 ∷ []) (dept 733772 737424 103 ∷ []) (committed 101 [] (dept 730119 737424 101 ∷ []) [])

abbrev pub CutVersion : Type 0
CutVersion =
    (cut ≡ version (dept 730119 737424 101) (Some 103) ∷ version (dept 733772 737424 103) None ∷ [])
    × (answer_from (asked 102 102) cut ≡ answer_from (asked 102 102) (committed 101 [] (dept 730119 737424 101 ∷ []) []))
    × (answer_from (asked 103 103) cut ≡ answer 103 (dept 733772 737424 103) None)
    × (answer_from (asked 0 103) cut ≡ record { last = 103; rows = record { row = dept 730119 737424 101; end = Some 103 } ∷ record { row = dept 733772 737424 103; end = None } ∷ [] })

-- ---- the versions of a key

-- employee 22217 in a department in these days, born at the instant
abbrev pub employee : (department start end t : ℕ) → Row
employee department start end t = record { key = Number (pos 22217) ∷ []; period = record { start = start; end = end }; values = Number (pos department) ∷ []; system_start = t }

-- at 102 some days in the midst go to department 4, and the days before and after stay in 3
abbrev pub moved : List Version
moved =
    committed 102 (employee 3 733772 734452 101 ∷ []) (employee 3 733772 734170 102 ∷ employee 4 734170 734389 102 ∷ employee 3 734389 734452 102 ∷ [])
    (committed 101 [] (employee 3 733772 734452 101 ∷ []) [])

-- the key has four versions, and another has none
abbrev pub MovedVersions : Type 0
MovedVersions = (length (filter (is_of (Number (pos 22217) ∷ [])) moved) ≡ 4) × (length (filter (is_of (Number (pos 3) ∷ [])) moved) ≡ 0)
