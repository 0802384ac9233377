-- Queries and their answers.
use Rattle.std.specs.Prelude.{◌≡◌, ℕ, ◌<◌, ◌≤◌, ◌↔◌, Bool, nat_le, Option, Some, None, unwrap_or, option_and_then, List, map, Contains, IsTrue, All, if◌then◌else◌}
use Rattle.std.specs.List.Sorted.{IsStrictlySortedBy}
use Rattle.model.specs.Tables.{Table, Row, IsRow}
use Rattle.model.specs.Transactions.{Language}
use Rattle.model.specs.declared.entry.Entry.{Entry}
use Rattle.model.specs.Answers.{SystemTime, Select, Answer, row_cmp}
use Rattle.believed.specs.Logs.{state_at}

-- the instants that a query asks about: without system time, the closed instant t alone
abbrev pub asked_at : ℕ → Select → SystemTime
asked_at t q = unwrap_or q.time (record { first = t; last = t })

-- In what follows `history u` is the table at the instant u.

-- the shown end is the least instant above the system start, and at most the last, at which the row is gone
abbrev pub IsShownEnd : (ℕ → Table) → ℕ → Row → Option ℕ → Type 0
IsShownEnd history last row (Some end) =
    (row.system_start < end) × (end ≤ last) × (IsRow (history end) row → ⊥) × ((w : ℕ) → row.system_start < w → w < end → IsRow (history w) row)
IsShownEnd history last row None = (w : ℕ) → row.system_start < w → w ≤ last → IsRow (history w) row

-- each row of the table at an instant that is asked about, if it passes WHERE: once, in order, with its shown end
pub record IsAnswerOver (history : ℕ → Table) (passes : Row → Bool) (time : SystemTime) (a : Answer) : Type 0 where
  pub last : a.last ≡ time.last
  pub order : IsStrictlySortedBy row_cmp (map (λ s. s.row) a.rows)
  pub rows : (row : Row) → Contains (map (λ s. s.row) a.rows) row ↔ IsTrue (passes row) × ((u : ℕ) × (time.first ≤ u) × (u ≤ time.last) × IsRow (history u) row)
  pub ends : All (λ s. IsShownEnd history time.last s.row s.end) a.rows

-- the answer in a list of entries that is closed up to t
abbrev pub IsAnswer : Language → Select → ℕ → List Entry → Answer → Type 0
IsAnswer language q t list a = IsAnswerOver (λ u. state_at language list u q.table) q.passes (asked_at t q) a

-- the closed time, where no later entry can have an instant that the query asks about
abbrev pub closed_for : Select → Option ℕ → Option ℕ
closed_for q time = option_and_then (λ t. if nat_le (asked_at t q).last t then Some t else None) time
