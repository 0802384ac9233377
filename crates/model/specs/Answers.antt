-- Queries and their answers: FOR SYSTEM_TIME AS OF, FROM .. TO and BETWEEN .. AND over the system-versioned tables of
-- SQL:2011, instant by instant. Three choices are this product's own: a row's system end is shown only where it is not
-- after the query's last instant, a query without system time is AS OF the closed time, and rows come in an order.
use Rattle.std.specs.Prelude.{◌≡◌, ℕ, ◌<◌, ◌≤◌, ◌↔◌, Bool, nat_le, Option, Some, None, unwrap_or, option_and_then, List, map, Contains, IsTrue, All, if◌then◌else◌}
use Rattle.std.specs.List.Sorted.{IsStrictlySortedBy}
use Rattle.std.specs.Ordering.{ordering_then, nat_cmp}
use Rattle.std.specs.declared.cmp.Ordering.{Ordering}
use Rattle.model.specs.Values.{key_cmp}
use Rattle.model.specs.Tables.{Table, Row, IsRow}
use Rattle.model.specs.Transactions.{Language}
use Rattle.model.specs.declared.entry.Entry.{Entry}
use Rattle.model.specs.Logs.{state_at}

-- which instants a query asks about, all from the first to the last: AS OF t asks about t alone, FROM a TO b about a to
-- the instant before b, BETWEEN a AND b about a to b
pub record SystemTime : Type 0 where
  pub first : ℕ
  pub last : ℕ

-- the instant is one of the system time's
abbrev pub IsInstant : SystemTime → ℕ → Type 0
IsInstant time u = (time.first ≤ u) × (u ≤ time.last)

-- one instant alone
abbrev pub as_of : ℕ → SystemTime
as_of t = record { first = t; last = t }

-- a table, its system time, and WHERE
pub record Query : Type 0 where
  pub table : ℕ
  pub time : SystemTime
  pub passes : Row → Bool

-- a query as it is written: with system time, or without
pub record Select : Type 0 where
  pub table : ℕ
  pub time : Option SystemTime
  pub passes : Row → Bool

-- a query without system time is read AS OF the instant
abbrev pub read_at : ℕ → Select → Query
read_at t q = record { table = q.table; time = unwrap_or q.time (as_of t); passes = q.passes }

-- a row as an answer shows it: with its system end, or none where the highest value is shown
pub record Shown : Type 0 where
  pub row : Row
  pub end : Option ℕ

-- the query's last instant, and the rows
pub record Answer : Type 0 where
  pub last : ℕ
  pub rows : List Shown

-- the order of rows: by key, start and system start
abbrev pub row_cmp : Row → Row → Ordering
row_cmp a b = ordering_then (key_cmp a.key b.key) (ordering_then (nat_cmp a.period.start b.period.start) (nat_cmp a.system_start b.system_start))

-- In what follows `history u` is the table at the instant u.

-- the row is one of the table at an instant of the query, and passes WHERE
abbrev pub IsAsked : (ℕ → Table) → Query → Row → Type 0
IsAsked history q row = IsTrue (q.passes row) × ((u : ℕ) × IsInstant q.time u × IsRow (history u) row)

-- the shown end is the least instant above the system start, and at most the last, at which the row is gone
abbrev pub IsShownEnd : (ℕ → Table) → ℕ → Row → Option ℕ → Type 0
IsShownEnd history last row (Some end) = (row.system_start < end) × (end ≤ last) × (IsRow (history end) row → ⊥) × ((w : ℕ) → row.system_start < w → w < end → IsRow (history w) row)
IsShownEnd history last row None = (w : ℕ) → row.system_start < w → w ≤ last → IsRow (history w) row

-- each row that is asked for, once, in order, with its shown end
pub record IsAnswerOver (history : ℕ → Table) (q : Query) (a : Answer) : Type 0 where
  pub last : a.last ≡ q.time.last
  pub order : IsStrictlySortedBy row_cmp (map (λ s. s.row) a.rows)
  pub rows : (row : Row) → Contains (map (λ s. s.row) a.rows) row ↔ IsAsked history q row
  pub ends : All (λ s. IsShownEnd history q.time.last s.row s.end) a.rows

-- the answer to a query in a list of entries
abbrev pub IsAnswer : Language → Query → List Entry → Answer → Type 0
IsAnswer language q list = IsAnswerOver (λ u. state_at language list u q.table) q

-- at this closed time no later entry can have an instant that the query asks about
abbrev pub IsClosed : Select → Option ℕ → Type 0
IsClosed q time = (t : ℕ) × (time ≡ Some t) × ((read_at t q).time.last ≤ t)

-- the query as it is answered where this is closed, if it is closed
abbrev pub closed_query : Select → Option ℕ → Option Query
closed_query q time = option_and_then (λ t. if nat_le (read_at t q).time.last t then Some (read_at t q) else None) time
