-- The answer that versions give.
use Rattle.std.specs.Prelude.{◌≡◌, ◌↔◌, ℕ, ◌<◌, ◌≤◌, Bool, true, ◌&&◌, nat_lt, nat_le, IsTrue, Option, Some, None, List, ◌++◌, map, filter, length, reverse, if◌then◌else◌}
use Rattle.std.specs.declared.cmp.Ordering.{Ordering}
use Rattle.model.specs.Lists.{nth}
use Rattle.model.specs.declared.entry.Entry.{Entry}
use Rattle.model.specs.Tables.{Table, Row}
use Rattle.model.specs.Transactions.{Language}
use Rattle.model.specs.Logs.{IsStamped, closed}
use Rattle.model.specs.Answers.{SystemTime, IsInstant, Query, Select, read_at, Shown, Answer, row_cmp, IsAsked, IsShownEnd, IsAnswerOver, IsAnswer, IsClosed}
use Rattle.rowlaws.specs.Rows.{Has, Apart}
use Rattle.rowlaws.specs.Sorting.{in_order}
use Rattle.rowlaws.specs.Logs.{AllFine}
use Rattle.versionlaws.specs.Versions.{Version, IsBefore, Keeps}
use Rattle.versionlaws.specs.Committing.{versions_after}

-- some instant is one of the system time's
abbrev pub HasInstant : SystemTime → Type 0
HasInstant time = (u : ℕ) × IsInstant time u

-- the version's row passes, and its system period has one of the query's instants
abbrev pub IsFound : Query → Version → Type 0
IsFound q v = IsTrue (q.passes v.row) × (v.row.system_start ≤ q.time.last) × IsBefore q.time.first v.end

-- the same as tests
abbrev pub is_before : ℕ → Option ℕ → Bool
is_before u None = true
is_before u (Some end) = nat_lt u end

abbrev pub is_found : Query → Version → Bool
is_found q v = q.passes v.row && nat_le v.row.system_start q.time.last && is_before q.time.first v.end

-- the end is shown where it is at or before the last instant
abbrev pub shown_end : (last : ℕ) → Option ℕ → Option ℕ
shown_end last None = None
shown_end last (Some end) = if nat_le end last then Some end else None

-- the version as an answer shows it
abbrev pub show : Query → Version → Shown
show q v = record { row = v.row; end = shown_end q.time.last v.end }

-- by key, start and system start
abbrev pub version_cmp : Version → Version → Ordering
version_cmp v w = row_cmp v.row w.row

-- the versions that are found, in order, as they are shown
unfoldable pub answer_from : Query → List Version → Answer
answer_from q versions = record { last = q.time.last; rows = map (show q) (in_order version_cmp (filter (is_found q) versions)) }

-- ---- laws. In what follows `history u` is the table at the instant u.

-- a row is asked for exactly where a version of it is found
abbrev pub VersionsRows : Type 0
VersionsRows = (versions : List Version) (history : ℕ → Table) (now : ℕ) (q : Query) (row : Row) → Keeps versions history now → HasInstant q.time → q.time.last ≤ now →
    IsAsked history q row ↔ ((v : Version) × Has versions v × (v.row ≡ row) × IsFound q v)

-- a version's end is the row's shown end where it is at or before the last instant
abbrev pub VersionsEnds : Type 0
VersionsEnds = (versions : List Version) (history : ℕ → Table) (now : ℕ) (v : Version) (last : ℕ) → Keeps versions history now → Has versions v → last ≤ now →
    IsShownEnd history last v.row (shown_end last v.end)

-- the versions that are kept give the answer
abbrev pub VersionsGive : Type 0
VersionsGive = (versions : List Version) (history : ℕ → Table) (now : ℕ) (q : Query) → Keeps versions history now → Apart versions → HasInstant q.time → q.time.last ≤ now →
    IsAnswerOver history q (answer_from q versions)

-- the versions that a log leaves give the answer
abbrev pub VersionsAnswer : Type 0
VersionsAnswer = (language : Language) (q : Query) (list : List Entry) → IsStamped list → AllFine language list → HasInstant q.time →
    IsAnswer language q list (answer_from q (versions_after language q.table (reverse list)))

-- ---- that there is an answer

-- a query has an answer in each log of well formed texts, also one that has no instant
abbrev pub SomeAnswer : Type 0
SomeAnswer = (language : Language) (q : Query) (list : List Entry) → IsStamped list → AllFine language list → (a : Answer) × IsAnswer language q list a

-- the query is closed in the list, and it has an answer there, which is the only one in the list and in every longer one
pub record HasAnswer (language : Language) (q : Select) (list : List Entry) : Type 0 where
  pub now : ℕ
  pub answer : Answer
  pub at : closed list ≡ Some now
  pub is : IsAnswer language (read_at now q) list answer
  pub only : (later : List Entry) (a : Answer) → IsStamped (list ++ later) → IsAnswer language (read_at now q) (list ++ later) a ↔ (a ≡ answer)

-- what comes after the list in the longer one is stamped above the instant
abbrev pub ComesAbove : ℕ → List Entry → List Entry → Type 0
ComesAbove t list later = (i : ℕ) (e : Entry) → length list < i → nth (list ++ later) i ≡ Some e → t < e.stamp

-- the query is closed at this closed time, and it has an answer in the list, which is the only one there and in every longer
-- list in which what comes after is stamped above that time
pub record HasAnswerAt (language : Language) (q : Select) (list : List Entry) (time : Option ℕ) : Type 0 where
  pub now : ℕ
  pub answer : Answer
  pub at : time ≡ Some now
  pub is : IsAnswer language (read_at now q) list answer
  pub only : (later : List Entry) (a : Answer) → ComesAbove now list later → IsAnswer language (read_at now q) (list ++ later) a ↔ (a ≡ answer)

-- a query that is closed in a log of well formed texts has an answer
abbrev pub ClosedAnswer : Type 0
ClosedAnswer = (language : Language) (q : Select) (list : List Entry) → IsStamped list → AllFine language list → IsClosed q (closed list) → HasAnswer language q list

-- and so has one that is closed at any closed time, also at one above the last stamp
abbrev pub SealedAnswer : Type 0
SealedAnswer = (language : Language) (q : Select) (list : List Entry) (time : Option ℕ) → IsStamped list → AllFine language list → IsClosed q time → HasAnswerAt language q list time
