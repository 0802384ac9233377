-- Versions over transactions, and over whole logs.
use Rattle.std.specs.Prelude.{◌≡◌, ℕ, ◌+◌, ◌<◌, ◌≤◌, ◌==◌, Bool, ◌&&◌, Some, None, is_none, List, [], ◌∷◌, ◌++◌, map, reverse, if◌then◌else◌}
use Rattle.std.specs.List.{list_any}
use Rattle.model.specs.declared.entry.Entry.{Entry}
use Rattle.model.specs.Values.{same_key}
use Rattle.model.specs.Tables.{Table, Row, IsRow}
use Rattle.model.specs.Transactions.{Language}
use Rattle.model.specs.Logs.{IsStamped, state_at, state_after, least_stamp}
use Rattle.rowlaws.specs.Changes.{Follows}
use Rattle.rowlaws.specs.Touching.{rows_without, IsTouched}
use Rattle.rowlaws.specs.Logs.{AllFine, rows_after}
use Rattle.versionlaws.specs.Versions.{Version, Keeps, Holds}

-- the two rows have one key and start
abbrev pub is_at : Row → Row → Bool
is_at a b = same_key a.key b.key && a.period.start == b.period.start

-- an open version of a row that goes ends at t
abbrev pub ended : ℕ → List Row → Version → Version
ended t removed v = if is_none v.end && list_any (is_at v.row) removed then record { row = v.row; end = Some t } else v

-- a row that comes has no end yet
abbrev pub opened : Row → Version
opened r = record { row = r; end = None }

-- the versions after a transaction at t with which these rows go and come
unfoldable pub committed : ℕ → List Row → List Row → List Version → List Version
committed t removed added versions = map (ended t removed) versions ++ map opened added

-- the versions of table n that a log leaves, its entries from the newest back to the oldest
unfoldable pub versions_after : Language → ℕ → List Entry → List Version
versions_after language n [] = []
versions_after language n (e ∷ before) =
    let old = rows_after language before n in
    let new = rows_after language (e ∷ before) n in
    committed e.stamp (rows_without old new) (rows_without new old) (versions_after language n before)

-- ---- laws

-- a commit of what a transaction at t touches keeps what is held; in between, the current rows stayed
abbrev pub Commit : Type 0
Commit = (versions : List Version) (history later : ℕ → Table) (bound t : ℕ) (old new : Table) (removed added : List Row) →
    Holds versions history bound old → bound ≤ t →
    ((u : ℕ) → u < bound → later u ≡ history u) → ((u : ℕ) → bound ≤ u → u < t → later u ≡ old) → later t ≡ new →
    IsTouched old new removed added → Follows t old new →
    Holds (committed t removed added versions) later (t + 1) new

-- and so does a commit of what one more entry of a log touches
abbrev pub CommitEntry : Type 0
CommitEntry = (language : Language) (n : ℕ) (list : List Entry) (e : Entry) (versions : List Version) (removed added : List Row) →
    IsStamped (list ++ e ∷ []) → AllFine language (list ++ e ∷ []) →
    Holds versions (λ u. state_at language list u n) (least_stamp list) (state_after language (reverse list) n) →
    IsTouched (state_after language (reverse list) n) (state_after language (reverse (list ++ e ∷ [])) n) removed added →
    Holds (committed e.stamp removed added versions) (λ u. state_at language (list ++ e ∷ []) u n) (least_stamp (list ++ e ∷ [])) (state_after language (reverse (list ++ e ∷ [])) n)

-- where an entry leaves a table as it was, the same versions hold on
abbrev pub EntryStays : Type 0
EntryStays = (language : Language) (n : ℕ) (list : List Entry) (e : Entry) (versions : List Version) → IsStamped (list ++ e ∷ []) →
    Holds versions (λ u. state_at language list u n) (least_stamp list) (state_after language (reverse list) n) →
    state_after language (reverse (list ++ e ∷ [])) n ≡ state_after language (reverse list) n →
    Holds versions (λ u. state_at language (list ++ e ∷ []) u n) (least_stamp (list ++ e ∷ [])) (state_after language (reverse (list ++ e ∷ [])) n)

-- a row is there at each instant from its system start on, as long as it is there at all
abbrev pub Lasts : Type 0
Lasts = (language : Language) (list : List Entry) (n t w : ℕ) (row : Row) → IsStamped list → AllFine language list →
    w ≤ t → row.system_start ≤ w → IsRow (state_at language list t n) row → IsRow (state_at language list w n) row

-- what is held of a log's table is kept up to each instant, also to one after the last stamp
abbrev pub KeptLater : Type 0
KeptLater = (language : Language) (n : ℕ) (list : List Entry) (versions : List Version) (now : ℕ) → IsStamped list →
    Holds versions (λ u. state_at language list u n) (least_stamp list) (state_after language (reverse list) n) →
    Keeps versions (λ u. state_at language list u n) now

-- the versions that a log leaves hold what its tables are
abbrev pub HoldsAfter : Type 0
HoldsAfter = (language : Language) (list : List Entry) (n : ℕ) → IsStamped list → AllFine language list →
    Holds (versions_after language n (reverse list)) (λ u. state_at language list u n) (least_stamp list) (state_after language (reverse list) n)

-- and say what the rows are at each instant
abbrev pub KeepsAfter : Type 0
KeepsAfter = (language : Language) (list : List Entry) (n now : ℕ) → IsStamped list → AllFine language list →
    Keeps (versions_after language n (reverse list)) (λ u. state_at language list u n) now
