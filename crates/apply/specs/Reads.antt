-- How far a transaction, and an entry, may raise the count of rows that are read, from `old` to `new`.
use Rattle.std.specs.Prelude.{◌≡◌, ◌≤◌, ◌⊎◌, ◌+◌, ℕ, true, Some, List, [], ◌∷◌, ◌++◌, Ok, length, map, reverse, slice_get}
use Rattle.std.specs.Option.{option_map_or}
use Rattle.std.specs.Result.{result_unwrap_or}
use Rattle.model.specs.declared.entry.Request.{Request}
use Rattle.model.specs.declared.entry.Entry.{Entry}
use Rattle.model.specs.Transactions.{State, run_statement, transacted}
use Rattle.model.specs.Logs.{IsStamped, is_first, state_after}
use Rattle.rowlaws.specs.Statements.{Rows, AllListed}
use Rattle.rowlaws.specs.Whole.{AllTouched}
use Rattle.sqlchecks.specs.Columns.{Tables}
use Rattle.sqlread.specs.Shapes.{StatementShape}
use Rattle.sqlread.specs.Meaning.{meaning, table_of, language_of}
use Rattle.sqlread.specs.Texts.{transaction_in}
use Rattle.current.specs.Reads.{FewReads, FewToUndo, FewToCheck}
use Rattle.sysversion.specs.Reads.{rows_gone}
use Rattle.apply.specs.Executing.{IsTurned}

-- how many columns the key of the n-th table has
abbrev pub key_columns : Tables → ℕ → ℕ
key_columns schema n = option_map_or (λ table. length table.1.key) (slice_get schema n) 0

-- a statement reads few of the rows of a state, in whose tables no key has more columns than these
abbrev pub FewToRun : (ℕ → ℕ) → StatementShape → State → ℕ → ℕ → Type 0
FewToRun columns s state old new = (rows : Rows) × AllListed rows state × FewReads s (columns (table_of s)) (rows (table_of s)) old new

-- and few are read of a state to undo what was touched before it
abbrev pub FewToTurnBack : Tables → State → Rows → Rows → ℕ → ℕ → Type 0
FewToTurnBack schema state removed added old new = (rows : Rows) × AllListed rows state × FewToUndo (length schema) rows removed added old new

-- to check the references of a state, by what was touched
abbrev pub FewToJudge : Tables → State → Rows → Rows → ℕ → ℕ → Type 0
FewToJudge schema state removed added old new = (rows : Rows) × AllListed rows state × FewToCheck schema rows removed added old new

-- Each statement reads few of the rows that those before it leave. It is the last that runs; or the next ones run, or after the last
-- one the references are checked, by all that was touched; and then, if something is refused, few rows are read to undo it.
abbrev pub FewReadsEach : Tables → (ℕ → ℕ) → ℕ → List StatementShape → Rows → Rows → State → ℕ → ℕ → Type 0
FewReadsEach schema columns t [] went came state old new = FewToJudge schema state went came old new
FewReadsEach schema columns t (s ∷ ss) went came state old new =
    (mid : ℕ) × FewToRun columns s state old mid
    × ((new ≡ mid) ⊎ ((next : State) × (removed : Rows) × (added : Rows) × (run_statement t (meaning s) state ≡ Ok next) × AllTouched state next removed added
    × (later : ℕ) × FewReadsEach schema columns t ss (λ n. went n ++ removed n) (λ n. came n ++ added n) next mid later
    × ((new ≡ later) ⊎ FewToTurnBack schema next removed added later new)))

-- to commit what the statements turned: of the versions one at most for each row that went
abbrev pub FewToCommit : Tables → ℕ → List StatementShape → State → ℕ → ℕ → Type 0
FewToCommit schema t ss state old new =
    (next : State) × (removed : Rows) × (added : Rows) × (transacted (language_of schema) t (map meaning ss) state ≡ Ok next) × ((n : ℕ) → IsTurned t (state n) (next n) (removed n) (added n))
    × (new ≤ old + rows_gone (length schema) removed)

-- a text is executed so in a state: its statements, and where all is accepted the commit
abbrev pub FewToExecute : Tables → ℕ → List ℕ → State → ℕ → ℕ → Type 0
FewToExecute schema t text state old new =
    let ss = result_unwrap_or (transaction_in schema text) [] in
    (mid : ℕ) × FewReadsEach schema (key_columns schema) t ss (λ n. []) (λ n. []) state old mid × ((new ≡ mid) ⊎ FewToCommit schema t ss state mid new)

-- An entry reads nothing, or its request is executed in the state before it. `before` is a list of entries from the newest back to the
-- oldest.
abbrev pub FewToApply : Tables → List Entry → Entry → ℕ → ℕ → Type 0
FewToApply schema before e old new =
    (new ≡ old) ⊎ ((r : Request) × (e.request ≡ Some r) × (is_first r before ≡ true) × FewToExecute schema e.stamp r.text (state_after (language_of schema) before) old new)

-- so many reads at most came of all entries, each in its turn
unfoldable pub FewForAll : Tables → List Entry → ℕ → Type 0
FewForAll schema [] reads = reads ≡ 0
FewForAll schema (e ∷ before) reads = (earlier : ℕ) × FewForAll schema before earlier × FewToApply schema before e earlier reads

-- so many reads came of the entries of a list, if their stamps rise
unfoldable pub AreFew : Tables → List Entry → ℕ → Type 0
AreFew schema list reads = IsStamped list → ∥ FewForAll schema (reverse list) reads ∥₁
