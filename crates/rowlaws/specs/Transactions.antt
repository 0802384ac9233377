-- Whole transactions on the rows of all tables.
use Rattle.std.specs.Result.{result_unwrap_or}
use Rattle.std.specs.Prelude.{◌≡◌, ℕ, Option, Some, None, List, Result, Ok, Err, []}
use Rattle.fault.specs.declared.refusal.Refusal.{Refusal}
use Rattle.fault.specs.declared.refusal.Refusal.TheVariants.{NoParent}
use Rattle.std.specs.List.Sorted.{IsStrictlySortedBy}
use Rattle.model.specs.Tables.{Table, Row}
use Rattle.model.specs.Texts.{key_text, day_text}
use Rattle.model.specs.Transactions.{State, Statement, Language, Place, and_then, transacted, executed_text}
use Rattle.rowlaws.specs.Rows.{Lists}
use Rattle.rowlaws.specs.Changes.{SameResult}
use Rattle.rowlaws.specs.Statements.{Rows, AreFine, run_all_on_rows, AllListed, AllFollow}
use Rattle.rowlaws.specs.Covering.{place_cmp, rows_orphan}
use Rattle.rowlaws.specs.Sorting.{in_order}

-- each table's rows by key and start
abbrev pub all_in_order : Rows → Rows
all_in_order all = λ n. in_order place_cmp (all n)

-- 21 names the first day without a parent
abbrev pub rows_unless_orphan : Language → Rows → Option Place → Result Rows Refusal
rows_unless_orphan language all None = Ok all
rows_unless_orphan language all (Some p) = Err (NoParent (language.name p.table) (key_text p.key) (day_text p.day))

-- the statements in order, then the references; or the first refusal
unfoldable pub rows_transacted : Language → ℕ → List Statement → Rows → Result Rows Refusal
rows_transacted language t ss all = and_then (run_all_on_rows t ss all) (λ next. rows_unless_orphan language next (rows_orphan language (all_in_order next)))

-- a transaction is its text
unfoldable pub rows_executed : Language → ℕ → List ℕ → Rows → Result Rows Refusal
rows_executed language t text all = rows_transacted language t (result_unwrap_or (language.reads text) []) all

-- what the text says is well formed
abbrev pub IsFineText : Language → List ℕ → Type 0
IsFineText language text = AreFine (result_unwrap_or (language.reads text) [])

-- ---- laws

-- a list put in order lists the same table, and is in strict order
abbrev pub RowsInOrder : Type 0
RowsInOrder = (rows : List Row) (table : Table) → Lists rows table → Lists (in_order place_cmp rows) table × IsStrictlySortedBy place_cmp (in_order place_cmp rows)

-- a transaction on lists of rows comes to what it comes to on days: the same rows, or the same refusal
abbrev pub TransactionsOnRows : Type 0
TransactionsOnRows = (language : Language) (t : ℕ) (ss : List Statement) (all : Rows) (state : State) →
    AreFine ss → AllListed all state → SameResult AllListed (rows_transacted language t ss all) (transacted language t ss state)

-- and so does a text
abbrev pub TextsOnRows : Type 0
TextsOnRows = (language : Language) (t : ℕ) (text : List ℕ) (all : Rows) (state : State) →
    IsFineText language text → AllListed all state → SameResult AllListed (rows_executed language t text all) (executed_text language t text state)

-- each row that an accepted transaction leaves was there before, or is born at its instant
abbrev pub TransactionsFollow : Type 0
TransactionsFollow = (language : Language) (t : ℕ) (ss : List Statement) (all : Rows) (state next : State) →
    AreFine ss → AllListed all state → transacted language t ss state ≡ Ok next → AllFollow t state next
