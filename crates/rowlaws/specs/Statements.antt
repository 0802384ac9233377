-- Statements one after another on the rows of all tables.
use Rattle.std.specs.Prelude.{ℕ, ◌==◌, nat_lt, List, [], ◌∷◌, length, if◌then◌else◌, Result, Ok, Err}
use Rattle.fault.specs.declared.refusal.Refusal.{Refusal}
use Rattle.fault.specs.declared.refusal.Refusal.TheVariants.{RowLimit}
use Rattle.model.specs.Tables.{Row}
use Rattle.model.specs.Transactions.{State, Statement, and_then, run_statement, run_statements}
use Rattle.rowlaws.specs.Rows.{Lists}
use Rattle.rowlaws.specs.Changes.{IsFine, rows_changed, SameResult, Follows}

-- each statement is well formed
abbrev pub AreFine : List Statement → Type 0
AreFine [] = Unit {0}
AreFine (s ∷ ss) = IsFine s.action × AreFine ss

-- the rows of each table, by its number
abbrev pub Rows : Type 0
Rows = ℕ → List Row

-- 22: more than 20,000 rows
abbrev pub rows_within_limit : List Row → Result (List Row) Refusal
rows_within_limit rows = if nat_lt 20000 (length rows) then Err RowLimit else Ok rows

-- all rows with these for the n-th table
abbrev pub with_rows : ℕ → Rows → List Row → Rows
with_rows n all rows = λ m. if m == n then rows else all m

-- a statement changes one table, and leaves it at most 20,000 rows
abbrev pub run_on_rows : ℕ → Statement → Rows → Result Rows Refusal
run_on_rows t s all = and_then (and_then (rows_changed s.action t (all s.table)) rows_within_limit) (λ rows. Ok (with_rows s.table all rows))

-- the statements one after another, up to the first refusal
abbrev pub run_all_on_rows : ℕ → List Statement → Rows → Result Rows Refusal
run_all_on_rows t [] all = Ok all
run_all_on_rows t (s ∷ ss) all = and_then (run_on_rows t s all) (run_all_on_rows t ss)

-- each list has the rows of its table
abbrev pub AllListed : Rows → State → Type 0
AllListed all state = (n : ℕ) → Lists (all n) (state n)

-- each row of each newer table is one of the older, or was born at t
abbrev pub AllFollow : ℕ → State → State → Type 0
AllFollow t old new = (n : ℕ) → Follows t (old n) (new n)

-- ---- laws

-- a statement on lists of rows comes to what it comes to on days, and the lists stay the rows of every table
abbrev pub StatementOnRows : Type 0
StatementOnRows = (t : ℕ) (s : Statement) (all : Rows) (state : State) →
    IsFine s.action → AllListed all state → SameResult AllListed (run_on_rows t s all) (run_statement t s state)

-- and so do several
abbrev pub StatementsOnRows : Type 0
StatementsOnRows = (t : ℕ) (ss : List Statement) (all : Rows) (state : State) →
    AreFine ss → AllListed all state → SameResult AllListed (run_all_on_rows t ss all) (run_statements t ss state)
