-- Logs on the rows of all tables.
use Rattle.std.specs.Prelude.{◌≡◌, ℕ, Option, Some, None, List, [], ◌∷◌, if◌then◌else◌, Result, Ok, Err}
use Rattle.std.specs.List.{AllByRecursion}
use Rattle.fault.specs.declared.refusal.Refusal.{Refusal}
use Rattle.model.specs.declared.entry.Request.{Request}
use Rattle.model.specs.declared.entry.Entry.{Entry}
use Rattle.model.specs.Transactions.{Language}
use Rattle.model.specs.Logs.{Outcome, is_first, first_outcome, state_after}
use Rattle.rowlaws.specs.Statements.{Rows, AllListed, AllFollow}
use Rattle.rowlaws.specs.Transactions.{rows_executed, IsFineText}

-- ---- logs whose texts are well formed

-- a request, if there is one
abbrev pub IsFineRequest : Language → Option Request → Type 0
IsFineRequest language None = Unit {0}
IsFineRequest language (Some r) = IsFineText language r.text

-- each request of a list of entries
abbrev pub AllFine : Language → List Entry → Type 0
AllFine language list = AllByRecursion (λ e. IsFineRequest language e.request) list

-- what any text says is well formed
abbrev pub ReadsFine : Language → Type 0
ReadsFine language = (text : List ℕ) → IsFineText language text

-- ---- what a log leaves. In what follows `before` is a list of entries from the newest back to the oldest.

-- a refused transaction changes nothing
abbrev pub next_rows : Rows → Result Rows Refusal → Rows
next_rows all (Ok next) = next
next_rows all (Err refusal) = all

-- what a request leaves, if it is a first
abbrev pub rows_after_request : Language → ℕ → Option Request → List Entry → Rows → Rows
rows_after_request language t None before all = all
rows_after_request language t (Some r) before all = if is_first r before then next_rows all (rows_executed language t r.text all) else all

-- what the first requests leave, one at a time, each once
unfoldable pub rows_after : Language → List Entry → Rows
rows_after language [] = λ n. []
rows_after language (e ∷ before) = rows_after_request language e.stamp e.request before (rows_after language before)

-- accepted at its instant, or refused
abbrev pub rows_outcome_at : ℕ → Result Rows Refusal → Outcome
rows_outcome_at t (Ok next) = Ok t
rows_outcome_at t (Err refusal) = Err refusal

-- what a first request comes to, by the rows before it
abbrev pub rows_outcome : Language → ℕ → Request → Rows → Outcome
rows_outcome language t r all = rows_outcome_at t (rows_executed language t r.text all)

-- ---- laws

-- what a log leaves on lists of rows are the rows of what it leaves on days
abbrev pub LogsOnRows : Type 0
LogsOnRows = (language : Language) (before : List Entry) → AllFine language before → AllListed (rows_after language before) (state_after language before)

-- each row that an entry leaves was there before, or is born at the entry's instant
abbrev pub LogsFollow : Type 0
LogsFollow = (language : Language) (e : Entry) (before : List Entry) → AllFine language (e ∷ before) → AllFollow e.stamp (state_after language before) (state_after language (e ∷ before))

-- what a first request comes to, by the rows before it, is what it comes to on days
abbrev pub OutcomesOnRows : Type 0
OutcomesOnRows = (language : Language) (t : ℕ) (r : Request) (before : List Entry) (all : Rows) →
    IsFineText language r.text → AllListed all (state_after language before) → rows_outcome language t r all ≡ first_outcome language t r before

-- a language by which any text is well formed has well formed logs
abbrev pub FineLogs : Type 0
FineLogs = (language : Language) (list : List Entry) → ReadsFine language → AllFine language list
