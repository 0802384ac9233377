-- A statement that is run on lists of rows, against what it comes to on days.
use Rattle.std.specs.Prelude.{◌≡◌, ◌⊎◌, ℕ, Ok, Err}
use Rattle.fault.specs.declared.refusal.Refusal.{Refusal}
use Rattle.fault.specs.declared.refusal.Refusal.TheVariants.{NoMemory}
use Rattle.model.specs.Transactions.{State, Statement, run_statement}
use Rattle.rowlaws.specs.Statements.{Rows, AllListed}
use Rattle.rowlaws.specs.Whole.{AllTouched}

-- whatever state the rows were of, it takes the statement, the new rows are those of the state after it, and this was touched
abbrev pub IsRun : ℕ → Statement → Rows → Rows → Rows → Rows → Type 0
IsRun t s rows more removed added =
    (state : State) → AllListed rows state → (next : State) × (run_statement t s state ≡ Ok next) × AllListed more next × AllTouched state next removed added

-- whatever state the rows are of, it refuses the statement so; or there was no memory
abbrev pub IsRefused : ℕ → Statement → Rows → Refusal → Type 0
IsRefused t s rows refusal = (refusal ≡ NoMemory) ⊎ ((state : State) → AllListed rows state → run_statement t s state ≡ Err refusal)

-- ---- undone

-- from some state the tables came to these rows, and this was touched
abbrev pub AllUndoable : Rows → Rows → Rows → Type 0
AllUndoable rows removed added = (state : State) × (next : State) × (before : Rows) × AllListed before state × AllListed rows next × AllTouched state next removed added

-- whatever state that was, the new rows are its rows
abbrev pub IsUndone : Rows → Rows → Rows → Rows → Type 0
IsUndone rows more removed added = (state next : State) (before : Rows) → AllListed before state → AllListed rows next → AllTouched state next removed added → AllListed more state
