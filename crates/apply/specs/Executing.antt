-- Transactions on the rows and versions of tables, against what they come to on days.
use Rattle.std.specs.Result.{result_unwrap_or}
use Rattle.std.specs.Prelude.{◌≡◌, ◌⊎◌, ℕ, Option, Some, None, List, Ok, Err}
use Rattle.fault.specs.declared.refusal.Refusal.{Refusal}
use Rattle.fault.specs.declared.refusal.Refusal.TheVariants as refusals
use Rattle.model.specs.Tables.{Table, Row, IsRow}
use Rattle.model.specs.Transactions.{State, Statement, Language, transacted, executed_text}
use Rattle.model.specs.Logs.{Outcome, outcome_at}
use Rattle.rowlaws.specs.Rows.{Has, Apart}
use Rattle.rowlaws.specs.Statements.{Rows, AllListed}
use Rattle.versionlaws.specs.Versions.{Version}
use Rattle.versionlaws.specs.ByKey.{SameByKey}
use Rattle.versionlaws.specs.Committing.{committed}
use Rattle.retry.specs.Judging.{Verdict, New, Kept, Old, Gap}

-- Several statements at t turned the older table into the newer: these rows went and these came. A row that was born at t
-- may have gone and come again.
pub record IsTurned (t : ℕ) (old new : Table) (removed added : List Row) : Type 0 where
  pub went : (row : Row) → Has removed row → IsRow old row
  pub back : (row : Row) → Has removed row → IsRow new row → Has added row
  pub stay : (row : Row) → IsRow old row → IsRow new row ⊎ Has removed row
  pub came : (row : Row) → Has added row → IsRow new row × (row.system_start ≡ t)
  pub anew : (row : Row) → Has added row → IsRow old row → Has removed row
  pub comes : (row : Row) → IsRow new row → IsRow old row ⊎ Has added row
  pub removed_once : Apart removed
  pub added_once : Apart added

-- whatever state the rows were of, it takes the transaction, the new rows are those of the state after it, and these went and came
abbrev pub IsTransacted : Language → ℕ → List Statement → Rows → Rows → Rows → Rows → Type 0
IsTransacted language t ss rows more removed added =
    (state : State) → AllListed rows state → (next : State) × (transacted language t ss state ≡ Ok next) × AllListed more next × ((n : ℕ) → IsTurned t (state n) (next n) (removed n) (added n))

-- whatever state the rows are of, it refuses the transaction so, and they are its rows again; or there was no memory
abbrev pub IsRefusedWhole : Language → ℕ → List Statement → Rows → Rows → Refusal → Type 0
IsRefusedWhole language t ss rows more refusal =
    (refusal ≡ refusals.NoMemory) ⊎ ((state : State) → AllListed rows state → (transacted language t ss state ≡ Err refusal) × AllListed more state)

-- each state that the older rows are of is one of the newer
abbrev pub AreBack : Rows → Rows → Type 0
AreBack rows more = (state : State) → AllListed rows state → AllListed more state

-- the table stays with its versions, or what the transaction at t turned is committed: of each key the same versions
abbrev pub IsCommitted : ℕ → Table → Table → List Version → List Version → Type 0
IsCommitted t old new versions more =
    ((new ≡ old) × (more ≡ versions)) ⊎ ((removed : List Row) × (added : List Row) × IsTurned t old new removed added × SameByKey more (committed t removed added versions))

-- the outcome of a text that is executed at t in a state, and the rows and versions after it
pub record IsExecuted (language : Language) (t : ℕ) (text : List ℕ) (state : State) (more : Rows) (versions later : ℕ → List Version) (outcome : Outcome) : Type 0 where
  pub is : outcome ≡ outcome_at t (executed_text language t text state)
  pub rows : AllListed more (result_unwrap_or (executed_text language t text state) state)
  pub committed : (n : ℕ) → IsCommitted t (state n) (result_unwrap_or (executed_text language t text state) state n) (versions n) (later n)

-- the outcome of a request that is not executed
abbrev pub unless_new : Verdict → Option Outcome
unless_new New = None
unless_new (Kept outcome) = Some outcome
unless_new Old = Some (Err refusals.Old)
unless_new Gap = Some (Err refusals.Gap)
