-- Tables in which no day is without a parent, and what was touched since they were so.
use Rattle.std.specs.Prelude.{◌≡◌, ℕ, None, List, [], ◌++◌, Ok}
use Rattle.model.specs.declared.entry.Entry.{Entry}
use Rattle.model.specs.Tables.{Row}
use Rattle.model.specs.Transactions.{State, Statement, Language, first_orphan, unless_orphan, transacted}
use Rattle.model.specs.Logs.{state_after}
use Rattle.rowlaws.specs.Rows.{Has}
use Rattle.rowlaws.specs.Touching.{IsTouched}
use Rattle.rowlaws.specs.Statements.{Rows, AllListed}
use Rattle.rowlaws.specs.Losing.{IsTouchedAmong}

-- of each table, the rows removed and added are what was touched between the states
abbrev pub AllTouched : State → State → Rows → Rows → Type 0
AllTouched old new removed added = (n : ℕ) → IsTouched (old n) (new n) (removed n) (added n)

-- or what was touched is among them
abbrev pub AllTouchedAmong : State → State → Rows → Rows → Type 0
AllTouchedAmong old new removed added = (n : ℕ) → IsTouchedAmong (old n) (new n) (removed n) (added n)

-- from some state without a day without a parent the tables came to these rows, and what was touched is among removed and added
abbrev pub ComesFromWhole : Language → Rows → Rows → Rows → Type 0
ComesFromWhole language all removed added =
    (old : State) × (new : State) × (before : Rows) × AllListed before old × AllListed all new × AllTouchedAmong old new removed added × (first_orphan language old ≡ None)

-- ---- laws

-- states that have the same rows have one first day without a parent
abbrev pub OneOrphan : Type 0
OneOrphan = (language : Language) (all : Rows) (state next : State) → AllListed all state → AllListed all next → first_orphan language state ≡ first_orphan language next

-- an accepted transaction leaves no day without a parent
abbrev pub NoOrphanThen : Type 0
NoOrphanThen = (language : Language) (t : ℕ) (ss : List Statement) (state next : State) → transacted language t ss state ≡ Ok next → first_orphan language next ≡ None

-- nor does a log
abbrev pub NoOrphanAfter : Type 0
NoOrphanAfter = (language : Language) (before : List Entry) → first_orphan language (state_after language before) ≡ None

-- where a check of the references accepts, there is no day without a parent
abbrev pub NoneAccepted : Type 0
NoneAccepted = (language : Language) (state next : State) → unless_orphan language state (first_orphan language state) ≡ Ok next → first_orphan language state ≡ None

-- tables without such a day come from themselves, and nothing was touched
abbrev pub WholeItself : Type 0
WholeItself = (language : Language) (all : Rows) (state : State) → AllListed all state → first_orphan language state ≡ None → ComesFromWhole language all (λ n. []) (λ n. [])

-- after one action more, what it touches is added
abbrev pub WholeThen : Type 0
WholeThen = (language : Language) (all more removed added later_removed later_added : Rows) → ComesFromWhole language all removed added →
    ((state : State) → AllListed all state → (next : State) × AllListed more next × AllTouched state next later_removed later_added) →
    ComesFromWhole language more (λ n. removed n ++ later_removed n) (λ n. added n ++ later_added n)

-- and more may be told of, in any order
abbrev pub WholeAmong : Type 0
WholeAmong = (language : Language) (all removed added more_removed more_added : Rows) → ComesFromWhole language all removed added →
    ((n : ℕ) (r : Row) → Has (removed n) r → Has (more_removed n) r) → ((n : ℕ) (r : Row) → Has (added n) r → Has (more_added n) r) →
    ComesFromWhole language all more_removed more_added
