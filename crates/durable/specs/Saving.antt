-- A save.
use Rattle.std.specs.Prelude.{◌≡◌, Option, Some, None, List, [], ◌∷◌, IsTrue}
use Rattle.sqlite.specs.State.{State}
use Rattle.sqlite.specs.Tree.{Trees}
use Rattle.model.specs.declared.entry.Entry.{Entry}
use Rattle.keep.specs.declared.hard_state.HardState.{HardState}
use Rattle.keep.specs.Durable.{Durable}
use Rattle.durable.specs.Contents.{Contents}
use Rattle.durable.specs.Tables.{schema}
use Rattle.durable.specs.Rows.{Holds}

-- the change is made and committed
pub record IsSaved (old new : State) (made : Contents → Contents) : Type 0 where
  pub was_open : IsTrue old.is_open
  pub is_open : IsTrue new.is_open
  pub now : (d : Contents) → Holds old.now d → Holds new.now (made d)
  pub committed : new.committed ≡ new.now

-- what a commit in between leaves on the disk
abbrev pub Leaves : State → (Contents → Contents) → Trees → Type 0
Leaves old made trees = (d : Contents) → Holds old.now d → Holds (record { schema = schema; trees = trees }) (made d)

-- the hard state, if there is one, is the stored one
abbrev pub IsHard : Option HardState → Durable → Type 0
IsHard None d = Unit {0}
IsHard (Some h) d = h ≡ d.hard

-- these are the first entries of a log
abbrev pub IsBeginning : List Entry → List Entry → Type 0
IsBeginning [] log = Unit {0}
IsBeginning (e ∷ es) [] = ⊥
IsBeginning (e ∷ es) (x ∷ xs) = (e ≡ x) × IsBeginning es xs
