-- What a packet comes to at a cell.
use Rattle.std.specs.Prelude.{◌≡◌, ◌⊎◌, ℕ, Bool, true, false, Option, Some, None, Result, Ok, Err, List, [], ◌∷◌, ◌++◌}
use Rattle.fault.specs.declared.refusal.Refusal.{Refusal}
use Rattle.fault.specs.declared.refusal.Refusal.TheVariants.{StoreFault, NodeDown, LifeFull, NoMemory, BadStore}
use Rattle.keep.specs.declared.error.StoreError.TheVariants as store
use Rattle.node.specs.View.{IsCauseOr}
use Rattle.node.specs.declared.node.Out.{Out as NodeOut}
use Rattle.node.specs.declared.node.Fault.{Fault}
use Rattle.node.specs.declared.node.Fault.TheVariants.{Kept, Down}
use Rattle.cells.specs.declared.cell.Out.{Out}
use Rattle.flight.specs.Lives.{told_step}
use Rattle.flight.specs.declared.life.Step.{Step}
use Rattle.flight.specs.declared.life.Ending.{Ending}
use Rattle.flight.specs.declared.life.Ending.TheVariants.{Up, Stopped, Torn}
use Rattle.flight.specs.declared.life.Life.{Life}

-- a life with other steps, or another ending
pub record IsLifeWith (old new : Life) (more : List Step) (end : Ending) : Type 0 where
  pub opening : new.opening ≡ old.opening
  pub steps : new.steps.items ≡ old.steps.items ++ more
  pub ending : new.ending ≡ end

-- the step is recorded once: the last of those made whole, with the outcomes that it told, or, where the node goes down, the
-- torn ending
abbrev pub IsRecorded : Life → Life → Step → Result Out Fault → Type 0
IsRecorded old new s (Ok out) = IsLifeWith old new (told_step out.given.told.items s ∷ []) Up × (out.mark ≡ s.mark)
IsRecorded old new s (Err (Kept refusal)) = IsLifeWith old new (s ∷ []) Up
IsRecorded old new s (Err (Down t)) = IsLifeWith old new [] (Torn s)

-- what the node gave
abbrev pub given_of : Result Out Fault → Result NodeOut Fault
given_of (Ok out) = Ok out.given
given_of (Err fault) = Err fault

-- no step is made: exactly where the node is down, or no mark is left for it, or for want of memory
abbrev pub IsTurnedAway : Bool → Option ℕ → Result Out Fault → Type 0
IsTurnedAway false mark r = r ≡ Err (Kept NodeDown)
IsTurnedAway true None r = r ≡ Err (Kept LifeFull)
IsTurnedAway true (Some mark) r = r ≡ Err (Kept NoMemory)

-- why no life began: exactly where no mark is left, or because of the store or for want of memory
abbrev pub IsStartRefusal : Option ℕ → Refusal → Type 0
IsStartRefusal None refusal = refusal ≡ LifeFull
IsStartRefusal (Some mark) refusal = (refusal ≡ StoreFault) ⊎ ((refusal ≡ NoMemory) ⊎ (refusal ≡ BadStore))

-- how the life of a node ends that is stopped
abbrev pub ending_of : Bool → Ending → Ending
ending_of true ending = Stopped
ending_of false ending = ending

-- each fault that takes the cell down has one of a node's causes; or what the step makes applied may not come after what was
-- published, since a stamp does not rise. This is told as 44, and comes in no run of a group
abbrev pub HasCauseOrOrder : Type 0 → ℕ → ℕ → Type 0 → Fault → Type 0
HasCauseOrOrder honest failed failed' rises (Kept refusal) = Unit {0}
HasCauseOrOrder honest failed failed' rises (Down error) = IsCauseOr honest failed failed' error ⊎ ((error ≡ store.BadStore) × (honest → rises → ⊥))
