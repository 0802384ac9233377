-- What calls that read a reader leave of it, and why they fail.
use Rattle.std.specs.Prelude.{◌≡◌, ◌⊎◌, ℕ, ◌≤◌, ◌<◌}
use Rattle.model.specs.Transactions.{Language}
use Rattle.keep.specs.Durable.{Durable}
use Rattle.keep.specs.declared.error.StoreError.{StoreError}
use Rattle.keep.specs.declared.error.StoreError.TheVariants.{NoMemory, StoreFault}

-- Of a reader before and after: whether it is honest, what it stores, what a next open may find, whom it serves, how often
-- it has failed, how often a save was asked of it, and where what else it carries came from. Nothing of it changed but what
-- a failure changes, and what else it carries by its own calls alone.
pub record IsRead (is is' : Type 0) (d d' : Durable) (holds holds' : Durable → Type 0) (serving serving' : ℕ → Language → Type 0) (failed failed' saves saves' : ℕ) {Origin : Type 0} (coming coming' : Origin → Type 0) : Type 0 where
  pub honest : is' → is
  pub same : is' → d' ≡ d
  pub left : (x : Durable) → holds' x → holds x
  pub serves : (members : ℕ) (tables : Language) → serving members tables → serving' members tables
  pub counts : failed ≤ failed'
  pub unsaved : saves' ≡ saves
  pub came : (o : Origin) → coming o → coming' o

-- the cause is want of memory, or that the store failed just now
abbrev pub IsCause : ℕ → ℕ → StoreError → Type 0
IsCause failed failed' error = (error ≡ NoMemory) ⊎ ((error ≡ StoreFault) × (failed < failed'))

-- the cause is one of these, or that the store was not honest, which is told as its fault
abbrev pub IsCauseOr : Type 0 → ℕ → ℕ → StoreError → Type 0
IsCauseOr honest failed failed' error = IsCause failed failed' error ⊎ ((error ≡ StoreFault) × (honest → ⊥))
