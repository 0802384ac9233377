-- What a node answers of what it has stored.
use Rattle.std.specs.Prelude.{◌≡◌, Bool, true, false, length}
use Rattle.fault.specs.declared.refusal.Refusal.TheVariants.{NodeDown}
use Rattle.keep.specs.Durable.{Durable}
use Rattle.keep.specs.declared.error.StoreError.{StoreError}
use Rattle.keep.specs.declared.error.StoreError.TheVariants as error
use Rattle.node.specs.declared.node.Fault.{Fault}
use Rattle.node.specs.declared.node.Fault.TheVariants.{Kept, Down}
use Rattle.node.specs.declared.durable.StoredState.{StoredState}

abbrev pub stored_of : Durable → StoredState
stored_of d = record { hard = d.hard; length = length d.log }

-- the store failed, or there was no memory
abbrev pub IsOfStore : StoreError → Type 0
IsOfStore error.NoMemory = Unit {0}
IsOfStore error.StoreFault = Unit {0}
IsOfStore error.NodeDown = ⊥
IsOfStore error.BadStore = ⊥

-- a node that was down says so and stays down; one that was up goes down
abbrev pub IsFaultOf : Bool → Bool → Fault → Type 0
IsFaultOf old new (Kept refusal) = (old ≡ false) × (new ≡ false) × (refusal ≡ NodeDown)
IsFaultOf old new (Down t) = (old ≡ true) × (new ≡ false) × IsOfStore t
