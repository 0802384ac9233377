-- What ends a sitting.
use Rattle.std.specs.Prelude.{◌≡◌, ⊤}
use Rattle.fault.specs.declared.refusal.Refusal.{Refusal}
use Rattle.fault.specs.declared.refusal.Refusal.TheVariants.{NoMemory}
use Rattle.store.specs.declared.refusal.StoreRefusal.TheVariants as stores
use Rattle.console.specs.declared.stop.Fault.{Fault}
use Rattle.console.specs.declared.stop.Fault.TheVariants.{Refused, Output}

-- how a refusal is told, and want of memory
abbrev pub fault_of : Refusal → Fault
fault_of refusal = Refused (stores.Refused refusal)

abbrev pub no_memory : Fault
no_memory = fault_of NoMemory

-- standard output failed, or memory was refused
abbrev pub IsOfPrinting : Fault → Type 0
IsOfPrinting (Output error) = ⊤
IsOfPrinting (Refused refusal) = refusal ≡ stores.Refused NoMemory
