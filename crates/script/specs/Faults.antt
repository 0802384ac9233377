-- How playing may end.
use Rattle.std.specs.Prelude.{◌≡◌, ⊤}
use Rattle.std.specs.declared.io.Error.{Error}
use Rattle.answertext.specs.Outlets.{IsLastError}
use Rattle.answertext.specs.declared.outlet.WriteFault.{WriteFault}
use Rattle.answertext.specs.declared.outlet.WriteFault.TheVariants as write
use Rattle.fault.specs.declared.refusal.Refusal.TheVariants.{NoMemory}
use Rattle.script.specs.declared.run_fault.RunFault.{RunFault}
use Rattle.script.specs.declared.run_fault.RunFault.TheVariants.{Refused, Output}

-- want of memory, or a fault of the output
abbrev pub IsPlayFault : RunFault → Type 0
IsPlayFault (Refused refusal) = refusal ≡ NoMemory
IsPlayFault (Output error) = ⊤

-- want of memory, or the error that the printer gave last
abbrev pub IsFaultOf : {P : Type 0} → (P → Error → P → Type 0) → P → RunFault → Type 0
IsFaultOf fails printer (Refused refusal) = refusal ≡ NoMemory
IsFaultOf fails printer (Output error) = IsLastError fails error printer

-- why a text was not written, as a fault of playing
abbrev pub run_fault_of : WriteFault → RunFault
run_fault_of write.NoMemory = Refused NoMemory
run_fault_of (write.Writer error) = Output error
