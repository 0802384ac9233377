-- How a call over an outlet ends that fails.
use Rattle.std.specs.Prelude.{◌≡◌, ◌⊎◌}
use Rattle.std.specs.declared.io.Error.{Error}
use Rattle.answertext.specs.declared.outlet.WriteFault.{WriteFault}
use Rattle.answertext.specs.declared.outlet.WriteFault.TheVariants.{NoMemory, Writer}

-- the outlet's last call gave this error
abbrev pub IsLastError : {O E : Type 0} → (O → E → O → Type 0) → E → O → Type 0
IsLastError {O} fails error new = (before : O) × fails before error new

-- there was no memory, and nothing was put; or the outlet's last call gave the error
abbrev pub IsWriteFault : {O : Type 0} → (O → Error → O → Type 0) → O → WriteFault → O → Type 0
IsWriteFault fails old fault new = ((fault ≡ NoMemory) × (new ≡ old)) ⊎ (error : Error) × (fault ≡ Writer error) × IsLastError fails error new
