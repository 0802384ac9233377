-- Why a packet is not sent.
use Rattle.std.specs.Prelude.{◌≡◌, ◌⊎◌}
use Rattle.fault.specs.declared.refusal.Refusal.{Refusal}
use Rattle.fault.specs.declared.refusal.Refusal.TheVariants.{NodeDown, LifeFull, NoMemory}

-- the node does not run, no number is left, or there is no memory
abbrev pub IsUnsentRefusal : Refusal → Type 0
IsUnsentRefusal refusal = (refusal ≡ NodeDown) ⊎ ((refusal ≡ LifeFull) ⊎ (refusal ≡ NoMemory))
