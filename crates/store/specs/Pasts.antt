-- What is told, as a value has it.
use Rattle.std.specs.Prelude.{◌≡◌, Option, Some, None, Result, Err, IsOk}
use Rattle.fault.specs.declared.refusal.Refusal.TheVariants.{BadFlight}
use Rattle.store.specs.declared.past.Past.{Past}
use Rattle.store.specs.declared.refusal.StoreRefusal.{StoreRefusal}
use Rattle.store.specs.declared.refusal.StoreRefusal.TheVariants.{Refused}
use Rattle.store.specs.Tales.{Told}

abbrev pub told_by : Past → Told
told_by p = record { tales = p.members.items; marks = p.marks; sessions = p.sessions; requests = p.requests }

-- a line is refused 50 exactly where it may not stand there, and then nothing changed
abbrev pub IsHeard : {A : Type 0} → Told → Option Told → Result A StoreRefusal → Told → Type 0
IsHeard old None result new = (result ≡ Err (Refused BadFlight)) × (new ≡ old)
IsHeard old (Some p) result new = IsOk result × (new ≡ p)
