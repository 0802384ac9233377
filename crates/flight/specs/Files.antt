-- What a text is as a flight file.
use Rattle.std.specs.Prelude.{◌≡◌, ℕ, List, ◌⊎◌}
use Rattle.fault.specs.declared.refusal.Refusal.{Refusal}
use Rattle.fault.specs.declared.refusal.Refusal.TheVariants.{NoMemory, BadFlight}
use Rattle.flight.specs.Contents.{FlightContents}
use Rattle.flight.specs.Spelling.{flight_text}
use Rattle.flight.specs.Ranges.{IsFlight}

-- the file of a flight that holds this
abbrev pub IsFileOf : List ℕ → FlightContents → Type 0
IsFileOf text f = IsFlight f × (text ≡ flight_text f)

-- and of no other
abbrev pub IsOnlyOf : List ℕ → FlightContents → Type 0
IsOnlyOf text f = (g : FlightContents) → IsFileOf text g → g ≡ f

-- no flight's file, or memory ran out
abbrev pub IsNoFile : List ℕ → Refusal → Type 0
IsNoFile text r = (r ≡ NoMemory) ⊎ ((r ≡ BadFlight) × ((g : FlightContents) → IsFileOf text g → ⊥))
