-- What is put into a store that is new.
use Rattle.std.specs.Prelude.{◌≡◌}
use Rattle.keep.specs.Durable.{Durable}

-- an image holds this, unless it took something wrong as true, and nothing else
abbrev pub HoldsJust : {I : Type 0} → (holds : I → Durable → Type 0) → (sound : I → Type 0) → I → Durable → Type 0
HoldsJust holds sound image stored = ((d : Durable) → holds image d → d ≡ stored) × (sound image → holds image stored)
