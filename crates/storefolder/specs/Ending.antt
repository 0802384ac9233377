-- How a journal ends.
use Rattle.std.specs.Prelude.{◌≡◌, ℕ, List, Option, Some, None, length, drop}
use Rattle.store.specs.declared.telling.End.{End}
use Rattle.storefolder.specs.Torn.{IsTorn}

-- its whole blocks, of which it has one, end where it does
abbrev pub IsWholeAt : List ℕ → Option End → Type 0
IsWholeAt bytes None = ⊥
IsWholeAt bytes (Some end) = end.at ≡ length bytes

-- what stands behind its whole blocks is left of a write that was cut short
abbrev pub IsTornAt : List ℕ → Option End → Type 0
IsTornAt bytes None = IsTorn (drop 0 bytes)
IsTornAt bytes (Some end) = IsTorn (drop end.at bytes)
