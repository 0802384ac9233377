-- What a request on its way hears, and where it goes next.
use Rattle.std.specs.Prelude.{ℕ, ◌≡◌, ◌<◌, ◌+◌, nat_lt, if◌then◌else◌}
use Rattle.model.specs.declared.entry.Told.{Told}
use Rattle.live.specs.declared.errand.Errand.{Errand}

-- the node after this one of so many; after the last comes the first
abbrev pub next_of : ℕ → ℕ → ℕ
next_of members node = if nat_lt node members then node + 1 else 1

-- a node tells of the request, and of no entry that was told of before it set out
abbrev pub IsToldOf : Errand → Told → Type 0
IsToldOf errand told = (errand.after < told.index) × (told.client ≡ errand.request.client) × (told.number ≡ errand.request.number)
