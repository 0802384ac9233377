-- Journals that go on from others, which are away.
use Rattle.std.specs.Prelude.{◌≡◌, ℕ, zero, suc, List, [], ◌∷◌, ◌++◌}
use Rattle.journal.specs.Digests.{summary_of}
use Rattle.journal.specs.declared.stored.Summary.{Summary}
use Rattle.keep.specs.Durable.{Durable}
use Rattle.model.specs.Worlds.{Stop}
use Rattle.world.specs.Deeds.{Deed, Happened}
use Rattle.playback.specs.Scenes.{Scene, with_stored}

-- each of so many members is stopped, from the first on
abbrev pub all_stopped : ℕ → List Deed
all_stopped zero = []
all_stopped (suc n) = all_stopped n ++ Happened (Stop (suc n)) ∷ []

-- a member goes on from something that is this in short
abbrev pub IsMet : Scene → ℕ → Summary → Scene → Type 0
IsMet s m found t = (stored : Durable) × (summary_of stored ≡ found) × (t ≡ with_stored s m stored)
