-- What a member has stored as it is started.
use Rattle.std.specs.Prelude.{ℕ}
use Rattle.model.specs.Worlds.{World}
use Rattle.keep.specs.Durable.{Durable}
use Rattle.journal.specs.declared.stored.Summary.{Summary}
use Rattle.store.specs.declared.store.Store.{Store}
use Rattle.store.specs.Going.{AreClean, IsIn}
use Rattle.store.specs.Recording.{HasInShort}

module _ {K J I : Type 0} {an : _} {g : _} {s : _} {d : _} where
  -- in each world that the store is in the member has this stored
  abbrev pub HasStored : (honest : K → Type 0) (held : K → Durable → Type 0) (holds : I → Durable → Type 0) → Store K J I an g s d → ℕ → Summary → Type 0
  HasStored honest held holds store m stored = AreClean honest holds store → (w : World) → IsIn held holds store w → HasInShort w m stored
