-- What is found in databases, and what it is compared with.
use Rattle.std.specs.Prelude.{◌≡◌, ◌++◌, ◌∷◌, [], List, ℕ, zero, suc, Option, Some, None, slice_get}
use Rattle.keep.specs.Durable.{Durable}
use Rattle.playback.specs.Playing.{IsLeft}
use Rattle.playback.specs.Scenes.{Scene}

module _ {I : Type 0} (holds : I → Durable → Type 0) (sound : I → Type 0) where
  -- so far as nothing wrong was taken as true, the database held just what its member has stored, as the play goes on with it
  abbrev pub IsAlike : I → Scene → ℕ → Scene → Type 0
  IsAlike database s m t = (d : Durable) × (now : I) × (sound now → holds database d) × IsLeft s m d t

  -- the next member's database is missing, or is alike
  abbrev pub IsNext : Option (Option I) → Scene → ℕ → (before missing : List ℕ) → Scene → Type 0
  IsNext (Some (Some database)) s m before missing t = (missing ≡ before) × IsAlike database s m t
  IsNext (Some None) s m before missing t = (missing ≡ before ++ m ∷ []) × (t ≡ s)
  IsNext None s m before missing t = ⊥

  -- those of so many members, from the first on, are missing, or alike
  abbrev pub AreAlike : List (Option I) → Scene → ℕ → (missing : List ℕ) → Scene → Type 0
  AreAlike databases s zero missing t = (missing ≡ []) × (t ≡ s)
  AreAlike databases s (suc n) missing t = (before : List ℕ) × (mid : Scene) × AreAlike databases s n before mid × IsNext (slice_get databases n) mid (suc n) before missing t
