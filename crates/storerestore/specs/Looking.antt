-- Which databases may be made anew.
use Rattle.std.specs.Prelude.{◌≡◌, ◌⊎◌, ◌↔◌, ◌<◌, ◌/◌, IsTrue, true, false, Option, Some, None, Result, Ok, Err, ℕ, List, length}
use Rattle.std.specs.List.{All, count_by}
use Rattle.keep.specs.Durable.{Durable, blank}
use Rattle.journal.specs.Digests.{summary_of}
use Rattle.journal.specs.declared.stored.Summary.{Summary}
use Rattle.store.specs.HeldAt.{entries_in, IsFound}
use Rattle.store.specs.Tales.{IsFit}
use Rattle.store.specs.declared.held.HeldLog.{HeldLog}
use Rattle.store.specs.declared.tale.Tale.{Tale}
use Rattle.store.specs.declared.refusal.StoreRefusal.{StoreRefusal}
use Rattle.storerestore.specs.declared.looking.Looked.{Looked}

-- it can't be read, or may hold anything
abbrev pub unreadable : Looked
unreadable = record { fits = false; log = None }

-- what is found in a database is what is told of its member exactly where it fits; or it can't be read
abbrev pub IsJudged : {I : Type 0} → (holds : I → Durable → Type 0) → (sound : I → Type 0) → I → Tale → Looked → Type 0
IsJudged {I} holds sound database tale looked = (looked ≡ unreadable) ⊎ ((now : I) × (found : Summary) × (log : HeldLog) × IsFound holds sound database now found (entries_in log) × (looked.log ≡ Some log) × (IsTrue looked.fits ↔ IsFit tale found))

-- so is one that could be opened; one that is missing fits exactly where nothing was ever stored in it
abbrev pub IsLookedAt : {I : Type 0} → (holds : I → Durable → Type 0) → (sound : I → Type 0) → Result (Option I) StoreRefusal → Tale → Looked → Type 0
IsLookedAt holds sound (Ok (Some database)) tale looked = IsJudged holds sound database tale looked
IsLookedAt holds sound (Ok None) tale looked = (IsTrue looked.fits ↔ ((tale.stored ≡ summary_of blank) × (tale.announced ≡ None))) × (looked.log ≡ None)
IsLookedAt holds sound (Err refusal) tale looked = looked ≡ unreadable

-- more than half of these are what the journals tell
abbrev pub MostFit : List Looked → Type 0
MostFit all = length all / 2 < count_by (λ (looked : Looked). looked.fits) all

-- it is what they tell, or is missing, or can't be read
abbrev pub IsNoOther : Looked → Type 0
IsNoOther looked = (looked.fits ≡ true) ⊎ (looked.log ≡ None)

-- one that can be read and holds something else is made anew only where most are what the journals tell
abbrev pub MayBeMade : List Looked → Type 0
MayBeMade all = MostFit all ⊎ All IsNoOther all

-- each of so many may hold anything
abbrev pub AllLost : List Looked → ℕ → Type 0
AllLost all members = (length all ≡ members) × All (λ (looked : Looked). looked ≡ unreadable) all
