-- What an audit says of the store in a folder.
use Rattle.std.specs.Prelude.{◌≡◌, ◌⊎◌, ◌++◌, ◌∷◌, ⊤, [], List, ℕ, zero, suc, false, map}
use Rattle.believed.specs.Agreement.{Agree, decided}
use Rattle.believed.specs.Explained.{IsDecidedInOrder, IsExplained, WereSubmitted}
use Rattle.keep.specs.Durable.{Durable}
use Rattle.model.specs.Transactions.{Language}
use Rattle.model.specs.Worlds.{Event, new_world}
use Rattle.playback.specs.Playing.{IsLeft, Plays}
use Rattle.playback.specs.Scenes.{Scene, outset}
use Rattle.sqlchecks.specs.Columns.{Tables}
use Rattle.sqlread.specs.Meaning.{language_of}
use Rattle.storefolder.specs.Hearing.{HasHeard}
use Rattle.world.specs.Deeds.{Happened}
use Rattle.storeaudit.specs.declared.auditing.Audited.{Audited}
use Rattle.storeaudit.specs.declared.auditing.Verdict.{Verdict}
use Rattle.storeaudit.specs.declared.auditing.Verdict.TheVariants.{Yes, Later, No}

-- so many members, from the first on, are each named as missing, or left with what was compared
abbrev pub AreLeft : Scene → ℕ → (missing : List ℕ) → Scene → Type 0
AreLeft s zero missing t = (missing ≡ []) × (t ≡ s)
AreLeft s (suc n) missing t = (before : List ℕ) × (mid : Scene) × AreLeft s n before mid × (((missing ≡ before ++ suc n ∷ []) × (t ≡ mid)) ⊎ ((missing ≡ before) × (d : Durable) × IsLeft mid (suc n) d t))

-- the lines of so many journals were played, one after the other, and then members were compared
abbrev pub WasPlayed : Scene → (journals members : ℕ) → (missing : List ℕ) → Scene → Type 0
WasPlayed s journals members missing t = (mid : Scene) × HasHeard Plays journals s mid × AreLeft mid members missing t

-- all members agree about these events, which one list of requests explains, in order, each of which was submitted
abbrev pub IsOneRun : Language → ℕ → List Event → Type 0
IsOneRun language n events = Agree language n (new_world n) events × IsExplained language n (new_world n) events × WereSubmitted events (decided language n (new_world n) events) × IsDecidedInOrder language n (new_world n) events

-- Where it says yes, the lines of all journals, as many as it says, let events happen, from the first one on: one run, which gives all that they
-- tell. In it each member whose database is not named as missing has stored what was compared with that
abbrev pub IsUpheld : Verdict → Type 0
IsUpheld (Yes audited) = (events : List Event) × (end : Scene) × WasPlayed (outset audited.members (record { tables = audited.schema; members = audited.members; deeds = [] }) false) audited.sessions audited.members audited.missing.items end
    × (end.history ≡ record { tables = audited.schema; members = audited.members; deeds = map Happened events }) × IsOneRun (language_of audited.schema) audited.members events
IsUpheld (Later found) = ⊤
IsUpheld (No fault) = ⊤
