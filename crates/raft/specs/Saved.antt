-- What of a log is stored, and how a step edits it.
use Rattle.std.specs.Prelude.{◌≡◌, ◌⊎◌, vec_len, ℕ, ◌+◌, ◌≤◌, ◌<◌, List, ◌++◌, take, length, slice_get}
use Rattle.raft.specs.declared.short_log.ShortLog.{ShortLog}
use Rattle.model.specs.declared.entry.Entry.{Entry}

-- all entries of a log, where these are those that the reader has
abbrev pub whole : ShortLog → List Entry → List Entry
whole l stored = take l.elsewhere stored ++ l.tail.items

-- all of them are stored
abbrev pub IsSaved : ShortLog → Type 0
IsSaved l = l.saved ≡ l.elsewhere + vec_len l.tail

-- the new log goes on after the first k entries of the old, with another entry where the old has one
pub record Cut (k : ℕ) (old new : List Entry) : Type 0 where
  pub within : k ≤ length old
  pub begins : take k new ≡ take k old
  pub more : k < length new
  pub other : k < length old → slice_get new k ≡ slice_get old k → ⊥

-- a log of which all was stored is as it was, or tells where it was cut
abbrev pub Tells : List Entry → ShortLog → ShortLog → Type 0
Tells stored old new = (new ≡ old) ⊎ Cut new.saved (whole old stored) (whole new stored)
