-- Logs of several databases.
use Rattle.std.specs.Prelude.{◌≡◌, ℕ, Option, Some, List, slice_get}
use Rattle.model.specs.declared.entry.Entry.{Entry}
use Rattle.journal.specs.Digests.{summary_of}
use Rattle.journal.specs.declared.stored.Summary.{Summary}
use Rattle.keep.specs.Durable.{Durable}
use Rattle.store.specs.declared.held.HeldLog.{HeldLog}
use Rattle.store.specs.Held.{IsBeginning}

-- the entries of a log
abbrev pub entries_in : HeldLog → List Entry
entries_in log = log.entries.items

-- the log at this place is there, and these are its first entries, as they were stored
abbrev pub BeginsAt : List (Option HeldLog) → Summary → List Entry → ℕ → Type 0
BeginsAt held stored first i = (log : HeldLog) × (slice_get held i ≡ Some (Some log)) × IsBeginning (entries_in log) stored first

-- This is what a database held, in short and with its log, unless something wrong was taken as true before the database was as it is now
abbrev pub IsFound : {I : Type 0} → (holds : I → Durable → Type 0) → (sound : I → Type 0) → (was now : I) → Summary → List Entry → Type 0
IsFound holds sound was now found log = sound now → (d : Durable) × holds was d × (found ≡ summary_of d) × (log ≡ d.log)
