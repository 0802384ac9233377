-- Logs that databases hold.
use Rattle.std.specs.Prelude.{◌≡◌, ◌≤◌, List, length, take}
use Rattle.model.specs.declared.entry.Entry.{Entry}
use Rattle.journal.specs.Digests.{digest_of}
use Rattle.journal.specs.declared.stored.Summary.{Summary}

-- these are the first entries of a log, as many as were stored, with the digest of what was stored
abbrev pub IsBeginning : (log : List Entry) → Summary → (first : List Entry) → Type 0
IsBeginning log stored first = (stored.length ≤ length log) × (first ≡ take stored.length log) × (digest_of first ≡ stored.digest)
