-- Digests of logs.
use Rattle.std.specs.Prelude.{ℕ, List, [], ◌++◌, length, fold, replicate}
use Rattle.sha2.specs.Sha256.{sha256}
use Rattle.model.specs.declared.entry.Entry.{Entry}
use Rattle.keep.specs.Durable.{Durable}
use Rattle.flight.specs.Spelling.{entry_text}
use Rattle.journal.specs.declared.stored.Summary.{Summary}

-- the digest of a log with one entry more than the one of this digest
abbrev pub next_digest : List ℕ → Entry → List ℕ
next_digest before e = sha256 (before ++ entry_text e [])

-- the digest of a log: a chain from 32 bytes of 0, entry by entry
abbrev pub digest_of : List Entry → List ℕ
digest_of log = fold next_digest (replicate 32 0) log

-- what is stored, in short
abbrev pub summary_of : Durable → Summary
summary_of d = record { hard = d.hard; length = length d.log; digest = digest_of d.log }
