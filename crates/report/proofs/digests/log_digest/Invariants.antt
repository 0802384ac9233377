use Rattle.std.proofs.Common.{◌≡◌, take}
use Rattle.journal.specs.Digests.{digest_of}
use Rattle.report.proofs.digests.log_digest.Given as goal

abbrev pub invariant-loop-entry : goal.invariant-loop-entry
invariant-loop-entry l = l.digest ≡ digest_of (take l.entry-index l.log)
