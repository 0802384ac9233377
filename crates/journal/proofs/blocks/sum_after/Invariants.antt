use Rattle.std.proofs.Common.{◌≡◌, take}
use Rattle.journal.specs.Blocks.{sum_after}
use Rattle.journal.proofs.blocks.sum_after.Given as goal

abbrev pub invariant-loop-byte : goal.invariant-loop-byte
invariant-loop-byte l = l.sum ≡ sum_after l.before (take l.byte-index l.bytes)
