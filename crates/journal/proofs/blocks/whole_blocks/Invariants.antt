use Rattle.std.proofs.Common.{length}
use Rattle.std.specs.Str.{IsUtf8}
use Rattle.journal.proofs.Frames.{WholeSoFar}
use Rattle.journal.proofs.blocks.whole_blocks.Given as goal

abbrev pub invariant-loop-block : goal.invariant-loop-block
invariant-loop-block l = record { utf8 : IsUtf8 l.rest; whole : WholeSoFar l.before l.text l.sum l.rest }

abbrev pub decreases-loop-block : goal.decreases-loop-block
decreases-loop-block l = length l.rest
