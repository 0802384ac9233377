use Rattle.std.proofs.Common.{length}
use Rattle.std.specs.Str.{IsUtf8}
use Rattle.beginnings.proofs.Listed.{PartsTaken}
use Rattle.beginnings.proofs.line.read_parts.Given as goal

abbrev pub invariant-loop-rest : goal.invariant-loop-rest
invariant-loop-rest l = record { utf8 : IsUtf8 l.rest; taken : PartsTaken l.text l.seen.items l.rest }

abbrev pub decreases-loop-rest : goal.decreases-loop-rest
decreases-loop-rest l = length l.rest
