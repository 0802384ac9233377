use Rattle.std.proofs.Common.{◌≡◌, ℕ, List, ◌++◌}
use Rattle.std.specs.Io.KnownBytes.{Appends}
use Rattle.answertext.proofs.sink.write_whole.Given as goal

-- what is written so far, and the rest, make the text
abbrev pub invariant-loop : goal.invariant-loop
invariant-loop g l = (written : List ℕ) × (written ++ l.rest ≡ l.text) × Appends (g.W.Write.contents l.initial.writer) (g.W.Write.contents l.writer) written
