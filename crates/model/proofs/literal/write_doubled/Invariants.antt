use Rattle.std.proofs.Common.{◌≡◌, ℕ, List, ◌++◌, length}
use Rattle.std.specs.Fmt.{HasWritten, IsPlainFormatter}
use Rattle.model.specs.Texts.{doubled}
use denote.Text.{Utf8}
use denote.Shadow.{shadow}
use Rattle.model.proofs.literal.write_doubled.Given as goal

-- what is written so far, and what the rest of the text becomes, make the whole
abbrev pub invariant-loop-before : goal.invariant-loop-before
invariant-loop-before g l =
    shadow (Utf8 l.rest)
    × (IsPlainFormatter l.fn.f → (written : List ℕ) × HasWritten g.W.Write.write_str_gives l.fn.f written l.f × (written ++ doubled l.rest ≡ doubled l.text))

abbrev pub decreases-loop-before : goal.decreases-loop-before
decreases-loop-before g l = length l.rest
