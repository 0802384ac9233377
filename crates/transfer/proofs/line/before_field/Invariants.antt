use Rattle.std.proofs.Common.{◌≡◌, ◌+◌, drop, false}
use Rattle.transfer.specs.Lines.{before_field}
use Rattle.transfer.proofs.line.before_field.Given as goal

-- the bytes so far, and those of the rest before the field, make the whole
abbrev pub invariant-loop-at : goal.invariant-loop-at
invariant-loop-at l = before_field false l.place l.line ≡ l.at + before_field l.quoted l.left (drop l.at l.line)
