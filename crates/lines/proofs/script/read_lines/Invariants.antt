use Rattle.std.proofs.Common.{◌+◌, ◌≤◌, length}
use Rattle.lines.proofs.Scripts.{SaidTo}
use Rattle.lines.proofs.script.read_lines.Given as goal

-- the lines that were taken off say those read so far
abbrev pub invariant-loop-rest : goal.invariant-loop-rest
invariant-loop-rest l =
    (l.rest.number + length l.rest.text.now ≤ l.fn.rest.number + length l.fn.rest.text.now)
    × SaidTo l.fn.rest.number l.members l.fn.rest.text.now l.rest.number l.rest.text.now l.lines.items

abbrev pub decreases-loop-rest : goal.decreases-loop-rest
decreases-loop-rest l = length l.rest.text.now
