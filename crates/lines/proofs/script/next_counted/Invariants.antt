use Rattle.std.proofs.Common.{◌+◌, ◌≤◌, length}
use Rattle.lines.proofs.Scripts.{SkipsTo}
use Rattle.lines.proofs.script.next_counted.Given as goal

abbrev pub invariant-loop-line : goal.invariant-loop-line
invariant-loop-line l =
    (l.rest.number + length l.rest.text.now ≤ l.fn.rest.number + length l.fn.rest.text.now)
    × SkipsTo l.fn.rest.number l.fn.rest.text.now l.rest.number l.rest.text.now

abbrev pub decreases-loop-line : goal.decreases-loop-line
decreases-loop-line l = length l.rest.text.now
