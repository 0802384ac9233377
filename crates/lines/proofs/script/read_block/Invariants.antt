use Rattle.std.proofs.Common.{◌+◌, ◌≤◌, length, string_bytes}
use Rattle.lines.proofs.Scripts.{BlockTo}
use Rattle.lines.proofs.script.read_block.Given as goal

abbrev pub invariant-loop-block : goal.invariant-loop-block
invariant-loop-block l =
    (l.rest.number + length l.rest.text.now ≤ l.fn.rest.number + length l.fn.rest.text.now)
    × BlockTo l.fn.rest.number l.fn.rest.text.now (string_bytes l.block) l.rest.number l.rest.text.now

abbrev pub decreases-loop-block : goal.decreases-loop-block
decreases-loop-block l = length l.rest.text.now
