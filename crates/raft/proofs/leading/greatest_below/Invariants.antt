use Rattle.std.proofs.Common.{◌≡◌, max, drop}
use Rattle.raft.specs.Below.{greatest_below}
use Rattle.raft.proofs.leading.greatest_below.Given as goal

abbrev pub invariant-loop-number : goal.invariant-loop-number
invariant-loop-number l = greatest_below l.bound l.numbers ≡ max l.most (greatest_below l.bound (drop l.number-index l.numbers))
