use Rattle.storefolder.proofs.Follows.{Follow}
use Rattle.storefolder.proofs.numbers.follow.Given as goal

abbrev pub invariant-loop-number : goal.invariant-loop-number
invariant-loop-number l = Follow l.numbers l.number-index l.journals.first l.journals.last
