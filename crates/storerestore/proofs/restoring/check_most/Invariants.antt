use Rattle.std.proofs.Common.{take}
use Rattle.std.specs.List.{All}
use Rattle.storerestore.specs.Looking.{IsNoOther}
use Rattle.storerestore.proofs.restoring.check_most.Given as goal

abbrev pub invariant-loop-looked : goal.invariant-loop-looked
invariant-loop-looked l = All IsNoOther (take l.looked-index l.all)
