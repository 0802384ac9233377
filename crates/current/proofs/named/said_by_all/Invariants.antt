use Rattle.std.proofs.Common.{◌≡◌, drop}
use Rattle.current.specs.Named.{said_at}
use Rattle.current.proofs.named.said_by_all.Given as goal

abbrev pub invariant-loop-condition : goal.invariant-loop-condition
invariant-loop-condition l = said_at l.place (drop l.condition-index l.conditions) ≡ said_at l.place l.conditions
