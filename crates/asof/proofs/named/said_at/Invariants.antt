use Rattle.std.proofs.Common.{◌≡◌, drop}
use Rattle.asof.specs.Named.{said_at}
use Rattle.asof.proofs.named.said_at.Given as goal

abbrev pub invariant-loop-term : goal.invariant-loop-term
invariant-loop-term l = said_at l.place (drop l.term-index l.terms) ≡ said_at l.place l.terms
