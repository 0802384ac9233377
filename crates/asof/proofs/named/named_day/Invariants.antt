use Rattle.std.proofs.Common.{◌≡◌, drop}
use Rattle.asof.specs.Named.{day_of}
use Rattle.asof.proofs.named.named_day.Given as goal

abbrev pub invariant-loop-term : goal.invariant-loop-term
invariant-loop-term l = day_of (drop l.term-index l.terms) ≡ day_of l.terms
