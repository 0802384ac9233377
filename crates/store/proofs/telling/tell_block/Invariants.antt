use Rattle.store.specs.Telling.{AreHeard}
use Rattle.store.proofs.telling.tell_block.Given as goal

abbrev pub invariant-loop-line : goal.invariant-loop-line
invariant-loop-line g l = AreHeard g.H.Hears.hears l.initial.hearer l.yielded l.hearer
