use Rattle.store.proofs.Helds.{none_at_all, none_more}
use Rattle.store.proofs.beginnings.beginning_of.Goals as goal

pub loop-other-preserved : goal.loop-other-preserved
loop-other-preserved c = none_more c.args.held.now c.args.stored.now c.loop-other.other c.loop-other.invariant (c.beginning_at-in-loop-other.ensures.none c.in_default-beginning_at.is)

pub returns-clause-none : goal.returns-clause-none
returns-clause-none c = λ none. none_at_all c.args.held.now c.args.stored.now c.loop-other.other c.loop-other-test.false c.loop-other.invariant
