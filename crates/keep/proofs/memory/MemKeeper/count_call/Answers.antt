use Rattle.std.proofs.Common.{rules}
use Rattle.keep.proofs.memory.MemKeeper.count_call.Goals as goal

pub returns-then-not-self-clause-image : goal.returns-then-not-self-clause-image
returns-then-not-self-clause-image c = search rules

pub returns-then-not-self-clause-counted : goal.returns-then-not-self-clause-counted
returns-then-not-self-clause-counted c = search rules

pub returns-then-not-self-clause-ok : goal.returns-then-not-self-clause-ok
returns-then-not-self-clause-ok c = search rules

pub returns-then-not-self-clause-err : goal.returns-then-not-self-clause-err
returns-then-not-self-clause-err c = search rules

pub returns-then-not-self-clause-down : goal.returns-then-not-self-clause-down
returns-then-not-self-clause-down c = search rules

pub returns-then-not-self-clause-named : goal.returns-then-not-self-clause-named
returns-then-not-self-clause-named c = search rules

pub returns-then-self-eq1-clause-image : goal.returns-then-self-eq1-clause-image
returns-then-self-eq1-clause-image c = search rules

pub returns-then-self-eq1-clause-counted : goal.returns-then-self-eq1-clause-counted
returns-then-self-eq1-clause-counted c = search rules

pub returns-then-self-eq1-clause-ok : goal.returns-then-self-eq1-clause-ok
returns-then-self-eq1-clause-ok c = search rules

pub returns-then-self-eq1-clause-err : goal.returns-then-self-eq1-clause-err
returns-then-self-eq1-clause-err c = search rules

pub returns-then-self-eq1-clause-down : goal.returns-then-self-eq1-clause-down
returns-then-self-eq1-clause-down c = search rules

pub returns-then-self-eq1-clause-named : goal.returns-then-self-eq1-clause-named
returns-then-self-eq1-clause-named c = search rules

pub returns-then-self-gt1-clause-ok : goal.returns-then-self-gt1-clause-ok
returns-then-self-gt1-clause-ok c = search rules

pub returns-then-self-gt1-clause-down : goal.returns-then-self-gt1-clause-down
returns-then-self-gt1-clause-down c = search rules

pub returns-else-self-gt1-clause-counted : goal.returns-else-self-gt1-clause-counted
returns-else-self-gt1-clause-counted c = search rules

pub returns-else-self-gt1-clause-ok : goal.returns-else-self-gt1-clause-ok
returns-else-self-gt1-clause-ok c = search rules

pub returns-else-self-gt1-clause-down : goal.returns-else-self-gt1-clause-down
returns-else-self-gt1-clause-down c = search rules
