use Rattle.std.proofs.Common.{rules}
use Rattle.keep.proofs.memory.MemKeeperKeeper.save.Goals as goal

pub returns-then-is_err-clause-ok : goal.returns-then-is_err-clause-ok
returns-then-is_err-clause-ok c = search rules

pub returns-then-is_err-clause-err : goal.returns-then-is_err-clause-err
returns-then-is_err-clause-err c = search rules

pub returns-then-is_err-clause-answered : goal.returns-then-is_err-clause-answered
returns-then-is_err-clause-answered c = search rules

pub returns-then-is_err-clause-counted : goal.returns-then-is_err-clause-counted
returns-then-is_err-clause-counted c = search rules

pub returns-clause-ok : goal.returns-clause-ok
returns-clause-ok c = search rules
