use Rattle.std.proofs.Common.{rules}
use Rattle.keep.proofs.memory.MemKeeperKeeper.state.Goals as goal

pub returns-in_err-count_call-clause-ok : goal.returns-in_err-count_call-clause-ok
returns-in_err-count_call-clause-ok c = search rules

pub returns-in_err-count_call-clause-same : goal.returns-in_err-count_call-clause-same
returns-in_err-count_call-clause-same c = search rules

pub returns-in_err-count_call-clause-answered : goal.returns-in_err-count_call-clause-answered
returns-in_err-count_call-clause-answered c = search rules

pub returns-in_err-count_call-clause-counted : goal.returns-in_err-count_call-clause-counted
returns-in_err-count_call-clause-counted c = search rules

pub returns-in_err-count_call-clause-asked : goal.returns-in_err-count_call-clause-asked
returns-in_err-count_call-clause-asked c = search rules

pub returns-in_default-clause-ok : goal.returns-in_default-clause-ok
returns-in_default-clause-ok c = search rules

pub returns-in_default-clause-same : goal.returns-in_default-clause-same
returns-in_default-clause-same c = search rules

pub returns-in_default-clause-answered : goal.returns-in_default-clause-answered
returns-in_default-clause-answered c = search rules

pub returns-in_default-clause-counted : goal.returns-in_default-clause-counted
returns-in_default-clause-counted c = search rules

pub returns-in_default-clause-asked : goal.returns-in_default-clause-asked
returns-in_default-clause-asked c = search rules

pub returns-clause-same : goal.returns-clause-same
returns-clause-same c = search rules

pub returns-clause-answered : goal.returns-clause-answered
returns-clause-answered c = search rules

pub returns-clause-counted : goal.returns-clause-counted
returns-clause-counted c = search rules

pub returns-clause-asked : goal.returns-clause-asked
returns-clause-asked c = search rules
