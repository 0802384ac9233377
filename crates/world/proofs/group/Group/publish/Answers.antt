use Rattle.std.proofs.Common.{rules}
use Rattle.world.proofs.group.Group.publish.Goals as goal

pub returns-in_err-outs-clause-gives : goal.returns-in_err-outs-clause-gives
returns-in_err-outs-clause-gives c = search rules

pub returns-in_err-outs-clause-sent : goal.returns-in_err-outs-clause-sent
returns-in_err-outs-clause-sent c = search rules

pub returns-in_err-outs-clause-same : goal.returns-in_err-outs-clause-same
returns-in_err-outs-clause-same c = search rules

pub returns-in_err-apply_all-clause-gives : goal.returns-in_err-apply_all-clause-gives
returns-in_err-apply_all-clause-gives c = search rules

pub returns-in_err-apply_all-clause-sent : goal.returns-in_err-apply_all-clause-sent
returns-in_err-apply_all-clause-sent c = search rules

pub returns-in_err-apply_all-clause-same : goal.returns-in_err-apply_all-clause-same
returns-in_err-apply_all-clause-same c = search rules

pub returns-in_err-append-clause-gives : goal.returns-in_err-append-clause-gives
returns-in_err-append-clause-gives c = search rules

pub returns-in_err-append-clause-sent : goal.returns-in_err-append-clause-sent
returns-in_err-append-clause-sent c = search rules

pub returns-in_err-append-clause-same : goal.returns-in_err-append-clause-same
returns-in_err-append-clause-same c = search rules

pub returns-clause-gives : goal.returns-clause-gives
returns-clause-gives c = search rules

pub returns-clause-sent : goal.returns-clause-sent
returns-clause-sent c = search rules

pub returns-clause-same : goal.returns-clause-same
returns-clause-same c = search rules
