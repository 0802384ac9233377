use Rattle.std.proofs.Common.{rules}
use Rattle.model.proofs.request.Client.new.Goals as goal

pub returns-then-number-eq0-clause-some : goal.returns-then-number-eq0-clause-some
returns-then-number-eq0-clause-some c = search rules

pub returns-then-number-eq0-clause-none : goal.returns-then-number-eq0-clause-none
returns-then-number-eq0-clause-none c = search rules

pub returns-clause-some : goal.returns-clause-some
returns-clause-some c = search rules
