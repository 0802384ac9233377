use Rattle.std.proofs.Common.{length}
use Rattle.apply.proofs.executing.+transact.Given as goal

abbrev pub decreases-transact : goal.decreases-transact
decreases-transact l = length l.statements.now
