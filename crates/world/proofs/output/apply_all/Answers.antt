use Rattle.std.proofs.Common.{rules}
use Rattle.world.proofs.output.apply_all.Goals as goal

pub returns-in_err-push : goal.returns-in_err-push
returns-in_err-push c = search rules
