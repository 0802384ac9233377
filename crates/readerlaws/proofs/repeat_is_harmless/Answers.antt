use Rattle.readerlaws.proofs.Logs.{repeat_is_harmless, only_the_next_counts}
use Rattle.readerlaws.proofs.repeat_is_harmless.Goals as goal

pub returns-clause-repeat : goal.returns-clause-repeat
returns-clause-repeat c = repeat_is_harmless

pub returns-clause-others : goal.returns-clause-others
returns-clause-others c = only_the_next_counts
