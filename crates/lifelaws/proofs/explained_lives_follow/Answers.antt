use Rattle.lifelaws.proofs.Living.{lives_follow}
use Rattle.lifelaws.proofs.explained_lives_follow.Goals as goal

pub returns : goal.returns
returns c = lives_follow
