use Rattle.node.proofs.Recalled.{past_none}
use Rattle.node.proofs.recall.Notes.of.Goals as goal

pub returns : goal.returns
returns c = λ schema before recall are. c.all.ensures schema before (past_none schema _ _ before c.new-in-None.ensures.entries c.new-in-None.ensures.told are)
