use Rattle.looks.proofs.outcomes.put_answered.Goals as goal

pub returns-in-None : goal.returns-in-None
returns-in-None c = rw c.in-None.is c.put_truth.ensures
