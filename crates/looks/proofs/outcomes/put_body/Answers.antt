use Rattle.looks.proofs.outcomes.put_body.Goals as goal

pub returns-in-Append : goal.returns-in-Append
returns-in-Append c = rw c.in-Append.is c.put_append.ensures

pub returns-in-Stored : goal.returns-in-Stored
returns-in-Stored c = rw c.in-Stored.is c.put_floor-in-Stored.ensures
