-- What an inbox does not take.
use Rattle.network.specs.declared.inboxes.Unsent.{Unsent}
use Rattle.network.specs.declared.inboxes.Unsent.TheVariants.{Closed, NoMemory}

-- the thing that was not put in
abbrev pub thing_in : {T : Type 0} → Unsent T → T
thing_in (Closed thing) = thing
thing_in (NoMemory thing) = thing
