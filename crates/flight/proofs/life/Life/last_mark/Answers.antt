use Rattle.std.proofs.Common.{sym}
use Rattle.flight.proofs.Marks.{last_torn, last_some, last_none, last_whole, no_torn_step}
use Rattle.flight.proofs.life.Life.last_mark.Goals as goal

pub returns-in-Torn : goal.returns-in-Torn
returns-in-Torn c = rw c.in-Torn.is (sym (last_torn _ _ _))

pub returns-in-Some : goal.returns-in-Some
returns-in-Some c =
    let last = rw c.deref.ensures.value at (sym c.in-Some.ensures.value) in
    sym (last_whole _ _ _ _ (no_torn_step _ c.in-Up.is) (last_some _ _ _ last))

pub returns-in-None : goal.returns-in-None
returns-in-None c =
    let last = rw c.deref.ensures.value at (sym c.in-None.ensures.value) in
    sym (last_whole _ _ _ _ (no_torn_step _ c.in-Up.is) (last_none _ _ last))
