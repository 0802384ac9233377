use Rattle.std.proofs.Common.{inl, inr, refl}
use Rattle.storerestore.proofs.looking.look_into.Goals as goal

pub returns-in-Ok : goal.returns-in-Ok
returns-in-Ok g c = inr (c.in-Ok.found.image, c.in-Ok.found.summary, c.in-Ok.found.log, c.in-Ok.ensures, refl, c.fits.ensures)

pub returns-in-Err : goal.returns-in-Err
returns-in-Err g c = inl c.unreadable.ensures
