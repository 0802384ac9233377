use Rattle.std.proofs.Common.{inl, refl}
use Rattle.live.proofs.driver.Driver.ask.Goals as goal

pub returns-in-Ok : goal.returns-in-Ok
returns-in-Ok g c = inl (c.in-Ok.answer, refl)
