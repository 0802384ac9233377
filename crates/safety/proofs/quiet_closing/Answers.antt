use Rattle.model.specs.Worlds.{new_world, led_world}
use Rattle.safety.proofs.World.{new_outset, led_outset}
use Rattle.safety.proofs.Closing.{new_closing, led_closing, floors_in_time, waiting_unapplied, sealed_rises}
use Rattle.safety.proofs.quiet_closing.Goals as goal

pub returns-clause-new_floors : goal.returns-clause-new_floors
returns-clause-new_floors c = λ language n. floors_in_time language n (new_world n) (new_outset n) (new_closing n)

pub returns-clause-new_waits : goal.returns-clause-new_waits
returns-clause-new_waits c = λ language n. waiting_unapplied language n (new_world n) (new_outset n) (new_closing n)

pub returns-clause-new_sealed : goal.returns-clause-new_sealed
returns-clause-new_sealed c = λ language n. sealed_rises language n (new_world n) (new_outset n) (new_closing n)

pub returns-clause-led_floors : goal.returns-clause-led_floors
returns-clause-led_floors c = λ language n. floors_in_time language n (led_world n) (led_outset n) (led_closing n)

pub returns-clause-led_waits : goal.returns-clause-led_waits
returns-clause-led_waits c = λ language n. waiting_unapplied language n (led_world n) (led_outset n) (led_closing n)

pub returns-clause-led_sealed : goal.returns-clause-led_sealed
returns-clause-led_sealed c = λ language n. sealed_rises language n (led_world n) (led_outset n) (led_closing n)
