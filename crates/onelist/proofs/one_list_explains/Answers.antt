use Rattle.model.specs.Worlds.{new_world, led_world}
use Rattle.safety.proofs.World.{new_outset, led_outset}
use Rattle.onelist.proofs.Brought.{new_empty, led_empty}
use Rattle.onelist.proofs.Explained.{one_list_explains, is_explained}
use Rattle.safety.proofs.Closing.{new_closing, led_closing, sealed_rises}
use Rattle.onelist.proofs.one_list_explains.Goals as goal

pub returns-clause-new : goal.returns-clause-new
returns-clause-new c = λ language n. one_list_explains language n (new_world n) (new_outset n) (new_empty n) (sealed_rises language n (new_world n) (new_outset n) (new_closing n))

pub returns-clause-led : goal.returns-clause-led
returns-clause-led c = λ language n. one_list_explains language n (led_world n) (led_outset n) (led_empty n) (sealed_rises language n (led_world n) (led_outset n) (led_closing n))

pub returns-clause-new_run : goal.returns-clause-new_run
returns-clause-new_run c = λ language n. is_explained language n (new_world n) (new_outset n) (new_empty n) (sealed_rises language n (new_world n) (new_outset n) (new_closing n))

pub returns-clause-led_run : goal.returns-clause-led_run
returns-clause-led_run c = λ language n. is_explained language n (led_world n) (led_outset n) (led_empty n) (sealed_rises language n (led_world n) (led_outset n) (led_closing n))
