use Rattle.model.specs.Worlds.{new_world, led_world}
use Rattle.safety.proofs.World.{new_outset, led_outset}
use Rattle.safety.proofs.Closing.{new_closing, led_closing, sealed_rises}
use Rattle.onelist.proofs.Order.{answers_go_forward, answers_have_what_was_told}
use Rattle.onelist.proofs.answers_go_forward.Goals as goal

pub returns-clause-new : goal.returns-clause-new
returns-clause-new c = λ language n. answers_go_forward language n (new_world n) (new_outset n) (sealed_rises language n (new_world n) (new_outset n) (new_closing n))

pub returns-clause-led : goal.returns-clause-led
returns-clause-led c = λ language n. answers_go_forward language n (led_world n) (led_outset n) (sealed_rises language n (led_world n) (led_outset n) (led_closing n))

pub returns-clause-new_told : goal.returns-clause-new_told
returns-clause-new_told c = λ language n. answers_have_what_was_told language n (new_world n) (new_outset n) (sealed_rises language n (new_world n) (new_outset n) (new_closing n))

pub returns-clause-led_told : goal.returns-clause-led_told
returns-clause-led_told c = λ language n. answers_have_what_was_told language n (led_world n) (led_outset n) (sealed_rises language n (led_world n) (led_outset n) (led_closing n))
