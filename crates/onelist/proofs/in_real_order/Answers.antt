use Rattle.model.specs.Worlds.{new_world, led_world}
use Rattle.safety.proofs.World.{new_outset, led_outset}
use Rattle.onelist.proofs.Brought.{new_empty, led_empty}
use Rattle.onelist.proofs.Order.{in_real_order, logged_in_order, accepted_in_order, stamped_after_answers}
use Rattle.onelist.proofs.Explained.{is_decided_in_order}
use Rattle.safety.proofs.Closing.{new_closing, led_closing, sealed_rises}
use Rattle.onelist.proofs.in_real_order.Goals as goal

pub returns-clause-new : goal.returns-clause-new
returns-clause-new c = λ language n. in_real_order language n (new_world n) (new_outset n) (new_empty n)

pub returns-clause-new_answers : goal.returns-clause-new_answers
returns-clause-new_answers c = λ language n. stamped_after_answers language n (new_world n) (new_outset n) (new_empty n)

pub returns-clause-led : goal.returns-clause-led
returns-clause-led c = λ language n. in_real_order language n (led_world n) (led_outset n) (led_empty n)

pub returns-clause-led_answers : goal.returns-clause-led_answers
returns-clause-led_answers c = λ language n. stamped_after_answers language n (led_world n) (led_outset n) (led_empty n)

pub returns-clause-new_accepted : goal.returns-clause-new_accepted
returns-clause-new_accepted c = λ language n. accepted_in_order language n (new_world n) (new_outset n) (new_empty n)

pub returns-clause-led_accepted : goal.returns-clause-led_accepted
returns-clause-led_accepted c = λ language n. accepted_in_order language n (led_world n) (led_outset n) (led_empty n)

pub returns-clause-new_logged : goal.returns-clause-new_logged
returns-clause-new_logged c = λ language n. logged_in_order language n (new_world n) (new_outset n) (new_empty n)

pub returns-clause-led_logged : goal.returns-clause-led_logged
returns-clause-led_logged c = λ language n. logged_in_order language n (led_world n) (led_outset n) (led_empty n)

pub returns-clause-new_run : goal.returns-clause-new_run
returns-clause-new_run c = λ language n. is_decided_in_order language n (new_world n) (new_outset n) (new_empty n) (sealed_rises language n (new_world n) (new_outset n) (new_closing n))

pub returns-clause-led_run : goal.returns-clause-led_run
returns-clause-led_run c = λ language n. is_decided_in_order language n (led_world n) (led_outset n) (led_empty n) (sealed_rises language n (led_world n) (led_outset n) (led_closing n))
