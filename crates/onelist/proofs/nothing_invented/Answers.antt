use Rattle.model.specs.Worlds.{new_world, led_world}
use Rattle.onelist.proofs.Brought.{new_empty, led_empty, nothing_invented, no_log_invented, nothing_sent_invented, each_was_made, none_made_two}
use Rattle.onelist.proofs.Explained.{were_submitted}
use Rattle.onelist.proofs.nothing_invented.Goals as goal

pub returns-clause-new : goal.returns-clause-new
returns-clause-new c = λ language n. nothing_invented language n (new_world n) (new_empty n)

pub returns-clause-new_logs : goal.returns-clause-new_logs
returns-clause-new_logs c = λ language n. no_log_invented language n (new_world n) (new_empty n)

pub returns-clause-new_sent : goal.returns-clause-new_sent
returns-clause-new_sent c = λ language n. nothing_sent_invented language n (new_world n) (new_empty n)

pub returns-clause-led : goal.returns-clause-led
returns-clause-led c = λ language n. nothing_invented language n (led_world n) (led_empty n)

pub returns-clause-led_logs : goal.returns-clause-led_logs
returns-clause-led_logs c = λ language n. no_log_invented language n (led_world n) (led_empty n)

pub returns-clause-led_sent : goal.returns-clause-led_sent
returns-clause-led_sent c = λ language n. nothing_sent_invented language n (led_world n) (led_empty n)

pub returns-clause-new_entries : goal.returns-clause-new_entries
returns-clause-new_entries c = λ language n. each_was_made language n (new_world n) (new_empty n)

pub returns-clause-new_apart : goal.returns-clause-new_apart
returns-clause-new_apart c = λ language n. none_made_two language n (new_world n) (new_empty n)

pub returns-clause-led_entries : goal.returns-clause-led_entries
returns-clause-led_entries c = λ language n. each_was_made language n (led_world n) (led_empty n)

pub returns-clause-led_apart : goal.returns-clause-led_apart
returns-clause-led_apart c = λ language n. none_made_two language n (led_world n) (led_empty n)

pub returns-clause-new_run : goal.returns-clause-new_run
returns-clause-new_run c = λ language n. were_submitted language n (new_world n) (new_empty n)

pub returns-clause-led_run : goal.returns-clause-led_run
returns-clause-led_run c = λ language n. were_submitted language n (led_world n) (led_empty n)
