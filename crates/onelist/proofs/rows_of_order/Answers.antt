use Rattle.std.proofs.Common.{refl, arith}
use Rattle.model.specs.Steps.{hears, on_append, on_reply_yes, append_own}
use Rattle.onelist.proofs.rows_of_order.Goals as goal

pub returns-clause-clock_falls : goal.returns-clause-clock_falls
unfolding hears on_append on_reply_yes append_own
returns-clause-clock_falls c = (record { event = _; rest = _; next = refl; out = _; gives = refl; member = 1; tells = (2, omega arith, refl) }, refl)

pub returns-clause-torn_submit : goal.returns-clause-torn_submit
unfolding hears on_append on_reply_yes append_own
returns-clause-torn_submit c = (refl, refl)

pub returns-clause-restart_falls_back : goal.returns-clause-restart_falls_back
unfolding hears on_append on_reply_yes append_own
returns-clause-restart_falls_back c = (refl, refl)
