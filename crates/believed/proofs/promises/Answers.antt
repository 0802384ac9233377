use Rattle.std.proofs.lemmas.List.{length-replicate}
use Rattle.model.specs.Worlds.{fresh, new_world}
use Rattle.std.specs.Prelude.{None}
use Rattle.believed.proofs.AgreeSame.{agree_now}
use Rattle.believed.proofs.ExplainedSame.{explained_now, submitted_so, ordered_so}
use Rattle.believed.proofs.Given.{given_explained}
use Rattle.believed.proofs.ServesSame.{serves_so}
use Rattle.believed.proofs.promises.Goals as goal

pub returns-clause-agree : goal.returns-clause-agree
returns-clause-agree c = λ language n events. agree_now language n (new_world n) events (c.agreement.ensures.new language n events)

pub returns-clause-explained : goal.returns-clause-explained
returns-clause-explained c = λ language n events. explained_now language n (new_world n) events (c.one_list_explains.ensures.new_run language n events)

pub returns-clause-invented : goal.returns-clause-invented
returns-clause-invented c = λ language n events. submitted_so language n (new_world n) events (c.nothing_invented.ensures.new_run language n events)

pub returns-clause-ordered : goal.returns-clause-ordered
returns-clause-ordered c = λ language n events. ordered_so language n (new_world n) events (c.agreement.ensures.new language n events) (c.in_real_order.ensures.new_run language n events)

pub returns-clause-serves : goal.returns-clause-serves
returns-clause-serves c = λ language n events. serves_so language n (new_world n) events (c.always_serves.ensures.new language n events)

pub returns-clause-given : goal.returns-clause-given
returns-clause-given c = λ language n events outs gives. given_explained language n events (new_world n) (length-replicate n (fresh 0 None)) outs gives (c.one_list_explains.ensures.new_run language n events)
