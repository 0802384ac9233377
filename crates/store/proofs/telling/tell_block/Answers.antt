use Rattle.store.proofs.Heard.{heard_more}
use Rattle.store.proofs.telling.tell_block.Goals as goal

pub loop-line-preserved : goal.loop-line-preserved
loop-line-preserved g c = heard_more g.H.Hears.hears c.args.hearer.now c.loop-line.hearer c.hear.new.self c.loop-line.yielded c.in-Some.line c.loop-line.invariant c.in_ok-hear.ensures
