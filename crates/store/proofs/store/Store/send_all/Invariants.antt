use Rattle.std.proofs.Common.{[]}
use Rattle.store.specs.Going.{Publishes}
use Rattle.store.proofs.store.Store.send_all.Given as goal

abbrev pub invariant-loop-message : goal.invariant-loop-message
invariant-loop-message g l = Publishes g.K.Journal.Device.contents l.initial.self l.self l.yielded []
