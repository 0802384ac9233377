use Rattle.std.proofs.Common.{[]}
use Rattle.store.specs.Going.{Publishes}
use Rattle.store.proofs.store.Store.hear_all.Given as goal

abbrev pub invariant-loop-one : goal.invariant-loop-one
invariant-loop-one g l = Publishes g.K.Journal.Device.contents l.initial.self l.self [] l.yielded
