use Rattle.store.specs.Going.{GoesOn}
use Rattle.store.proofs.store.Store.elect_any.Given as goal

abbrev pub invariant-loop-at : goal.invariant-loop-at
invariant-loop-at g l = GoesOn g.K.Journal.Device.contents g.K.LogReader.is_honest g.K.LogReader.may_hold g.K.Keeper.holds l.initial.self l.self
