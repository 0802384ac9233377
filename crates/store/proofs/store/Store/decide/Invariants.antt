use Rattle.store.specs.Going.{GoesOn}
use Rattle.store.proofs.store.Store.decide.Given as goal

abbrev pub invariant-loop : goal.invariant-loop
invariant-loop g l = GoesOn g.K.Journal.Device.contents g.K.LogReader.is_honest g.K.LogReader.may_hold g.K.Keeper.holds l.initial.self l.self
