use Rattle.std.proofs.Common.{refl, rules}
use Rattle.store.specs.Going.{Anywhere}
use Rattle.store.proofs.Going.{goes_so, outcome_taken, stays}
use Rattle.store.proofs.store.Store.take_outcome.Goals as goal

pub returns-in-Some-Ok : goal.returns-in-Some-Ok
returns-in-Some-Ok g c = goes_so g.K.Journal.Device.contents g.K.LogReader.is_honest g.K.LogReader.may_hold g.K.Keeper.holds Anywhere _ c.args.self.now _ (λ gave. search rules) (outcome_taken g.K.Journal.Device.contents g.K.LogReader.is_honest g.K.LogReader.may_hold g.K.Keeper.holds c.args.self.now _ c.in-Some.watched _ c.in-Some.is refl refl refl (search rules))

pub returns-in-Some-Err : goal.returns-in-Some-Err
returns-in-Some-Err g c = goes_so g.K.Journal.Device.contents g.K.LogReader.is_honest g.K.LogReader.may_hold g.K.Keeper.holds Anywhere _ c.args.self.now _ (λ gave. search rules) (outcome_taken g.K.Journal.Device.contents g.K.LogReader.is_honest g.K.LogReader.may_hold g.K.Keeper.holds c.args.self.now _ c.in-Some.watched _ c.in-Some.is refl refl refl (search rules))

pub returns-in-None-take : goal.returns-in-None-take
returns-in-None-take g c = goes_so g.K.Journal.Device.contents g.K.LogReader.is_honest g.K.LogReader.may_hold g.K.Keeper.holds Anywhere _ c.args.self.now _ (λ gave. tt) (outcome_taken g.K.Journal.Device.contents g.K.LogReader.is_honest g.K.LogReader.may_hold g.K.Keeper.holds c.args.self.now _ c.in-Some.watched _ c.in-Some.is refl refl refl (search rules))

pub returns-in-None : goal.returns-in-None
returns-in-None g c = goes_so g.K.Journal.Device.contents g.K.LogReader.is_honest g.K.LogReader.may_hold g.K.Keeper.holds Anywhere _ c.args.self.now c.args.self.now (λ gave. tt) (stays g.K.Journal.Device.contents g.K.LogReader.is_honest g.K.LogReader.may_hold g.K.Keeper.holds c.args.self.now)
