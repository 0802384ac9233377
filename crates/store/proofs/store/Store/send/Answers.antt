use Rattle.std.proofs.Common.{[], ◌∷◌, rules}
use Rattle.store.proofs.Continuing.{kept_is}
use Rattle.store.proofs.Going.{then_publishes}
use Rattle.store.proofs.store.Store.send.Goals as goal

pub returns-clause-passes : goal.returns-clause-passes
returns-clause-passes g c =
    then_publishes g.K.Journal.Device.contents g.K.LogReader.is_honest g.K.LogReader.may_hold g.K.Keeper.holds c.args.self.now c.if-matches.self c.post.new.self (c.args.message ∷ []) [] (search (rules, kept_is)) c.post.ensures.passes
