use Rattle.std.proofs.Common.{[], ◌∷◌}
use Rattle.store.proofs.Going.{publishes_both, publishes_none}
use Rattle.store.proofs.store.Store.hear_all.Goals as goal

pub loop-one-init : goal.loop-one-init
loop-one-init g c = publishes_none g.K.Journal.Device.contents g.K.LogReader.is_honest g.K.LogReader.may_hold g.K.Keeper.holds c.args.self.now

pub loop-one-preserved : goal.loop-one-preserved
loop-one-preserved g c =
    publishes_both g.K.Journal.Device.contents g.K.LogReader.is_honest g.K.LogReader.may_hold g.K.Keeper.holds c.args.self.now c.loop-one.self c.hear.new.self [] [] c.loop-one.yielded (c.in-Some.one ∷ []) c.loop-one.invariant c.hear.ensures
