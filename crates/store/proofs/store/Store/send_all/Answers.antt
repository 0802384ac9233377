use Rattle.std.proofs.Common.{[], ◌∷◌, ◌++◌}
use Rattle.store.proofs.Going.{publishes_both, publishes_none, spent_any}
use Rattle.store.proofs.store.Store.send_all.Goals as goal

pub loop-message-init : goal.loop-message-init
loop-message-init g c = publishes_none g.K.Journal.Device.contents g.K.LogReader.is_honest g.K.LogReader.may_hold g.K.Keeper.holds c.args.self.now

pub loop-message-preserved : goal.loop-message-preserved
loop-message-preserved g c =
    publishes_both g.K.Journal.Device.contents g.K.LogReader.is_honest g.K.LogReader.may_hold g.K.Keeper.holds c.args.self.now c.loop-message.self c.send.new.self c.loop-message.yielded (c.in-Some.message ∷ []) [] [] c.loop-message.invariant c.send.ensures.passes

pub returns-in_err-send-clause-passes : goal.returns-in_err-send-clause-passes
returns-in_err-send-clause-passes g c =
    let so_far = publishes_both g.K.Journal.Device.contents g.K.LogReader.is_honest g.K.LogReader.may_hold g.K.Keeper.holds c.args.self.now c.loop-message.self c.send.new.self c.loop-message.yielded (c.in-Some.message ∷ []) [] [] c.loop-message.invariant c.send.ensures.passes in
    spent_any g.K.Journal.Device.contents g.K.LogReader.is_honest g.K.LogReader.may_hold g.K.Keeper.holds c.args.self.now c.send.new.self (c.loop-message.yielded ++ c.in-Some.message ∷ []) c.args.messages.items [] so_far c.in_err-send.ensures.fails
