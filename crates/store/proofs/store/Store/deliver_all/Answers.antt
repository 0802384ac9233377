use Rattle.std.proofs.Common.{◌≡◌, arith, refl, rules}
use Rattle.std.proofs.lemmas.Grind.{common_steps}
use Rattle.store.proofs.Going.{goes_on, only_queue, popped, publishes_on, stays}
use Rattle.store.proofs.store.Store.deliver_all.Goals as goal

pub loop-init : goal.loop-init
loop-init g c = stays g.K.Journal.Device.contents g.K.LogReader.is_honest g.K.LogReader.may_hold g.K.Keeper.holds c.args.self.now

pub loop-preserved : goal.loop-preserved
loop-preserved g c =
    goes_on g.K.Journal.Device.contents g.K.LogReader.is_honest g.K.LogReader.may_hold g.K.Keeper.holds c.args.self.now c.loop.self c.deliver.new.self c.loop.invariant
    (popped g.K.Journal.Device.contents g.K.LogReader.is_honest g.K.LogReader.may_hold g.K.Keeper.holds c.loop.self _ c.deliver.new.self c.in-Some.letter refl (search rules) c.deliver.ensures.goes)

pub returns-in_err-deliver-clause-goes : goal.returns-in_err-deliver-clause-goes
returns-in_err-deliver-clause-goes g c =
    goes_on g.K.Journal.Device.contents g.K.LogReader.is_honest g.K.LogReader.may_hold g.K.Keeper.holds c.args.self.now c.loop.self c.deliver.new.self c.loop.invariant
    (popped g.K.Journal.Device.contents g.K.LogReader.is_honest g.K.LogReader.may_hold g.K.Keeper.holds c.loop.self _ c.deliver.new.self c.in-Some.letter refl (search rules) c.deliver.ensures.goes)

pub returns-in_default-clause-goes : goal.returns-in_default-clause-goes
returns-in_default-clause-goes g c =
    let last = record c.loop.self { queue = c.pop_front.new.self } in
    let same : c.pop_front.new.self.items ≡ c.loop.self.queue.items = first_of (search rules, grind (arith, common_steps)) in
    goes_on g.K.Journal.Device.contents g.K.LogReader.is_honest g.K.LogReader.may_hold g.K.Keeper.holds c.args.self.now c.loop.self last c.loop.invariant (publishes_on g.K.Journal.Device.contents g.K.LogReader.is_honest g.K.LogReader.may_hold g.K.Keeper.holds c.loop.self last (only_queue g.K.Journal.Device.contents g.K.LogReader.is_honest g.K.LogReader.may_hold g.K.Keeper.holds c.loop.self last refl same))
