use Rattle.std.proofs.Common.{◌∙◌}
use Rattle.node.proofs.Starting.{stored_is}
use Rattle.storelaws.proofs.Sessions.{next}
use Rattle.storelaws.proofs.next_session.Goals as goal

pub returns : goal.returns
returns g c = λ sessions came after left are. next g.K.LogReader.may_hold g.K.Keeper.holds
    (λ node up d may. g.met.K.LogReader.only_stored node.keeper d may ∙ stored_is node.core (g.K.LogReader.stored node.keeper) (node.synced up (g.met.K.LogReader.only_honest node.keeper d may)))
    sessions c.args.store.now came after left are
