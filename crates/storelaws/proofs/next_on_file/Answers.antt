use Rattle.std.proofs.Common.{◌∙◌}
use Rattle.node.proofs.Starting.{stored_is}
use Rattle.storelaws.proofs.Sessions.{next_filed}
use Rattle.storelaws.proofs.next_on_file.Goals as goal

pub returns : goal.returns
returns g c = λ sessions scribe came on after left are. next_filed g.K.LogReader.may_hold g.K.Keeper.holds
    (λ node up d may. g.met.K.LogReader.only_stored node.keeper d may ∙ stored_is node.core (g.K.LogReader.stored node.keeper) (node.synced up (g.met.K.LogReader.only_honest node.keeper d may)))
    g.K.Journal.Device.contents scribe sessions c.args.store.now came on after left are
