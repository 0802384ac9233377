use Rattle.store.specs.Pasts.{told_by}
use Rattle.store.proofs.Opening.{runs}
use Rattle.storefolder.proofs.opening.go_on.Goals as goal

pub returns : goal.returns
returns g c = runs g.K.LogReader.is_honest g.K.LogReader.may_hold g.K.Keeper.holds g.K.Journal.Device.contents (told_by c.args.before.now.past) c.args.images.items c.in_ok-members.members _ c.in_ok-store.store c.in_ok-members.ensures.opened c.in_ok-store.ensures.begins
