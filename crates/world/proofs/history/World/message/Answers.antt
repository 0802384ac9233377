use Rattle.std.proofs.Common.{◌≡◌, List, Some, None, ap, subst}
use Rattle.std.specs.Prelude.{MatchOption}
use Rattle.model.specs.Lists.{nth}
use Rattle.model.specs.Worlds.{World}
use Rattle.model.specs.declared.message.Message.{Message}
use Rattle.world.proofs.history.World.message.Goals as goal

pub returns : goal.returns
returns c = λ live.
    let sent = ap (λ (w : World). w.sent) (c.args.self.now.whole live).world in
    let P : List Message → Type 0 = λ ms. MatchOption c.sent_as.result (nth ms c.args.number ≡ None) (λ m. nth ms c.args.number ≡ Some m.now) in
    subst P sent c.sent_as.ensures
