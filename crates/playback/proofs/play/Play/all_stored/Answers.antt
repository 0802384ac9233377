use Rattle.std.proofs.Common.{ℕ, Option, subst}
use Rattle.playback.specs.Histories.{HasState, History, history_of}
use Rattle.world.specs.View.{StoredState}
use Rattle.playback.proofs.Logs.{has_stored}
use Rattle.playback.proofs.play.Play.all_stored.Goals as goal

pub returns-clause-has : goal.returns-clause-has
returns-clause-has c =
    let m : ℕ = c.args.member in
    let now : History = history_of c.args.self.now.group in
    let entries = c.in_ok-first_entries.field-0.items in
    has_stored now m c.in-Some.state entries
    (subst (λ (o : Option StoredState). HasState now m o) c.in-Some.is c.in_ok-state.ensures.found)
    c.in_ok-first_entries.ensures.count
    c.in_ok-first_entries.ensures.first
