use Rattle.std.proofs.Common.{◌≡◌, Option, Some, sym, ap, subst, ◌∙◌, rules}
use Rattle.store.specs.Applied.{found}
use Rattle.view.specs.declared.told.Name.{Name}
use Rattle.storeviews.specs.declared.window.Window.{Window}
use Rattle.storeviews.specs.Showing.{window_in, IsOf}
use Rattle.storeviews.proofs.Bringing.{live_put, of_later}
use Rattle.storeviews.proofs.windows.Windows.begin.Goals as goal

pub returns-clause-live : goal.returns-clause-live
returns-clause-live g c =
    live_put g.K.LogReader.is_honest (found c.bring-window.new.store.seats.items c.args.at (λ seat. seat.node)) c.in_ok-window.window c.bring-window.result.0 (window_in c.put.new.self c.args.at) c.bring-window.result.1 c.in_ok-window.ensures.none.0 c.put.ensures.put c.bring-window.ensures.brought

pub returns-clause-of : goal.returns-clause-of
returns-clause-of g c of =
    let w = c.in_ok-window.window in
    let tables : c.in_ok-schema.schema ≡ c.args.store.now.schema = search rules in
    let life = c.in_ok-window.ensures.life in
    let now = of_later c.args.store.now.schema c.args.at (Some w) c.bring-window.result.0 c.bring-window.ensures.later (life.1 ∙ tables, ap (λ (name : Name). name.node) life.0) in
    subst (λ (o : Option Window). IsOf c.args.store.now.schema c.args.at o) (sym c.put.ensures.put) now
