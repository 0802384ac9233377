use Rattle.std.proofs.Common.{sym, ap, subst}
use Rattle.sqlchecks.specs.Columns.{Tables}
use Rattle.store.specs.Applied.{found}
use Rattle.storeviews.specs.Showing.{window_in, IsOf}
use Rattle.storeviews.proofs.Bringing.{live_kept, of_later}
use Rattle.storeviews.proofs.windows.Windows.go_live.Goals as goal

pub returns-then-is_shown-clause-live : goal.returns-then-is_shown-clause-live
returns-then-is_shown-clause-live g c =
    live_kept g.K.LogReader.is_honest (found c.bring.new.store.seats.items c.args.at (λ seat. seat.node)) (window_in c.args.self.now c.args.at) (window_in c.bring.new.self c.args.at) c.if-is_shown.ensures c.in_ok-bring.ensures.brought

pub returns-then-is_shown-clause-of : goal.returns-then-is_shown-clause-of
returns-then-is_shown-clause-of g c of = of_later c.args.store.now.schema c.args.at (window_in c.args.self.now c.args.at) (window_in c.bring.new.self c.args.at) c.bring.ensures.later of

pub returns-in_err-bring-clause-of : goal.returns-in_err-bring-clause-of
returns-in_err-bring-clause-of g c of = of_later c.args.store.now.schema c.args.at (window_in c.args.self.now c.args.at) (window_in c.bring.new.self c.args.at) c.bring.ensures.later of

pub returns-clause-of : goal.returns-clause-of
returns-clause-of g c of =
    let at = c.args.at in
    let before = of_later c.args.store.now.schema at (window_in c.args.self.now at) (window_in c.bring.new.self at) c.bring.ensures.later of in
    let same = ap (λ store. store.schema) c.in_ok-bring.ensures.rest in
    subst (λ (tables : Tables). IsOf tables at (window_in c.begin.new.self at)) same (c.begin.ensures.of (subst (λ (tables : Tables). IsOf tables at (window_in c.bring.new.self at)) (sym same) before))
