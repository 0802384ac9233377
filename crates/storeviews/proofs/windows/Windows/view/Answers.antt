use Rattle.std.proofs.Common.{◌≡◌, ◌∙◌, ◌-◌, ℕ, None, inr, ap, sym, subst, arith}
use Rattle.std.specs.Option.{ForSome}
use Rattle.store.specs.Applied.{found}
use Rattle.view.specs.Viewing.{seen_by}
use Rattle.storeviews.specs.declared.windows.Windows.{Windows}
use Rattle.storeviews.specs.Showing.{window_in, IsDown, IsLive, IsOf, IsShown}
use Rattle.storeviews.proofs.Bringing.{are_of_next, live_none, shown_by, told}
use Rattle.storeviews.proofs.windows.Windows.view.Goals as goal

pub returns-in-Ok-clause-shown : goal.returns-in-Ok-clause-shown
returns-in-Ok-clause-shown g c =
    let at = c.in_ok-at.at in
    let honest = g.K.LogReader.is_honest in
    let is : at ≡ c.args.member - 1 = omega (arith, c.in_ok-at.ensures.place.0) in
    let now = shown_by honest (found c.go_live.new.store.seats.items at (λ seat. seat.node)) (window_in c.go_live.new.self at) c.in-Ok.view c.in-Ok.ensures.seen c.in_ok-go_live.ensures.live in
    subst (λ (i : ℕ). IsShown honest (found c.go_live.new.store.seats.items i (λ seat. seat.node)) (seen_by c.in-Ok.view)) is now

pub returns-in-Ok-clause-of : goal.returns-in-Ok-clause-of
returns-in-Ok-clause-of g c each =
    let at = c.in_ok-at.at in
    let tables = c.args.store.now.schema in
    let before : (i : ℕ) → window_in c.next_mark.new.self i ≡ window_in c.args.self.now i = λ i. ap (λ (w : Windows). window_in w i) c.next_mark.ensures.same in
    are_of_next tables at (λ i. window_in c.args.self.now i) (λ i. window_in c.give.new.self i) each (λ of. c.give.ensures.of tables (c.go_live.ensures.of (subst (λ o. IsOf tables at o) (sym (before at)) of))) (λ i other. c.give.ensures.others i other ∙ c.go_live.ensures.others i other ∙ before i)

pub returns-in-Err-clause-of : goal.returns-in-Err-clause-of
returns-in-Err-clause-of g c each =
    let at = c.in_ok-at.at in
    let tables = c.args.store.now.schema in
    let before : (i : ℕ) → window_in c.next_mark.new.self i ≡ window_in c.args.self.now i = λ i. ap (λ (w : Windows). window_in w i) c.next_mark.ensures.same in
    are_of_next tables at (λ i. window_in c.args.self.now i) (λ i. window_in c.give.new.self i) each (λ of. c.give.ensures.of tables (c.go_live.ensures.of (subst (λ o. IsOf tables at o) (sym (before at)) of))) (λ i other. c.give.ensures.others i other ∙ c.go_live.ensures.others i other ∙ before i)

pub returns-in-Err-clause-down : goal.returns-in-Err-clause-down
returns-in-Err-clause-down g c says =
    let at = c.in_ok-at.at in
    let honest = g.K.LogReader.is_honest in
    let is : at ≡ c.args.member - 1 = omega (arith, c.in_ok-at.ensures.place.0) in
    let none : window_in c.go_live.new.self at ≡ None = c.in-Err.ensures.down (told says) in
    inr (inr (subst (λ (i : ℕ). ForSome (found c.go_live.new.store.seats.items i (λ seat. seat.node)) (λ n. IsDown honest n)) is
    (live_none honest (found c.go_live.new.store.seats.items at (λ seat. seat.node)) (subst (λ o. IsLive honest (found c.go_live.new.store.seats.items at (λ seat. seat.node)) o) none c.in_ok-go_live.ensures.live))))
