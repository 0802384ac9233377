use Rattle.std.proofs.Common.{◌≡◌, ◌∙◌, ℕ, ◌<◌, Some, List, length, slice_get, sym, ap, subst, arith, rules}
use Rattle.std.specs.Arc.{arc_value}
use Rattle.boxcar.specs.Table.{Shelves, Where, Shows}
use Rattle.view.specs.declared.published.Shown.{Shown}
use Rattle.view.specs.Lists.{ArePlaced}
use Rattle.view.proofs.Placing.{read_there, placed_more}
use Rattle.view.proofs.publisher.Publisher.place_one.Goals as goal

pub remember-requires : goal.remember-requires
remember-requires g c =
    let old = c.args.self.now in
    let at : c.len-at.result ≡ c.reserve.new.self.len = c.len-at.ensures ∙ sym c.reserve.ensures.len in
    let within : c.len-at.result < length old.items.items = first_of (search rules, omega (arith, c.requires, c.len-at.ensures)) in
    ap (λ (k : ℕ). slice_get old.items.items k) (sym at) ∙ read_there old.items.items c.len-at.result c.index.result.now c.in_ok-item.item within c.index.ensures c.in_ok-item.ensures.cases

pub invariant_of-self-clause-placed : goal.invariant_of-self-clause-placed
invariant_of-self-clause-placed g c =
    let old = c.args.self.now in
    subst (λ (places : List (Where Shown)). ArePlaced (arc_value old.list) old.items.items places) (sym {A = List (Where Shown)} c.reserve.ensures.items) old.placed

pub invariant_of-self-in-Ok-clause-placed : goal.invariant_of-self-in-Ok-clause-placed
invariant_of-self-in-Ok-clause-placed g c =
    let old = c.args.self.now in
    let now = c.remember.new.self in
    let within : c.len-at.result < length old.items.items = first_of (search rules, omega (arith, c.requires, c.len-at.ensures)) in
    let read : slice_get old.items.items c.len-at.result ≡ Some c.in_ok-item.item = read_there old.items.items c.len-at.result c.index.result.now c.in_ok-item.item within c.index.ensures c.in_ok-item.ensures.cases in
    let here : slice_get now.items.items c.len-at.result ≡ Some c.in_ok-item.item = ap (λ (v : _). slice_get v.items c.len-at.result) c.remember.ensures.same.2 ∙ read in
    let shows : Shows (arc_value now.list) c.in-Ok.place = subst (λ (p : Shelves). Shows p c.in-Ok.place) c.deref.ensures c.in-Ok.ensures.ok.2 in
    let end : c.len-at.result ≡ length now.places.items = search rules in
    placed_more (arc_value now.list) now.items.items now.places.items c.push_reserved.new.self.items c.in-Ok.place _ c.len-at.result now.placed shows c.in-Ok.ensures.ok.0 c.in-Ok.ensures.ok.1 end here c.push_reserved.ensures.items
