use Rattle.std.proofs.Common.{◌≡◌, ◌∙◌, List, [], ◌∷◌, ◌++◌, take, sym, ap, subst, arith}
use Rattle.std.specs.Arc.{arc_value}
use Rattle.history.specs.declared.item.Item.{Item}
use Rattle.history.specs.Items.{closed_in, Rises}
use Rattle.view.specs.Lists.{ArePlaced, IsGrown}
use Rattle.view.proofs.Appending.{appended_rises, appended_closed, first_more, grown_more, placed_stay}
use Rattle.view.proofs.publisher.Publisher.append.Goals as goal

pub invariant_of-self-clause-placed : goal.invariant_of-self-clause-placed
invariant_of-self-clause-placed c =
    let old = c.args.self.now in
    subst (λ (xs : List Item). ArePlaced (arc_value old.list) xs old.places.items) (sym c.reserve.ensures.items) old.placed

pub invariant_of-self-clause-grown : goal.invariant_of-self-clause-grown
invariant_of-self-clause-grown c =
    let old = c.args.self.now in
    subst (λ (xs : List Item). IsGrown old.places.len xs old.history.front.count old.history.front.seen.log) (sym c.reserve.ensures.items) old.grown

pub invariant_of-self-clause-closing : goal.invariant_of-self-clause-closing
invariant_of-self-clause-closing c = c.args.self.now.closing ∙ ap (λ (xs : List Item). closed_in xs) (sym c.reserve.ensures.items)

pub invariant_of-self-clause-rising : goal.invariant_of-self-clause-rising
invariant_of-self-clause-rising c = subst Rises (sym c.reserve.ensures.items) c.args.self.now.rising

pub invariant_of-self-clause-told : goal.invariant_of-self-clause-told
invariant_of-self-clause-told c =
    let old = c.args.self.now in
    (old.told.0, old.told.1 ∙ ap (λ (xs : List Item). take old.shown xs) (sym c.reserve.ensures.items), old.told.2)

pub invariant_of-self-2-clause-closing : goal.invariant_of-self-2-clause-closing
invariant_of-self-2-clause-closing c =
    let old = c.args.self.now in
    let longer : c.push_reserved.new.self.items ≡ old.items.items ++ c.args.item ∷ [] = c.push_reserved.ensures.items ∙ ap (λ (xs : List Item). xs ++ c.args.item ∷ []) c.reserve.ensures.items in
    appended_closed old.shown old.items.items _ c.args.item old.closed _ old.rising c.requires.follows longer old.closing c.closed_after-self.ensures

pub invariant_of-self-2-clause-rising : goal.invariant_of-self-2-clause-rising
invariant_of-self-2-clause-rising c =
    let old = c.args.self.now in
    let longer : c.push_reserved.new.self.items ≡ old.items.items ++ c.args.item ∷ [] = c.push_reserved.ensures.items ∙ ap (λ (xs : List Item). xs ++ c.args.item ∷ []) c.reserve.ensures.items in
    appended_rises old.shown old.items.items _ c.args.item old.rising c.requires.follows longer

pub invariant_of-self-2-clause-grown : goal.invariant_of-self-2-clause-grown
invariant_of-self-2-clause-grown c =
    let old = c.args.self.now in
    let longer : c.push_reserved.new.self.items ≡ old.items.items ++ c.args.item ∷ [] = c.push_reserved.ensures.items ∙ ap (λ (xs : List Item). xs ++ c.args.item ∷ []) c.reserve.ensures.items in
    grown_more old.places.len old.items.items _ (c.args.item ∷ []) old.history.front.count old.history.front.seen.log old.grown longer

pub invariant_of-self-2-clause-placed : goal.invariant_of-self-2-clause-placed
invariant_of-self-2-clause-placed c =
    let old = c.args.self.now in
    let longer : c.push_reserved.new.self.items ≡ old.items.items ++ c.args.item ∷ [] = c.push_reserved.ensures.items ∙ ap (λ (xs : List Item). xs ++ c.args.item ∷ []) c.reserve.ensures.items in
    placed_stay (arc_value old.list) old.items.items _ (c.args.item ∷ []) old.places.items old.placed longer

pub invariant_of-self-2-clause-told : goal.invariant_of-self-2-clause-told
invariant_of-self-2-clause-told c =
    let old = c.args.self.now in
    let longer : c.push_reserved.new.self.items ≡ old.items.items ++ c.args.item ∷ [] = c.push_reserved.ensures.items ∙ ap (λ (xs : List Item). xs ++ c.args.item ∷ []) c.reserve.ensures.items in
    (old.told.0, first_more old.shown old.items.items _ (c.args.item ∷ []) old.writer.desk.shown.value.front.seen.log (omega (arith, old.told.0, old.grown.1, old.grown.3)) old.told.1 longer, old.told.2)
