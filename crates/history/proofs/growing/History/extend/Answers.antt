use Rattle.std.proofs.Common.{◌≡◌, ◌++◌, ◌∷◌, [], length, sym, ◌∙◌, ap, subst, rules, Option, None, ℕ, List}
use Rattle.std.proofs.lemmas.List.Sums.{fold-append}
use Rattle.history.specs.declared.item.Item.{Item}
use Rattle.history.specs.Items.{Rises, greater_mark, greatest_mark}
use Rattle.history.proofs.Rising.{rises_more}
use Rattle.history.proofs.Adding.{adds_moves}
use Rattle.history.proofs.growing.History.extend.Goals as goal

pub compare_exchange-found-requires : goal.compare_exchange-found-requires
compare_exchange-found-requires c =
    let h = c.args.self.now.head_is in
    let offer = c.plain-offer.ensures in
    let pen = c.no_pen-pen.ensures in
    let same = c.again-seen.ensures in
    let front = c.args.self.now.front in
    let len : length c.again-seen.result.log ≡ front.count = ap (λ s. length s.log) same ∙ sym front.counted in (
      ap (λ w. w.tracked) h,
      ap (λ s. s.book) same ∙ sym (ap (λ w. w.book) h),
      pen.0 ∙ (ap (λ s. s.book) same ∙ sym (ap (λ w. w.book) h)),
      offer.0,
      rw (ap (λ w. w.key) h, pen.1, offer.1, offer.3) (adds_moves c.again-seen.result.log c.args.item.now front.count len),
    )

pub invariant_of-drop-clause-rising : goal.invariant_of-drop-clause-rising
invariant_of-drop-clause-rising c =
    let log = c.args.self.now.front.seen.log in
    let more : c.compare_exchange-found.new.seen.log ≡ log ++ c.args.item.now ∷ [] = search rules in
    subst Rises (sym more) (rises_more log c.args.item.now c.args.self.now.front.rising c.requires.follows)

pub invariant_of-drop-clause-marked : goal.invariant_of-drop-clause-marked
invariant_of-drop-clause-marked c =
    let log = c.args.self.now.front.seen.log in
    let item = c.args.item.now in
    let more : c.compare_exchange-found.new.seen.log ≡ log ++ item ∷ [] = search rules in
    c.greater_mark.ensures
    ∙ ap (λ (m : Option ℕ). greater_mark m item) c.args.self.now.front.marked
    ∙ sym (fold-append greater_mark None log (item ∷ []))
    ∙ ap (λ (l : List Item). greatest_mark l) (sym more)
