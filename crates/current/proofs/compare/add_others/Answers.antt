use Rattle.std.proofs.Common.{map, sym, ap, ◌∙◌, ◌++◌, ◌∷◌, [], flat_map}
use Rattle.std.proofs.lemmas.List.{append-nil}
use Rattle.current.specs.Rows.{row_of}
use Rattle.current.proofs.Lists.{if_absent, flat_step, without_is, pushed, absent-in, present-in, drop_none, same_one}
use Rattle.current.proofs.compare.add_others.Goals as goal
use Rattle.current.proofs.compare.add_others.Goals.{then-not-is_same+in_ok-clone+in_ok-push, else-not-is_same}

pub loop-row-init : goal.loop-row-init
loop-row-init c = ap (λ ys. map row_of c.args.more.now.items ++ ys) (without_is c.args.rows.now (c.args.other.now ∷ []))

pub loop-row-preserved : goal.loop-row-preserved
loop-row-preserved c =
    let rows = c.args.rows.now in
    let other = c.args.other.now in
    let row = c.row-item.result in
    let front = map row_of c.loop-row.more.items in
    elim c.if-not-is_same.branch [
      | then-not-is_same+in_ok-clone+in_ok-push w ↦
          let here = ap (λ left. map row_of left.items) w.more-is ∙ pushed row_of _ _ _ (row_of row) w.in_ok-push.ensures.items w.in_ok-clone.ensures.cases ∙ ap (λ new. front ++ new) (sym (absent-in (other ∷ []) row (same_one row other _ (sym c.is_same.ensures ∙ w.if-not-is_same.true)))) in
          flat_step (if_absent (other ∷ [])) rows c.loop-row.row-index row front _ _ c.loop-row-test.true c.row-item.is here c.loop-row.invariant
      | else-not-is_same w ↦
          let here = ap (λ left. map row_of left.items) w.more-is ∙ sym (append-nil front) ∙ ap (λ new. front ++ new) (sym (present-in (other ∷ []) row (same_one row other _ (sym c.is_same.ensures ∙ w.if-not-is_same.false)))) in
          flat_step (if_absent (other ∷ [])) rows c.loop-row.row-index row front _ _ c.loop-row-test.true c.row-item.is here c.loop-row.invariant
    ]

pub returns : goal.returns
returns c = sym (append-nil (map row_of c.loop-row.more.items)) ∙ ap (λ ys. map row_of c.loop-row.more.items ++ flat_map (if_absent (c.args.other.now ∷ [])) ys) (sym (drop_none c.args.rows.now c.loop-row.row-index c.loop-row-test.false)) ∙ c.loop-row.invariant
