use Rattle.std.proofs.Common.{◌∙◌, ℕ, ◌+◌, List, [], ◌∷◌, ◌++◌, Option, ap, length, length-append, refl, subst, sym}
use Rattle.storefolder.specs.Hearing.{AreTold}
use Rattle.storefolder.proofs.Hearing.{summed, told_more}
use Rattle.storefolder.proofs.journals.tell_each.Goals as goal

pub loop-before-init : goal.loop-before-init
loop-before-init g c = (_, [], (refl, refl), refl)

pub loop-before-preserved : goal.loop-before-preserved
loop-before-preserved g c =
    let hears = g.H.Hears.hears in
    let so_far = c.loop-before.invariant in
    let text : List ℕ = c.text_in.result.now in
    let texts : List (List ℕ) = so_far.1 ++ text ∷ [] in
    let end = c.in_ok-end.end in
    let more = told_more hears so_far.0 so_far.1 c.args.hearer.now c.loop-before.hearer c.tell_one.new.hearer c.loop-before.sum text end so_far.2 c.in_ok-end.ensures in
    let last = c.or-sum.ensures ∙ summed end c.loop-before.sum c.in_ok-sum_at_end.field-0 c.in_ok-sum_at_end.ensures.sum in (
      so_far.0,
      texts,
      subst (λ (sum : Option ℕ). AreTold hears so_far.0 texts c.args.hearer.now c.tell_one.new.hearer sum) (sym last) more,
      length-append so_far.1 (text ∷ []) ∙ ap (λ (n : ℕ). n + 1) so_far.3,
    )
