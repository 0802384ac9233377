use Rattle.std.proofs.Common.{rules, List, ◌∙◌, ◌++◌, length, ap, subst}
use Rattle.std.specs.List.Sorted.{IsPermutation, IsStableByKey}
use Rattle.std.specs.Ordering.{nat_cmp}
use Rattle.std.proofs.lemmas.Fn.{always_returns_same}
use Rattle.std.proofs.lemmas.List.Sorted.{IsNonDecreasingBy-from_sort_by_key}
use Rattle.moments.specs.declared.moment.Moment.{Moment}
use Rattle.moments.specs.Moments.{stray_moments}
use Rattle.moments.proofs.listing.timeline.Goals as goal

pub returns : goal.returns
returns c =
    let now = c.sort_by_key.new.self.items in
    let from = c.in_ok-list_strays.ensures ∙ ap (λ (ms : List Moment). ms ++ stray_moments (length c.args.lives.now) 0 c.args.answers.now) c.in_ok-moments.ensures in
    let P : List Moment → Type 0 = λ ms. IsPermutation ms now in
    let Q : List Moment → Type 0 = λ ms. IsStableByKey (λ m. m.mark) nat_cmp ms now in
    record {
      all = subst P from c.sort_by_key.ensures.permutation;
      rises = IsNonDecreasingBy-from_sort_by_key (λ m. m.mark) now c.in_ok-sort_by_key.ensures.sorted (λ a r f' k. search rules);
      stays = subst Q from (c.sort_by_key.ensures.stable (λ m. m.mark) (always_returns_same _ _ _ (λ a r f' k. search rules)));
    }
