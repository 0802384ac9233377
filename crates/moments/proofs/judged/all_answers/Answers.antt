use Rattle.std.proofs.Common.{◌≡◌, ◌<◌, ◌+◌, ◌++◌, ◌∙◌, map, take, length, ap, sym, rules}
use Rattle.moments.specs.Judged.{judged_of, judged_from}
use Rattle.moments.proofs.Collecting.{judged_more}
use Rattle.moments.proofs.judged.all_answers.Goals as goal

pub loop-at-preserved : goal.loop-at-preserved
loop-at-preserved c =
    let xs = c.args.answers.now in
    let i = c.loop-at.at in
    let own = c.index-answers-at.result in
    let less : i < length xs = search rules in
    let step : judged_from 1 (take (i + 1) xs) ≡ judged_from 1 (take i xs) ++ map (judged_of (i + 1)) own.items = judged_more xs i own less c.index-answers-at.is in
    let added : c.add_answers.new.judged.items ≡ c.loop-at.judged.items ++ map (judged_of (i + 1)) own.items = rw c.as_slice.ensures.value at c.in_ok-add_answers.ensures in
    added ∙ (ap (λ ys. ys ++ map (judged_of (i + 1)) own.items) c.loop-at.invariant ∙ sym step)
