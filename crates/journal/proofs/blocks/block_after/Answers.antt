use Rattle.std.proofs.Common.{◌≡◌, length, sym, ap, ◌∙◌, rules, arith}
use Rattle.flight.specs.Ranges.{IsNumber}
use Rattle.journal.specs.Blocks.{sum_after}
use Rattle.journal.proofs.Frames.{sum_small}
use Rattle.journal.proofs.blocks.block_after.Goals as goal

pub returns-in_default-clause-every : goal.returns-in_default-clause-every
returns-in_default-clause-every c = λ body rest is e.
    let small : IsNumber c.args.before = search rules in
    c.in_default.ensures.every (sum_after c.args.before body) body rest (sum_small c.args.before body small) is.0 is.2 e

pub returns-then-is_empty-clause-every : goal.returns-then-is_empty-clause-every
returns-then-is_empty-clause-every c = λ body rest is e.
    let small : IsNumber c.args.before = search rules in
    let s = c.in-Some.ensures.every (sum_after c.args.before body) body rest (sum_small c.args.before body small) is.0 is.2 e in
    let long : length c.in-Some.block.body.now ≡ length body = ap length s.1 in
    let none : length c.in-Some.block.body.now ≡ 0 = search rules in
    absurd (omega (arith, long, none, is.1))

pub returns-then-sum_after-block-clause-every : goal.returns-then-sum_after-block-clause-every
returns-then-sum_after-block-clause-every c = λ body rest is e.
    let small : IsNumber c.args.before = search rules in
    let s = c.in-Some.ensures.every (sum_after c.args.before body) body rest (sum_small c.args.before body small) is.0 is.2 e in
    let sum : sum_after c.args.before c.in-Some.block.body.now ≡ c.in-Some.block.sum = ap (sum_after c.args.before) s.1 ∙ sym s.0 in
    search (rules, sum)

pub returns-clause-every : goal.returns-clause-every
returns-clause-every c = λ body rest is e.
    let small : IsNumber c.args.before = search rules in
    let s = c.in-Some.ensures.every (sum_after c.args.before body) body rest (sum_small c.args.before body small) is.0 is.2 e in
    (s.1, s.2)
