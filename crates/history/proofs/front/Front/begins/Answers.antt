use Rattle.std.proofs.Common.{◌≤◌, ap, subst, arith, length, List}
use mathlib.Core.List.{IsPrefix}
use Rattle.history.specs.declared.item.Item.{Item}
use Rattle.history.proofs.Fronts.{prefix_shorter}
use Rattle.history.proofs.front.Front.begins.Goals as goal

pub returns-then-self-other : goal.returns-then-self-other
returns-then-self-other c =
    let both = c.learn.new.self.log in
    let mine = c.args.self.now.seen.log in
    let theirs = c.args.other.now.seen.log in
    let this : IsPrefix mine both = subst (λ (l : List Item). IsPrefix l both) (ap (λ s. s.log) c.again-both.ensures) c.learn.ensures.2 in
    let less : length mine ≤ length theirs = omega (arith, c.args.self.now.counted, c.args.other.now.counted) in
    prefix_shorter mine theirs both this c.learn.ensures.3 less

pub returns : goal.returns
returns c =
    let both = c.learn.new.self.log in
    let mine = c.args.self.now.seen.log in
    let theirs = c.args.other.now.seen.log in
    let this : IsPrefix mine both = subst (λ (l : List Item). IsPrefix l both) (ap (λ s. s.log) c.again-both.ensures) c.learn.ensures.2 in
    let less : length theirs ≤ length mine = omega (arith, c.args.self.now.counted, c.args.other.now.counted) in
    (omega arith, prefix_shorter theirs mine both c.learn.ensures.3 this less)
