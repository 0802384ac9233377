use Rattle.std.proofs.Common.{◌≡◌, ◌∙◌, List, [], ◌∷◌, ◌++◌, take, drop, ap, sym, subst, arith, rules}
use mathlib.Core.List.{IsPrefix}
use Rattle.history.specs.declared.front.Front.{Front}
use Rattle.history.specs.declared.item.Item.{Item}
use Rattle.view.proofs.Turns.{publishes_at, taken_before}
use Rattle.view.proofs.publisher.Publisher.showing.Goals as goal

pub publish_as-writer-requires : goal.publish_as-writer-requires
publish_as-writer-requires g c next is =
    let p = c.args.self in
    let f = c.again.result in
    let same : f ≡ p.history.front = c.again.ensures in
    let now = c.append.new.self.desk.shown.value in
    let pend : drop c.append.new.self.behind c.append.new.self.log.items ≡ drop p.writer.behind p.writer.log.items ++ f ∷ [] = search rules in
    let one : drop c.append.new.self.behind c.append.new.self.log.items ≡ f ∷ [] = pend ∙ ap (λ (fs : List Front). fs ++ f ∷ []) p.settled in
    let at : now.front.seen.log ≡ take p.shown p.items.items = search rules in
    let whose : now.front.seen.book ≡ p.history.front.seen.book = search rules in
    let up : IsPrefix (take p.shown p.items.items) (take p.history.front.count p.items.items) = taken_before p.shown p.history.front.count p.items.items (omega (arith, p.told.0, p.grown.1)) in
    let longer : IsPrefix now.front.seen.log p.history.front.seen.log = subst (λ (xs : List Item). IsPrefix xs p.history.front.seen.log) (sym at) (subst (λ (xs : List Item). IsPrefix (take p.shown p.items.items) xs) (sym p.grown.0) up) in
    publishes_at _ _ now next (drop c.append.new.self.behind c.append.new.self.log.items) f one
    (whose ∙ ap (λ (h : Front). h.seen.book) (sym same))
    (subst (λ (h : Front). IsPrefix now.front.seen.log h.seen.log) (sym same) longer)
    is
