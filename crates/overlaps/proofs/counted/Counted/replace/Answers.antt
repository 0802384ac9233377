use Rattle.std.proofs.Common.{◌≡◌, ◌+◌, Ok, ap, ◌∙◌}
use Rattle.std.specs.List.{splice}
use Rattle.std.proofs.lemmas.Iterator.Adapters.{YieldsList-from_vec, fact_from_collect}
use Rattle.overlaps.proofs.counted.Counted.replace.Goals as goal

pub returns-clause-ok : goal.returns-clause-ok
returns-clause-ok g c =
    let e = c.in_ok-splice.ensures.items in
    let items : c.splice.new.self.items ≡ splice c.args.self.now c.args.place (c.args.place + c.args.many) e.1 = e.4 ∙ ap (λ xs. splice xs c.args.place (c.args.place + c.args.many) e.1) c.self.view_is in
    fact_from_collect {E = Unit {0}} (λ xs (v : Unit {0}). c.splice.new.self.items ≡ splice c.args.self.now c.args.place (c.args.place + c.args.many) xs) (Ok tt) (e.1, (e.3.1.0, e.3.1.1, (λ always. (e.3.0, e.3.1.2))), items) (YieldsList-from_vec c.args.items.items e.2.0 (e.2.1 ∙ c.args.items.ok.0))
