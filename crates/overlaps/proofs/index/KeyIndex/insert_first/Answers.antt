use Rattle.std.proofs.Common.{◌∙◌, ◌++◌, ◌∷◌, [], Some, ap, sym}
use Rattle.overlaps.specs.Index.{with_item}
use Rattle.overlaps.proofs.Changed.{items-changed}
use Rattle.overlaps.proofs.index.KeyIndex.insert_first.Goals as goal

pub returns-clause-ok : goal.returns-clause-ok
returns-clause-ok g c =
    let m = c.args.self.now.strands in
    let n = c.insert.new.self in
    let w = Some c.push.new.self in
    let change = with_item g.T.HasPeriod.period c.args.item in
    items-changed m n c.args.key w change c.in_ok-insert.ensures.updates (c.in_ok-push.ensures.ok ∙ ap (λ strand. strand ++ c.args.item ∷ []) c.new-strand.ensures ∙ sym (ap change c.requires))
