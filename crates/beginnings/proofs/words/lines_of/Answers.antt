use Rattle.std.proofs.Common.{◌<◌, ◌∙◌, ◌++◌, ◌+◌, length, arith, sym, ap, get_or}
use Rattle.beginnings.specs.Words.{node_line}
use Rattle.beginnings.specs.declared.beginning.Found.TheVariants.{Begins}
use Rattle.beginnings.proofs.Telling.{lines_more}
use Rattle.beginnings.proofs.words.lines_of.Goals as goal

pub loop-place-preserved : goal.loop-place-preserved
loop-place-preserved c =
    let within : c.loop-place.place < length c.args.found.now = omega arith in
    c.in_ok-put_node.ensures ∙ (ap (λ l. l ++ node_line (c.loop-place.place + 1) (get_or c.args.found.now c.loop-place.place Begins)) c.loop-place.invariant ∙ sym (lines_more c.args.found.now c.loop-place.place Begins within))
