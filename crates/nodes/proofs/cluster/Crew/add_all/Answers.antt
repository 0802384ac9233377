use Rattle.std.proofs.Common.{arith}
use Rattle.sqlread.specs.Meaning.{language_of}
use Rattle.nodes.proofs.Carried.{all_left}
use Rattle.nodes.proofs.cluster.Crew.add_all.Goals as goal

pub loop-image-preserved : goal.loop-image-preserved
loop-image-preserved g c =
    let P : g.row.K-Image.Denot → Type 0 = λ image. g.K.Keeper.suits image c.len-members.result (language_of c.args.schema.now) in
    let steps = c.in-Some.ensures.steps in
    let before = c.loop-image.invariant in
    (all_left P c.in-Some.image _ _ steps.0 before.0, omega (arith, steps.1, before.1), before.2)
