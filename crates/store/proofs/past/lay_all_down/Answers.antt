use Rattle.std.proofs.Common.{arith}
use Rattle.std.proofs.lemmas.Grind.{common_steps}
use Rattle.std.proofs.lemmas.List.Edits.{map_over_more}
use Rattle.store.specs.Tales.{laid_down}
use Rattle.store.proofs.past.lay_all_down.Goals as goal

pub loop-tale-preserved : goal.loop-tale-preserved
loop-tale-preserved c = grind (arith, common_steps, map_over_more laid_down)
