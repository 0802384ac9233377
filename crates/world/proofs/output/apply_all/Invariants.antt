use Rattle.std.proofs.Common.{◌≡◌, ◌++◌, map}
use Rattle.model.specs.Worlds.Output.{Applied}
use Rattle.world.specs.View.{outputs_of}
use Rattle.world.proofs.output.apply_all.Given as goal

abbrev pub invariant-loop-one : goal.invariant-loop-one
invariant-loop-one l = outputs_of l.outs.items ≡ outputs_of l.initial.outs.items ++ map (Applied l.member) l.yielded
