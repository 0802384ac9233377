use Rattle.std.proofs.Common.{◌≡◌}
use Rattle.std.specs.Prelude.{fold}
use Rattle.current.specs.ByKey.{strands_of}
use Rattle.current.specs.Plans.{with_planned}
use Rattle.current.proofs.plan.replace_strands.Given as goal

abbrev pub invariant-loop-planned : goal.invariant-loop-planned
invariant-loop-planned l = strands_of l.strands ≡ fold with_planned (strands_of l.fn.strands) l.yielded
