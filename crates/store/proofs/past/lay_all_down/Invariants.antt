use Rattle.std.proofs.Common.{◌≡◌, ◌++◌, take, drop}
use Rattle.std.specs.Prelude.{map}
use Rattle.store.specs.Tales.{laid_down}
use Rattle.store.proofs.past.lay_all_down.Given as goal

abbrev pub invariant-loop-tale : goal.invariant-loop-tale
invariant-loop-tale l = l.tales ≡ map laid_down (take l.tale-index l.initial.tales) ++ drop l.tale-index l.initial.tales
