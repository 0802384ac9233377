use Rattle.std.proofs.Common.{◌++◌, map, take}
use Rattle.std.specs.Prelude.{codes}
use Rattle.std.specs.Fmt.{HasWritten, IsPlainFormatter}
use Rattle.std.specs.List.{flat_map}
use Rattle.transfer.proofs.written.write_names.Given as goal

abbrev pub invariant-loop-target : goal.invariant-loop-target
invariant-loop-target g l =
    IsPlainFormatter l.initial.f → HasWritten g.W.Write.write_str_gives l.initial.f (flat_map (λ q. codes ", " ++ q) (map (λ t. t.name) (take l.target-index l.rest))) l.f
