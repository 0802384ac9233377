use Rattle.std.proofs.Common.{◌++◌, map, take}
use Rattle.std.specs.Prelude.{codes}
use Rattle.std.specs.Fmt.{HasWritten, IsPlainFormatter}
use Rattle.std.specs.List.{flat_map}
use Rattle.transfer.specs.Fields.{literal_text}
use Rattle.transfer.proofs.written.write_values.Given as goal

abbrev pub invariant-loop-value : goal.invariant-loop-value
invariant-loop-value g l =
    IsPlainFormatter l.initial.f → HasWritten g.W.Write.write_str_gives l.initial.f (flat_map (λ q. codes ", " ++ q) (map literal_text (take l.value-index l.rest))) l.f
