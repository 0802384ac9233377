use Rattle.std.proofs.Common.{take, ◌++◌}
use Rattle.std.specs.List.{flat_map}
use Rattle.rowtext.proofs.parts.put_more.Given as goal

abbrev pub invariant-loop-part : goal.invariant-loop-part
invariant-loop-part g l =
    g.S.Sink.takes l.initial.sink (flat_map (λ p. l.separator ++ g.P.Part.text l.table p) (take l.part-index l.parts)) l.sink
