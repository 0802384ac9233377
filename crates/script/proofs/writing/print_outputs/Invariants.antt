use Rattle.std.proofs.Common.{take}
use Rattle.std.specs.List.{flat_map}
use Rattle.std.specs.Io.KnownBytes.{Appends}
use Rattle.script.specs.Printing.{output_text}
use Rattle.script.proofs.writing.print_outputs.Given as goal

abbrev pub invariant-loop-output : goal.invariant-loop-output
invariant-loop-output g l = Appends (g.P.Printer.printed l.initial.printer) (g.P.Printer.printed l.printer) (flat_map output_text (take l.output-index l.outputs))
