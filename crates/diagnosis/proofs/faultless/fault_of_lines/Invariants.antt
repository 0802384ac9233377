use Rattle.std.proofs.Common.{◌≡◌, length}
use Rattle.std.specs.List.{list_all}
use Rattle.diagnosis.specs.Faultless.{reads}
use Rattle.diagnosis.proofs.faultless.fault_of_lines.Given as goal

abbrev pub invariant-loop-lines : goal.invariant-loop-lines
invariant-loop-lines l = list_all (reads l.schema) l.fn.lines ≡ list_all (reads l.schema) l.lines

abbrev pub decreases-loop-lines : goal.decreases-loop-lines
decreases-loop-lines l = length l.lines
