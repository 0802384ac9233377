use Rattle.std.proofs.Common.{◌≡◌, drop}
use Rattle.csv.specs.Records.{fields_of}
use Rattle.transfer.specs.Faults.{found_in}
use Rattle.transfer.specs.Rows.{target_value}
use Rattle.transfer.proofs.Found.{found_after}
use Rattle.transfer.proofs.rows.target_values.Given as goal

-- the values so far, and those of the targets that are left, make the whole
abbrev pub invariant-loop-target : goal.invariant-loop-target
invariant-loop-target l =
    found_in (target_value l.number l.line (fields_of l.fields)) l.targets ≡ found_after (target_value l.number l.line (fields_of l.fields)) l.values.items (drop l.target-index l.targets)
