use Rattle.std.proofs.Common.{◌≡◌, drop, [], length}
use Rattle.csv.specs.Records.{fields_of}
use Rattle.transfer.specs.Header.{targets_after}
use Rattle.transfer.proofs.header.targets.Given as goal

-- the targets so far, and those of the fields that are left, make the whole
abbrev pub invariant-loop-place : goal.invariant-loop-place
invariant-loop-place l =
    (l.place-end ≡ length (fields_of l.names))
    × (targets_after l.table l.line [] 0 (fields_of l.names) ≡ targets_after l.table l.line l.targets.items l.place (drop l.place (fields_of l.names)))
