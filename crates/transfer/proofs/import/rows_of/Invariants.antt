use Rattle.std.proofs.Common.{◌≡◌, take}
use Rattle.transfer.specs.Imports.{rows_in}
use Rattle.transfer.proofs.import.rows_of.Given as goal

abbrev pub invariant-loop-request : goal.invariant-loop-request
invariant-loop-request l = l.rows ≡ rows_in (take l.request-index l.requests)
