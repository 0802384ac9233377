use Rattle.std.proofs.Common.{◌≡◌, ◌<◌, false}
use Rattle.transfer.specs.Imports.{IsFar}
use Rattle.transfer.proofs.import.store_all.Given as goal

abbrev pub invariant-loop-request : goal.invariant-loop-request
invariant-loop-request g l = IsFar g.T.Takes.takes l.initial.store l.requests l.came l.store × (l.came.requests ≡ l.request-index) × (l.came.is_whole ≡ false) × (0 < l.request-index → l.came.requests ≡ l.task.all → g.T.Takes.is_settled l.store)
