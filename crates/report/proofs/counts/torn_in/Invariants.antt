use Rattle.std.proofs.Common.{◌≡◌, take}
use Rattle.std.specs.List.{sum_by}
use Rattle.flight.specs.declared.life.Life.{Life}
use Rattle.report.specs.Counts.{torn_of}
use Rattle.report.proofs.counts.torn_in.Given as goal

abbrev pub invariant-loop-life : goal.invariant-loop-life
invariant-loop-life l = l.count ≡ sum_by (λ (life : Life). torn_of life.ending) (take l.life-index l.lives)
