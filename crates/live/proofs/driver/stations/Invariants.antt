use Rattle.std.proofs.Common.{◌≡◌, length}
use Rattle.std.specs.List.{All}
use Rattle.live.specs.Stations.{IsNew}
use Rattle.live.proofs.driver.stations.Given as goal

abbrev pub invariant-loop-at : goal.invariant-loop-at
invariant-loop-at l = record {
  count : length l.stations.items ≡ l.at;
  new : All IsNew l.stations.items;
}
