use Rattle.std.proofs.Common.{◌≡◌, drop}
use Rattle.std.specs.Prelude.{map}
use Rattle.flight.specs.Contents.{in_life}
use Rattle.flight.specs.Ranges.{one_at_a_time, ends_go_on}
use Rattle.flight.proofs.lives.are_one_at_a_time.Given as goal

abbrev pub invariant-loop-life : goal.invariant-loop-life
invariant-loop-life l = one_at_a_time (map in_life l.lives) ≡ ends_go_on l.is_before_up (map in_life (drop l.life-index l.later))
