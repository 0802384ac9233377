use Rattle.std.proofs.Common.{◌≡◌, drop}
use Rattle.moments.specs.Rising.{lives_rise}
use Rattle.moments.proofs.order.first_fallen.Given as goal

abbrev pub invariant-loop-life : goal.invariant-loop-life
invariant-loop-life l = lives_rise 0 l.lives ≡ lives_rise l.last (drop l.life-index l.lives)
