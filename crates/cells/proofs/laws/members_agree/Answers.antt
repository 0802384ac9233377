use Rattle.model.specs.Worlds.{new_world, led_world}
use Rattle.cells.proofs.Runs.{members_agree}
use Rattle.cells.proofs.laws.members_agree.Goals as goal

pub returns : goal.returns
returns c = record {
  new = λ schema n. members_agree schema n (new_world n) (c.agreement.ensures.new schema n) c.lives_agree.ensures.same c.lives_agree.ensures.earlier;
  led = λ schema n. members_agree schema n (led_world n) (c.agreement.ensures.led schema n) c.lives_agree.ensures.same c.lives_agree.ensures.earlier;
}
