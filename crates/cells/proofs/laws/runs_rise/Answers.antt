use Rattle.model.specs.Worlds.{new_world, led_world}
use Rattle.cells.proofs.Runs.{runs_rise}
use Rattle.cells.proofs.laws.runs_rise.Goals as goal

pub returns : goal.returns
returns c = record {
  new = λ schema n. runs_rise schema n (new_world n) (c.agreement.ensures.new schema n);
  led = λ schema n. runs_rise schema n (led_world n) (c.agreement.ensures.led schema n);
}
