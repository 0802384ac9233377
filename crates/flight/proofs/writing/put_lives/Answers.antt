use Rattle.std.proofs.Common.{◌<◌, length, arith}
use Rattle.flight.specs.Contents.{in_life}
use Rattle.flight.specs.Spelling.{life_text}
use Rattle.flight.proofs.Adding.{adds_seen}
use Rattle.flight.proofs.writing.put_lives.Goals as goal

pub loop-life-preserved : goal.loop-life-preserved
loop-life-preserved c =
    let within : c.loop-life.life-index < length c.args.lives.now = omega arith in
    adds_seen c.args.lives.now c.loop-life.life-index c.life-item.result within c.life-item.is _ _ _ in_life (life_text c.args.version) c.loop-life.invariant c.in_ok-put_life.ensures
