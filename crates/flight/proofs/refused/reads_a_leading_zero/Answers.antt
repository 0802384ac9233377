use Rattle.flight.specs.Contents.{in_opening}
use Rattle.flight.proofs.Refusing.{never_ok, no_zero_first}
use Rattle.flight.proofs.refused.reads_a_leading_zero.Goals as goal

pub returns : goal.returns
returns g c = never_ok c.read_opening.result _ c.read_opening.ensures.ok (λ p ok. no_zero_first c.args.version (in_opening p.0) c.args.text.now g.rest p.1.now ok.0 ok.1 c.requires.1)
