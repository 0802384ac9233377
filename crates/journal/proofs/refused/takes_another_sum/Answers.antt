use Rattle.std.proofs.Common.{rules}
use Rattle.flight.specs.Ranges.{IsNumber}
use Rattle.journal.proofs.Refusing.{none_of, other_sum}
use Rattle.journal.proofs.refused.takes_another_sum.Goals as goal

pub returns : goal.returns
returns g c =
    let small : IsNumber c.args.before = search rules in
    none_of c.block_after.result _ c.block_after.ensures.some (λ b some. other_sum c.args.before g.block.0 g.block.1 g.block.2 c.args.text.now b.body.now b.rest.now small c.requires.1.0 c.requires.1.1.0 c.requires.1.1.1.0 c.requires.1.1.1.1 some.0 some.1)
