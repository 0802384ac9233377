use Rattle.journal.proofs.Refusing.{goes_on}
use Rattle.journal.proofs.refused.stops_before_a_block.Goals as goal

pub returns : goal.returns
returns g c = λ same. goes_on c.args.before c.whole_blocks.result.sum c.args.text.now c.whole_blocks.result.rest.now g.block.0 g.block.1 c.whole_blocks.ensures.0 c.whole_blocks.ensures.1 c.requires.1.0 c.requires.1.1 same
