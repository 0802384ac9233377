use Rattle.lines.proofs.Lines.{torn_step}
use Rattle.lines.proofs.line.read_torn.Goals as goal

pub returns-in_default-2-clause-none : goal.returns-in_default-2-clause-none
returns-in_default-2-clause-none c =
    let none = rw c.in_default-2.is at c.in_ok-job.ensures.none in
    torn_step c.args.members c.args.rest.now c.in-Some.node c.in-Some.left c.in-Some.job.now c.ranges.members.fits c.in-Some.ensures.range c.in-Some.ensures.text none
