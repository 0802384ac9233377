use Rattle.lines.proofs.Lines.{ask_unspaced, ask_node}
use Rattle.lines.proofs.line.read_ask.Goals as goal

pub returns-in_default-clause-none : goal.returns-in_default-clause-none
returns-in_default-clause-none c = ask_unspaced c.args.members c.args.rest.now c.in_default.ensures.none

pub returns-in_default-read_node-clause-none : goal.returns-in_default-read_node-clause-none
returns-in_default-read_node-clause-none c =
    ask_node c.args.members c.ranges.members.fits c.args.rest.now c.in-Some.node.now c.in-Some.text.now c.in-Some.ensures.parts c.in-Some.ensures.first c.in_default-read_node.ensures.none
