use Rattle.lines.proofs.Lines.{submit_unspaced, submit_node, submit_request}
use Rattle.lines.proofs.line.read_submit.Goals as goal

pub returns-in_default-clause-none : goal.returns-in_default-clause-none
returns-in_default-clause-none c = submit_unspaced c.args.members c.args.rest.now c.in_default.ensures.none

pub returns-in_default-read_node-clause-none : goal.returns-in_default-read_node-clause-none
returns-in_default-read_node-clause-none c =
    submit_node c.args.members c.ranges.members.fits c.args.rest.now c.in-Some.node.now c.in-Some.request.now c.in-Some.ensures.parts c.in-Some.ensures.first c.in_default-read_node.ensures.none

pub returns-in_default-split_request-clause-none : goal.returns-in_default-split_request-clause-none
returns-in_default-split_request-clause-none c =
    submit_request c.args.members c.ranges.members.fits c.args.rest.now c.in-Some.node.now c.in-Some.request.now c.in-Some.ensures.parts c.in-Some.ensures.first c.in_default-split_request.ensures.none
