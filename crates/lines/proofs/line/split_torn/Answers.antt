use Rattle.std.proofs.Common.{rules, ◌≢◌}
use Rattle.std.specs.Prelude.{codes}
use Rattle.lines.proofs.Lines.{torn_unspaced, torn_short, torn_left, torn_node}
use Rattle.lines.proofs.line.split_torn.Goals as goal

pub returns-in_err-node-clause-none : goal.returns-in_err-node-clause-none
returns-in_err-node-clause-none c =
    let bad = torn_unspaced c.args.members c.args.rest.now c.in_err-node.ensures.none in
    search (rules, bad)

pub returns-in_err-left-clause-none : goal.returns-in_err-left-clause-none
returns-in_err-left-clause-none c =
    let bad = torn_short c.args.members c.ranges.members.fits c.args.rest.now c.in_ok-node.node.now c.in_ok-node.rest.now c.in_ok-node.ensures.parts c.in_ok-node.ensures.first c.in_err-left.ensures.none in
    search (rules, bad)

pub returns-in_default-clause-none : goal.returns-in_default-clause-none
returns-in_default-clause-none c =
    let old : c.in_ok-left.left.now ≢ codes "old" = search rules in
    let new : c.in_ok-left.left.now ≢ codes "new" = search rules in
    torn_left c.args.members c.ranges.members.fits c.args.rest.now c.in_ok-node.node.now c.in_ok-node.rest.now c.in_ok-node.ensures.parts c.in_ok-node.ensures.first
    c.in_ok-left.left.now c.in_ok-left.job.now c.in_ok-left.ensures.parts c.in_ok-left.ensures.first old new

pub returns-in_err-read_node-clause-none : goal.returns-in_err-read_node-clause-none
returns-in_err-read_node-clause-none c =
    let bad = torn_node c.args.members c.ranges.members.fits c.args.rest.now c.in_ok-node.node.now c.in_ok-node.rest.now c.in_ok-node.ensures.parts c.in_ok-node.ensures.first c.in_err-read_node.ensures.none in
    search (rules, bad)
