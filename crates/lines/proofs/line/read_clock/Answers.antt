use Rattle.std.proofs.Common.{rules, ◌≢◌}
use Rattle.std.specs.Prelude.{codes}
use Rattle.lines.proofs.Lines.{clock_unspaced, clock_reading, clock_node, not_signed}
use Rattle.lines.proofs.line.read_clock.Goals as goal

pub returns-in_err-node-clause-none : goal.returns-in_err-node-clause-none
returns-in_err-node-clause-none c =
    let bad = clock_unspaced c.args.members c.args.rest.now c.in_err-node.ensures.none in
    search (rules, bad)

pub returns-in_err-reading-clause-none : goal.returns-in_err-reading-clause-none
returns-in_err-reading-clause-none c =
    let none = not_signed c.read_signed.result c.in_ok-node.reading.now c.read_signed.ensures.every c.in_err-reading.was in
    let bad = clock_reading c.args.members c.ranges.members.fits c.args.rest.now c.in_ok-node.node.now c.in_ok-node.reading.now c.in_ok-node.ensures.parts c.in_ok-node.ensures.first none in
    search (rules, bad)

pub returns-in_err-read_node-clause-none : goal.returns-in_err-read_node-clause-none
returns-in_err-read_node-clause-none c =
    let other : c.in_ok-node.node.now ≢ codes "all" = search rules in
    let bad = clock_node c.args.members c.ranges.members.fits c.args.rest.now c.in_ok-node.node.now c.in_ok-node.reading.now c.in_ok-node.ensures.parts c.in_ok-node.ensures.first other c.in_err-read_node.ensures.none in
    search (rules, bad)
