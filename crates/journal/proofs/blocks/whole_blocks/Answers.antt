use Rattle.std.proofs.Common.{◌≡◌, length, ap, rules, arith}
use Rattle.journal.specs.Blocks.{block_text, HasNoBlock}
use Rattle.journal.proofs.Frames.{whole_none, whole_more, block_longer}
use Rattle.journal.proofs.blocks.whole_blocks.Goals as goal

pub loop-block-init : goal.loop-block-init
loop-block-init c = record { utf8 = search rules; whole = whole_none c.args.before c.args.text.now }

pub loop-block-preserved : goal.loop-block-preserved
loop-block-preserved c = record {
  utf8 = search rules;
  whole = whole_more c.args.before c.args.text.now c.loop-block.sum c.loop-block.rest.now c.in-Some.block.body.now c.in-Some.block.rest.now c.in-Some.block.sum c.loop-block.invariant.whole
      c.in-Some.ensures.some.0 c.in-Some.ensures.some.1 c.in-Some.ensures.some.2;
}

pub loop-block-smaller : goal.loop-block-smaller
loop-block-smaller c =
    let long : length c.loop-block.rest.now ≡ length (block_text c.loop-block.sum c.in-Some.block.body.now c.in-Some.block.rest.now) = ap length c.in-Some.ensures.some.1 in
    let longer = block_longer c.loop-block.sum c.in-Some.block.body.now c.in-Some.block.rest.now in
    omega (arith, long, longer)

pub returns : goal.returns
returns c =
    let w = c.loop-block.invariant.whole in
    let none : HasNoBlock c.loop-block.sum c.loop-block.rest.now = λ body rest is e. c.in_default.ensures.every body rest is e in
    (w.0, (w.1, w.2, w.3, none))
