use Rattle.std.proofs.Common.{◌≡◌, ◌+◌, length, ap, rules, arith}
use Rattle.std.specs.Prelude.{map}
use Rattle.journal.specs.Blocks.{block_text, HasNoBlock}
use Rattle.journal.proofs.Frames.{block_longer}
use Rattle.store.specs.Telling.{body_of}
use Rattle.store.proofs.Heard.{told_none, told_more, told_to, rest_shorter}
use Rattle.store.proofs.telling.tell_journal.Goals as goal

pub loop-block-init : goal.loop-block-init
loop-block-init g c =
    let first = c.in-Some.ensures.some in
    let said = c.in_default-tell_block.ensures in
    let text = c.args.text.now in
    let old = c.args.hearer.now in
    let none = told_none g.H.Hears.hears first.1.0 text old in
    let more = told_more g.H.Hears.hears first.1.0 text old old c.tell_block.new.hearer first.1.0 c.in-Some.first.sum text c.in-Some.first.body.now c.in-Some.first.rest.now none first.0 first.1.2 first.1.3 said.0 said.1 said.2 in
    record { utf8 = search rules; told = (first.1.0, first.1.1, more) }

pub loop-block-preserved : goal.loop-block-preserved
loop-block-preserved g c =
    let next = c.in-Some-block_after.ensures.some in
    let block = c.in-Some-block_after.block in
    let said = c.in_default-tell_block-2.ensures in
    let so_far = c.loop-block.invariant.told in
    let more = told_more g.H.Hears.hears so_far.0 c.args.text.now c.args.hearer.now c.loop-block.hearer c.tell_block-in-Some-block_after.new.hearer c.loop-block.sum block.sum c.loop-block.rest.now block.body.now block.rest.now so_far.2 next.0 next.1 next.2 said.0 said.1 said.2 in
    record { utf8 = search rules; told = (so_far.0, so_far.1, more) }

pub loop-block-smaller : goal.loop-block-smaller
loop-block-smaller g c =
    let block = c.in-Some-block_after.block in
    let long : length c.loop-block.rest.now ≡ length (block_text c.loop-block.sum block.body.now block.rest.now) = ap length c.in-Some-block_after.ensures.some.1 in
    let longer = block_longer c.loop-block.sum block.body.now block.rest.now in
    omega (arith, long, longer)

pub returns : goal.returns
returns g c =
    let so_far = c.loop-block.invariant.told in
    let rest = c.loop-block.rest.now in
    let none : HasNoBlock c.loop-block.sum rest = λ body more is e. c.in_default-block_after.ensures.every body more is e in
    let told = told_to g.H.Hears.hears so_far.0 c.args.text.now c.args.hearer.now c.loop-block.hearer c.loop-block.sum rest so_far.2 none in
    let whole = ap length so_far.2.2 in
    let shorter = rest_shorter so_far.0 (map body_of so_far.2.0) rest in
    let long : length c.args.text.now ≡ c.saturating_sub-at.result + length rest = omega (arith, whole, shorter, c.saturating_sub-at.ensures) in
    (so_far.0, rest, so_far.1, told, long)
