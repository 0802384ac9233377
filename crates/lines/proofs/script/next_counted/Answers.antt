use Rattle.std.proofs.Common.{rules, arith, ◌≡◌, true}
use Rattle.lines.specs.Script.{is_skipped}
use Rattle.lines.proofs.Scripts.{skips_more}
use Rattle.lines.proofs.script.next_counted.Goals as goal

pub loop-line-preserved : goal.loop-line-preserved
loop-line-preserved c =
    let skips : is_skipped c.in_ok-line.line.now ≡ true = search rules in (
      omega (arith, c.in_ok-line.ensures.left, c.loop-line.invariant.0),
      skips_more c.args.rest.number c.loop-line.rest.number c.in_ok-line.after.number c.args.rest.text.now c.loop-line.rest.text.now c.in_ok-line.after.text.now c.in_ok-line.line.now
          c.in_ok-line.ensures.line c.in_ok-line.ensures.number c.loop-line.invariant.1 skips,
    )
