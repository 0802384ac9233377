use Rattle.std.proofs.Common.{rules, arith, ◌≡◌, ◌++◌, ◌∷◌, [], false, true}
use Rattle.lines.specs.Script.{is_skipped}
use Rattle.lines.proofs.Scripts.{said_skip, said_more}
use Rattle.lines.proofs.script.read_lines.Goals as goal

pub loop-rest-preserved-then-is_skipped : goal.loop-rest-preserved-then-is_skipped
loop-rest-preserved-then-is_skipped c =
    let skips : is_skipped c.in_ok-line.line.now ≡ true = search rules in (
      omega (arith, c.in_ok-line.ensures.left, c.loop-rest.invariant.0),
      said_skip c.args.rest.number c.args.members c.loop-rest.rest.number c.in_ok-line.after.number c.args.rest.text.now c.loop-rest.rest.text.now c.in_ok-line.after.text.now
          c.in_ok-line.line.now c.loop-rest.lines.items c.loop-rest.invariant.1 c.in_ok-line.ensures.line c.in_ok-line.ensures.number skips,
    )

pub loop-rest-preserved : goal.loop-rest-preserved
loop-rest-preserved c =
    let counts : is_skipped c.in_ok-line.line.now ≡ false = search rules in
    let reads = rw c.in-Some.is at c.in_ok-line-2.ensures.some in
    let more = said_more c.args.rest.number c.args.members c.loop-rest.rest.number c.in_ok-line.after.number c.args.rest.text.now c.loop-rest.rest.text.now c.in_ok-line.after.text.now
    c.in_ok-line.line.now c.loop-rest.lines.items c.loop-rest.invariant.1 c.in_ok-line.ensures.line c.in_ok-line.ensures.number c.in-Some.line counts reads.0 reads.1 in
    let items : c.push.new.self.items ≡ c.loop-rest.lines.items ++ c.in-Some.line ∷ [] = search rules in
    (omega (arith, c.in_ok-line.ensures.left, c.loop-rest.invariant.0), rw items more)
