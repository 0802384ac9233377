use Rattle.std.proofs.Common.{◌∙◌, ◌++◌, arith}
use Rattle.report.specs.Machine.{members_tokens}
use Rattle.report.proofs.Rows.{member_more}
use Rattle.report.proofs.machine.put_each_member.Goals as goal

pub loop-place-preserved : goal.loop-place-preserved
loop-place-preserved c =
    let files = c.args.files.now in
    let nodes = c.args.nodes.now in
    let inv = c.loop-place.invariant in
    let added = c.in_ok-put_member.ensures in (
      added.0 ∙ inv.0,
      member_more files nodes c.loop-place.place _ c.name_at.result.now c.loop-place.writer.tokens c.put_member.new.writer.tokens (c.args.writer.now.tokens ++ members_tokens 0 files nodes)
          (omega (arith, c.loop-place-test.true)) c.name_at.ensures added.1 inv.1,
    )
