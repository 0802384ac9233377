use Rattle.std.proofs.Common.{rules, ◌<◌, length}
use Rattle.moments.proofs.Posting.{posts_more}
use Rattle.moments.proofs.posts.post_all.Goals as goal

pub loop-output-preserved : goal.loop-output-preserved
loop-output-preserved c =
    let within : c.loop-output.output-index < length c.args.outputs.now = search rules in
    posts_more c.args.mark c.args.marks.now.items c.loop-output.marks.items c.post_one.new.marks.items c.args.outputs.now c.loop-output.output-index c.output-item.result
    c.loop-output.invariant c.in_ok-post_one.ensures within c.output-item.is
