use Rattle.std.proofs.Common.{arith}
use Rattle.playback.specs.Posts.{messages}
use Rattle.playback.proofs.Sendings.{sent_next}
use Rattle.playback.proofs.post.post_all.Goals as goal

pub loop-output-preserved : goal.loop-output-preserved
loop-output-preserved c =
    sent_next (messages c.args.posts.now.items) (messages c.loop-output.posts.items) (messages c.post_one.new.posts.items) c.args.outputs.now c.loop-output.output-index c.output-item.result
    (omega arith) c.output-item.is c.loop-output.invariant c.in_ok-post_one.ensures
