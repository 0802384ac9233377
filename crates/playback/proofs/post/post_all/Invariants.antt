use Rattle.std.proofs.Common.{◌≡◌, ◌++◌, take}
use Rattle.world.specs.View.{outputs_of}
use Rattle.playback.specs.Posts.{messages, sent_in}
use Rattle.playback.proofs.post.post_all.Given as goal

abbrev pub invariant-loop-output : goal.invariant-loop-output
invariant-loop-output l = messages l.posts.items ≡ messages l.initial.posts.items ++ sent_in (outputs_of (take l.output-index l.outputs))
