use Rattle.std.proofs.Common.{◌≡◌, ◌++◌, take}
use Rattle.moments.specs.Posts.{messages_in, posted}
use Rattle.moments.proofs.posts.post_all.Given as goal

abbrev pub invariant-loop-output : goal.invariant-loop-output
invariant-loop-output l = l.marks.items ≡ l.initial.marks.items ++ posted l.mark (messages_in (take l.output-index l.outputs))
