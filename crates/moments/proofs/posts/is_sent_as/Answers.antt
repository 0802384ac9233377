use Rattle.model.specs.Lists.{nth}
use Rattle.world.specs.Run.{now_of}
use Rattle.moments.proofs.Posting.{sent_is, none_sent}
use Rattle.moments.proofs.posts.is_sent_as.Goals as goal

pub returns-in-Some : goal.returns-in-Some
returns-in-Some c = sent_is (nth (now_of c.args.world.now).sent c.args.number) c.in-Some.sent.now c.args.message.now c.is_same_message.result (c.in-Some.ensures c.requires) c.is_same_message.ensures

pub returns-in-None : goal.returns-in-None
returns-in-None c = none_sent (nth (now_of c.args.world.now).sent c.args.number) c.args.message.now (c.in-None.ensures c.requires)
