use Rattle.moments.proofs.Posting.{no_job}
use Rattle.moments.proofs.replay.Replay.job.Goals as goal

pub returns-in-None : goal.returns-in-None
returns-in-None c = no_job c.args.self.now c.deref.result.now c.in-Delivered.mark c.args.node c.in-Delivered.reading c.in-Delivered.message c.args.packet.now c.deref.ensures.value c.in-Delivered.is c.in-None.ensures.none
