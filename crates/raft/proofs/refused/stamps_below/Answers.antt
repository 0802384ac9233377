use Rattle.std.proofs.Common.{[], of_z, to_z, w64}
use Rattle.raft.proofs.Refusing.{above_floor, above_last, if_some}
use Rattle.raft.proofs.refused.stamps_below.Goals as goal

pub returns-clause-floor : goal.returns-clause-floor
returns-clause-floor c = if_some c.next_stamp.result _ _ c.next_stamp.ensures.some (λ t some floor own. above_floor c.args.core.now [] (to_z w64 (of_z w64 c.args.reading)) t floor some.0 own)

pub returns-clause-last : goal.returns-clause-last
returns-clause-last c = if_some c.next_stamp.result _ _ c.next_stamp.ensures.some (λ t some last ends. above_last c.args.core.now [] (to_z w64 (of_z w64 c.args.reading)) t last some.0 ends)
