use Rattle.std.proofs.Common.{of_z, to_z, w64}
use Rattle.closedtime.proofs.Refusing.{if_some, above_floor, above_last}
use Rattle.closedtime.proofs.refused.stamps_below.Goals as goal

pub returns-clause-last : goal.returns-clause-last
returns-clause-last c = if_some c.stamp.result _ _ c.stamp.ensures.some (λ t some before ends. above_last (to_z w64 (of_z w64 c.args.reading)) c.args.last c.args.floor t before some.0 ends)

pub returns-clause-floor : goal.returns-clause-floor
returns-clause-floor c = if_some c.stamp.result _ _ c.stamp.ensures.some (λ t some before own. above_floor (to_z w64 (of_z w64 c.args.reading)) c.args.last c.args.floor t before some.0 own)
