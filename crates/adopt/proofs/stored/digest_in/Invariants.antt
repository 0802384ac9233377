use Rattle.std.proofs.Common.{◌≡◌, take}
use Rattle.world.specs.Run.{member_of}
use Rattle.moments.specs.Behind.{log_in}
use Rattle.journal.specs.Digests.{digest_of}
use Rattle.adopt.specs.View.{IsLookedAt}
use Rattle.adopt.proofs.stored.digest_in.Given as goal

abbrev pub invariant-loop-index : goal.invariant-loop-index
invariant-loop-index l = record {
  digest : l.digest ≡ digest_of (take l.index (log_in (member_of l.initial.world l.node)));
  same : IsLookedAt l.initial.world l.world;
}
