use Rattle.std.proofs.Common.{inl, refl}
use Rattle.keep.specs.Durable.{blank}
use Rattle.journal.specs.Digests.{summary_of}
use Rattle.playback.proofs.play.Play.meet_told.Goals as goal

pub returns-then-index : goal.returns-then-index
returns-then-index c = (summary_of blank, inl refl)
