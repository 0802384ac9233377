use Rattle.std.proofs.Common.{ℕ, length}
use Rattle.std.specs.Str.{IsUtf8}
use Rattle.store.specs.Telling.{GoesOn}
use Rattle.store.proofs.Heard.{ToldSoFar}
use Rattle.store.proofs.telling.tell_journal.Given as goal

abbrev pub invariant-loop-block : goal.invariant-loop-block
invariant-loop-block g l = record {
  utf8 : IsUtf8 l.rest;
  told : (before : ℕ) × GoesOn l.fn.before before l.text × ToldSoFar g.H.Hears.hears before l.text l.fn.hearer l.hearer l.sum l.rest;
}

abbrev pub decreases-loop-block : goal.decreases-loop-block
decreases-loop-block g l = length l.rest
