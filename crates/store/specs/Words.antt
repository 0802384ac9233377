-- The words of an outcome.
use Rattle.std.specs.Prelude.{ℕ, Ok, Err, List, codes}
use Rattle.flight.specs.Telling.{told_text}
use Rattle.store.specs.declared.outcome.Outcome.{Outcome}
use Rattle.store.specs.declared.outcome.Outcome.TheVariants.{Accepted, Refused, Unanswered}

abbrev pub words_of : Outcome → List ℕ
words_of (Accepted stamp) = told_text (Ok stamp)
words_of (Refused refusal) = told_text (Err refusal)
words_of Unanswered = codes "unanswered"
