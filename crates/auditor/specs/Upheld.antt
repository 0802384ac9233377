-- What a yes says of each outcome and each answer in the flights.
use Rattle.std.specs.Prelude.{◌≡◌, ℕ, ◌<◌, ◌⊎◌, List, [], ◌∷◌, ◌++◌, Option, Some, Ok, Contains, length, ⊤}
use Rattle.std.specs.declared.vec.Vec.{Vec}
use Rattle.std.specs.declared.alloc.Global.{Global}
use Rattle.fault.specs.Refusal.{shown}
use Rattle.fault.specs.declared.refusal.Refusal.TheVariants.{NotClosed}
use Rattle.model.specs.Lists.{nth}
use Rattle.model.specs.Agreement.{IsTold, decided}
use Rattle.model.specs.Answers.{Answer, IsAnswer, read_at}
use Rattle.model.specs.Worlds.{Event, Ask, Answered, new_world}
use Rattle.model.specs.declared.entry.Entry.{Entry}
use Rattle.model.specs.declared.entry.Told.{Told}
use Rattle.flight.specs.Telling.{outcome_of}
use Rattle.flight.specs.declared.flight.Version.{Version}
use Rattle.flight.specs.declared.flight.Version.TheVariants.{One, Two, Three}
use Rattle.flight.specs.declared.life.Life.{Life}
use Rattle.flight.specs.declared.life.Step.{Step}
use Rattle.flight.specs.declared.outcome.Outcome.{Outcome}
use Rattle.sqlread.specs.Meaning.{language_of, select_of}
use Rattle.sqlread.specs.Shapes.{QueryShape}
use Rattle.sqlread.specs.Texts.{query_in}
use Rattle.moments.specs.Behind.{Evidence, IsText}
use Rattle.moments.specs.declared.recorded.Recorded.{Recorded}

-- the entries that the run of these events decides
abbrev pub decided_in : Evidence → List Event → List Entry
decided_in r events = decided (language_of r.tables) (length r.lives) (new_world (length r.lives)) events

-- this answer was recorded: its question was asked in the run, it is what the decided entries give, run one at a time, and what
-- was not decided as it was asked is stamped after its last instant
pub record IsUpheld (r : Evidence) (events : List Event) (a : Recorded) (x : Answer) : Type 0 where
  pub question : QueryShape
  pub reads : query_in r.tables a.query ≡ Ok question
  pub text : IsText r.tables question.table (Answered a.node x ∷ []) a.answer
  pub before : List Event
  pub after : List Event
  pub asked : before ++ Ask a.node (select_of question) ∷ after ≡ events
  pub given : IsAnswer (language_of r.tables) (read_at x.last (select_of question)) (decided_in r events) x
  pub closed : (i : ℕ) (e : Entry) → length (decided_in r before) < i → nth (decided_in r events) i ≡ Some e → x.last < e.stamp

-- the text says that the question was not closed
abbrev pub IsPutOff : Recorded → Type 0
IsPutOff a = (time : Option (List ℕ)) × (a.answer ≡ shown (NotClosed time))

-- version 1 has no outcomes
abbrev pub HasOutcomes : Version → Type 0
HasOutcomes One = ⊥
HasOutcomes Two = ⊤
HasOutcomes Three = ⊤

-- One list of entries is decided. Each outcome that a step told is that of its request there. Each answer is what this list gives,
-- and nothing that is decided later bears an instant that it asked about, or it says that the question was not closed. Answers to
-- one question are equal, whichever nodes gave them and whenever (one without system time is AS OF the last instant that it names).
pub record Upholds (r : Evidence) (events : List Event) : Type 0 where
  pub outcomes : (node : ℕ) (own : Vec Life Global) (life : Life) (step : Step) (o : Outcome) → HasOutcomes r.version → nth r.lives node ≡ Some own → Contains own.items life → Contains life.steps.items step →
      Contains step.outcomes o → (told : Told) × (outcome_of told ≡ o) × IsTold (language_of r.tables) (decided_in r events) told
  pub answers : (a : Recorded) → Contains r.answers a → ((x : Answer) × IsUpheld r events a x) ⊎ IsPutOff a
  pub equal : (a b : Recorded) (x y : Answer) → IsUpheld r events a x → IsUpheld r events b y → a.query ≡ b.query → x.last ≡ y.last → a.answer ≡ b.answer
