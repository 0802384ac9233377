-- What was told of requests, and the words that it is given out with.
use Rattle.std.specs.Prelude.{◌≡◌, ◌⊎◌, ℕ, Any, codes, Err, List, [], ◌∷◌, ◌++◌}
use Rattle.fault.specs.declared.refusal.Refusal.{Refusal}
use Rattle.flight.specs.Telling.{told_text}
use Rattle.model.specs.declared.entry.Told.{Told}
use Rattle.model.specs.Worlds.{Output, Applied, Refused}
use Rattle.model.specs.declared.event.Job.{Job}
use Rattle.model.specs.declared.event.Job.TheVariants.{Local}
use Rattle.model.specs.declared.message.Input.TheVariants.{Submit}
use Rattle.playback.specs.declared.told.Word.{Word}
-- all that is told, and what of it for the first time
pub use Rattle.store.specs.Noting.{told_in, first_told, noted_after}

-- what may be given out of it
abbrev pub word_of : Told → Word
word_of told = record { client = told.client; number = told.number; outcome = told.outcome }

-- a request that is refused as it is handed to a member
abbrev pub refused_word : Job → Refusal → List Word
refused_word (Local (Submit reading request)) refusal = record { client = request.client; number = request.number; outcome = Err refusal } ∷ []
refused_word job refusal = []

-- what may be given out of requests after a step with this job
abbrev pub words_in : Job → List Output → List Word
words_in job [] = []
words_in job (Applied m told ∷ outs) = word_of told ∷ words_in job outs
words_in job (Refused m refusal ∷ outs) = refused_word job refusal ++ words_in job outs
words_in job (out ∷ outs) = words_in job outs

-- the words are those of the outcome, which is one of this request
abbrev pub IsOf : (client number : ℕ) → List ℕ → Word → Type 0
IsOf client number words word = (word.client ≡ client) × (word.number ≡ number) × (words ≡ told_text word.outcome)

-- what was given out of a request is that nothing is known, or one of these
abbrev pub IsSaid : List Word → (client number : ℕ) → List ℕ → Type 0
IsSaid said client number words = (words ≡ codes "unanswered") ⊎ Any (IsOf client number words) said
