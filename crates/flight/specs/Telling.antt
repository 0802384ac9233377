-- What is told of requests, as a flight records it.
use Rattle.std.specs.Prelude.{ℕ, Result, Ok, Err, List, ◌++◌, map, codes}
use Rattle.fault.specs.declared.refusal.Refusal.{Refusal}
use Rattle.fault.specs.Refusal.{shown}
use Rattle.period.specs.Instant.{instant_text}
use Rattle.model.specs.declared.entry.Told.{Told}
use Rattle.flight.specs.declared.outcome.Outcome.{Outcome}

-- the instant at which a request was accepted, or its refusal
abbrev pub told_text : Result ℕ Refusal → List ℕ
told_text (Ok stamp) = codes "accepted " ++ instant_text stamp
told_text (Err refusal) = codes "refused " ++ shown refusal

abbrev pub outcome_of : Told → Outcome
outcome_of told = record { index = told.index; client = told.client; number = told.number; text = told_text told.outcome }

-- in the order in which they were told
abbrev pub outcomes_of : List Told → List Outcome
outcomes_of told = map outcome_of told
