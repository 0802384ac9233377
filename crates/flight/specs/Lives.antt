-- The marks of a life, and what a step records.
use Rattle.std.specs.Prelude.{ℕ, ℤ, max, nat_le, Option, None, List, [], ◌∷◌, ◌++◌, length, if◌then◌else◌}
use Rattle.model.specs.Marks.{mark_after}
use Rattle.model.specs.declared.entry.Told.{Told}
use Rattle.model.specs.declared.message.Input.TheVariants as input
use Rattle.flight.specs.declared.life.Packet.{Packet}
use Rattle.flight.specs.declared.life.Packet.TheVariants.{Local, Delivered}
use Rattle.flight.specs.declared.life.Step.{Step}
use Rattle.flight.specs.declared.life.Ending.{Ending}
use Rattle.flight.specs.declared.life.Ending.TheVariants.{Up, Stopped, Torn}
use Rattle.flight.specs.declared.life.Life.{Life}
use Rattle.flight.specs.declared.outcome.Outcome.{Outcome}
use Rattle.flight.specs.Telling.{outcomes_of}

-- the torn step, if there is one
abbrev pub torn_step : Ending → List Step
torn_step Up = []
torn_step Stopped = []
torn_step (Torn s) = s ∷ []

-- every step, a torn one too
abbrev pub all_steps : Life → List Step
all_steps life = life.steps.items ++ torn_step life.ending

-- the mark of the last step, or this one where there is none
unfoldable pub last_of : ℕ → List Step → ℕ
last_of mark [] = mark
last_of mark (s ∷ steps) = last_of s.mark steps

-- the greatest mark of a life, since marks rise in it
abbrev pub last_mark : Life → ℕ
last_mark life = last_of life.opening.mark (all_steps life)

-- the mark of the step that sent it, 0 for a local input
abbrev pub sent_at : Packet → ℕ
sent_at (Local input) = 0
sent_at (Delivered mark reading message) = mark

-- one more than the greater of the two marks, where a step and a mark are left
abbrev pub mark_for : Life → Packet → Option ℕ
mark_for life p = if nat_le 200000 (length life.steps.items) then None else mark_after (max (last_mark life) (sent_at p))

-- what the clock shows as it comes: the reading that it bears or, where it bears none, this one
abbrev pub shown : ℤ → Packet → ℤ
shown reading (Local input.Timeout) = reading
shown reading (Local input.Beat) = reading
shown reading (Local (input.Close own)) = own
shown reading (Local (input.Floor own)) = own
shown reading (Local (input.Submit own request)) = own
shown reading (Delivered mark own message) = own

-- the step that this packet makes at this mark as the clock shows this reading, before it told anything
abbrev pub step_of : ℕ → ℤ → Packet → Step
step_of m reading p = record { mark = m; reading = shown reading p; packet = p; outcomes = [] }

-- with other outcomes
abbrev pub with_outcomes : List Outcome → Step → Step
with_outcomes outcomes s = record { mark = s.mark; reading = s.reading; packet = s.packet; outcomes = outcomes }

-- the step that told this
abbrev pub told_step : List Told → Step → Step
told_step told s = with_outcomes (outcomes_of told) s
