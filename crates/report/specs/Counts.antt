-- How much a flight has.
use Rattle.std.specs.Prelude.{ℕ, Bool, true, false, List, count_by, sum_by, length}
use Rattle.flight.specs.Contents.{FlightContents}
use Rattle.flight.specs.declared.life.Life.{Life}
use Rattle.flight.specs.declared.life.Step.{Step}
use Rattle.flight.specs.declared.life.Packet.{Packet}
use Rattle.flight.specs.declared.life.Packet.TheVariants.{Local, Delivered}
use Rattle.flight.specs.declared.life.Ending.{Ending}
use Rattle.flight.specs.declared.life.Ending.TheVariants.{Up, Stopped, Torn}
use Rattle.report.specs.declared.counts.Counts.{Counts}

abbrev pub steps_of : Life → ℕ
steps_of life = length life.steps.items

abbrev pub torn_of : Ending → ℕ
torn_of Up = 0
torn_of Stopped = 0
torn_of (Torn s) = 1

-- it is a message
abbrev pub is_taken : Packet → Bool
is_taken (Local input) = false
is_taken (Delivered mark reading message) = true

-- the messages that steps took
abbrev pub taken_of : List Step → ℕ
taken_of steps = count_by (λ s. is_taken s.packet) steps

-- the outcomes that steps told
abbrev pub outcomes_of : List Step → ℕ
outcomes_of steps = sum_by (λ s. length s.outcomes) steps

abbrev pub counts_of : FlightContents → Counts
counts_of f = record {
  lives = length f.lives;
  steps = sum_by (λ l. length l.steps) f.lives;
  torn = sum_by (λ l. torn_of l.ending) f.lives;
  taken = sum_by (λ l. taken_of l.steps) f.lives;
  outcomes = sum_by (λ l. outcomes_of l.steps) f.lives;
  answers = length f.answers;
}
