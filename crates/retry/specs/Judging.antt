-- What becomes of a client's request, by the latest of its requests that were executed.
use Rattle.std.specs.Prelude.{ℕ, ◌+◌, ◌-◌, ◌==◌, nat_eq, nat_lt, Option, Some, None, if◌then◌else◌, Result, List, [], ◌∷◌, take, slice_get}
use Rattle.fault.specs.declared.refusal.Refusal.{Refusal}
use Rattle.indexmap.specs.IndexMap.{get}
use Rattle.retry.specs.declared.Latest.{Latest}
use Rattle.retry.specs.declared.Requests.{Requests}
use Rattle.retry.specs.declared.Judged.{Judged}
use Rattle.retry.specs.declared.Judged.TheVariants as judged'

abbrev pub Outcome : Type 0
Outcome = Result ℕ Refusal

abbrev pub latest_number : Option Latest → ℕ
latest_number None = 0
latest_number (Some latest) = latest.number

abbrev pub latest_outcomes : Option Latest → List Outcome
latest_outcomes None = []
latest_outcomes (Some latest) = latest.outcomes.items

-- the number of the client's last request that was executed, 0 before there is one
abbrev pub number_of : Requests → ℕ → ℕ
number_of requests client = latest_number (get nat_eq requests.latest client)

-- the outcomes that are kept for the client, from that of its last request that was executed back
abbrev pub outcomes_of : Requests → ℕ → List Outcome
outcomes_of requests client = latest_outcomes (get nat_eq requests.latest client)

pub data Verdict : Type 0 where
  New : Verdict
  Kept : Outcome → Verdict
  Old : Verdict
  Gap : Verdict

abbrev pub verdict_of : Judged → Verdict
verdict_of judged'.New = New
verdict_of (judged'.Kept outcome) = Kept outcome.now
verdict_of judged'.Old = Old
verdict_of judged'.Gap = Gap

-- what is kept is told again, and what is not is old
abbrev pub again : Option Outcome → Verdict
again None = Old
again (Some outcome) = Kept outcome

-- by the last number and what is kept: the number after it is new, a greater one leaves a gap, and k less than the last has the outcome k places back
abbrev pub judged_by : ℕ → List Outcome → ℕ → Verdict
judged_by last outcomes number =
    if number == last + 1 then New
    else if nat_lt last number then Gap
    else again (slice_get outcomes (last - number))

abbrev pub judged : Requests → ℕ → ℕ → Verdict
judged requests client number = judged_by (number_of requests client) (outcomes_of requests client) number

-- one outcome more, of which the latest eight stay
abbrev pub with_outcome : Outcome → List Outcome → List Outcome
with_outcome outcome outcomes = take 8 (outcome ∷ outcomes)
