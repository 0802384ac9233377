-- What is told, and which lines have what of it.
use Rattle.std.specs.Prelude.{◌≡◌, ℕ, Option, Some, None, List, [], ◌∷◌, ◌++◌, fold, max, nat_lt, if◌then◌else◌, ⊤}
use Rattle.flight.specs.declared.outcome.Outcome.{Outcome}
use Rattle.flight.specs.Telling.{outcomes_of}
use Rattle.model.specs.declared.entry.Told.{Told}
use Rattle.model.specs.Worlds.{Output, Applied}
use Rattle.journal.specs.declared.line.Line.{Line}
use Rattle.journal.specs.declared.line.Line.TheVariants.{Life, Takes, Made, Ends}

-- all that outputs tell
abbrev pub told_in : List Output → List Told
told_in [] = []
told_in (Applied m told ∷ outs) = told ∷ told_in outs
told_in (out ∷ outs) = told_in outs

-- what is told of entries past an index, each past those before it: what is told for the first time
abbrev pub first_told : ℕ → List Told → List Told
first_told noted [] = []
first_told noted (told ∷ more) = (if nat_lt noted told.index then told ∷ [] else []) ++ first_told (max noted told.index) more

-- the last entry of which is told then
abbrev pub noted_after : ℕ → List Told → ℕ
noted_after noted told = fold (λ (last : ℕ) (one : Told). max last one.index) noted told

-- a step of a member that no line has ended, and the outcomes that its end has
pub record Step : Type 0 where
  pub member : ℕ
  pub due : List Outcome

-- a step of this member that told this: what of it is told for the first time is due
abbrev pub step_of : (noted m : ℕ) → List Told → Step
step_of noted m told = record { member = m; due = outcomes_of (first_told noted told) }

-- no outcome is due
abbrev pub IsIdle : Option Step → Type 0
IsIdle None = ⊤
IsIdle (Some step) = step.due ≡ []

-- A line that records events which gave this. Past an entry, and with a step that no line has ended, it leads to another such entry and step:
-- a step begins where no outcome is due, and its end is of the same member and has all that is due.
abbrev pub Leads : (noted : ℕ) → Option Step → List (List Output) → Line → (last : ℕ) → Option Step → Type 0
Leads noted step gave (Life m stored) last left = (gave ≡ [] ∷ []) × IsIdle step × (last ≡ noted) × (left ≡ None)
Leads noted step gave (Ends m) last left = (gave ≡ [] ∷ []) × IsIdle step × (last ≡ noted) × (left ≡ None)
Leads noted step gave (Takes m taken) last left = (outs : List Output) × (gave ≡ outs ∷ []) × IsIdle step × (last ≡ noted_after noted (told_in outs)) × (left ≡ Some (step_of noted m (told_in outs)))
Leads noted step gave (Made m outcomes) last left = (gave ≡ []) × (step ≡ Some (record { member = m; due = outcomes })) × (last ≡ noted) × (left ≡ None)
Leads noted step gave line last left = (gave ≡ []) × (last ≡ noted) × (left ≡ step)

-- lines that do so one after another
abbrev pub LeadAll : (noted : ℕ) → Option Step → List (List Output) → List Line → (last : ℕ) → Option Step → Type 0
LeadAll noted step gave [] last left = (gave ≡ []) × (last ≡ noted) × (left ≡ step)
LeadAll noted step gave (line ∷ lines) last left = (first rest : List (List Output)) × (mid : ℕ) × (on : Option Step) × (gave ≡ first ++ rest) × Leads noted step first line mid on × LeadAll mid on rest lines last left

-- where no outcome is due before these lines, none is behind them
abbrev pub AreWritten : (noted : ℕ) → List (List Output) → List Line → (last : ℕ) → Type 0
AreWritten noted gave lines last = (step : Option Step) → IsIdle step → (left : Option Step) × IsIdle left × LeadAll noted step gave lines last left

-- these lines end a step of this member that told this
abbrev pub IsEnd : (m noted : ℕ) → List Told → List Line → (last : ℕ) → Type 0
IsEnd m noted told lines last = LeadAll (noted_after noted told) (Some (step_of noted m told)) [] lines last None
