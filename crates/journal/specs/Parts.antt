-- What follows the first word of a line.
use Rattle.std.specs.Prelude.{◌≡◌, ℕ, List, [], codes, ⊤, All}
use Rattle.flight.specs.Spelling.{spaced, ended, outcome_text, each_text}
use Rattle.flight.specs.Ranges.{IsNumber, IsClient, IsRequestNumber, IsOutcome}
use Rattle.flight.specs.declared.outcome.Outcome.{Outcome}
use Rattle.journal.specs.declared.stored.Summary.{Summary}
use Rattle.journal.specs.declared.line.Taken.{Taken}
use Rattle.journal.specs.declared.line.Line.{Line}
use Rattle.journal.specs.declared.line.Line.TheVariants.{Opens, Rests, Life, Clock, Takes, Saves, Made, Ends, Answer, Printed}
use Rattle.journal.specs.Spelling.{summary_text, taken_text, said_text}
use Rattle.journal.specs.Ranges.{IsSummary, IsTaken, IsLine}

abbrev pub opens_text : ℕ × ℕ × ℕ → List ℕ → List ℕ
opens_text o rest = spaced o.0 (spaced o.1 (ended o.2 rest))

abbrev pub IsOpens : ℕ × ℕ × ℕ → Type 0
IsOpens o = IsNumber o.0 × IsNumber o.1 × IsNumber o.2

-- a member and what it has stored
abbrev pub held_text : ℕ × Summary → List ℕ → List ℕ
held_text h rest = spaced h.0 (summary_text h.1 rest)

abbrev pub IsHeld : ℕ × Summary → Type 0
IsHeld h = IsNumber h.0 × IsSummary h.1

abbrev pub takes_text : ℕ × Taken → List ℕ → List ℕ
takes_text t rest = spaced t.0 (taken_text t.1 rest)

abbrev pub IsTakes : ℕ × Taken → Type 0
IsTakes t = IsNumber t.0 × IsTaken t.1

abbrev pub made_text : ℕ × List Outcome → List ℕ → List ℕ
made_text m rest = ended m.0 (each_text outcome_text m.1 rest)

abbrev pub IsMade : ℕ × List Outcome → Type 0
IsMade m = IsNumber m.0 × All IsOutcome m.1

abbrev pub answer_text : ℕ × List ℕ × List ℕ → List ℕ → List ℕ
answer_text a rest = ended a.0 (said_text (codes "query ") a.1 (said_text (codes "text ") a.2 rest))

abbrev pub IsAnswered : ℕ × List ℕ × List ℕ → Type 0
IsAnswered a = IsNumber a.0

abbrev pub printed_text : ℕ × ℕ × List ℕ → List ℕ → List ℕ
printed_text p rest = spaced p.0 (ended p.1 (said_text (codes "text ") p.2 rest))

abbrev pub IsPrinted : ℕ × ℕ × List ℕ → Type 0
IsPrinted p = IsClient p.0 × IsRequestNumber p.1

-- a line that tells of clocks, of what a member has stored, or of a member that is stopped
abbrev pub IsOfOther : Line → Type 0
IsOfOther (Opens journal sum marks) = ⊥
IsOfOther (Rests member stored) = ⊤
IsOfOther (Life member stored) = ⊤
IsOfOther (Clock reading) = ⊤
IsOfOther (Takes member taken) = ⊥
IsOfOther (Saves member stored) = ⊤
IsOfOther (Made member outcomes) = ⊥
IsOfOther (Ends member) = ⊤
IsOfOther (Answer member query answer) = ⊥
IsOfOther (Printed client number words) = ⊥

abbrev pub IsOther : Line → Type 0
IsOther line = IsLine line × IsOfOther line

-- nothing follows
abbrev pub IsOver : List ℕ → Type 0
IsOver rest = rest ≡ []
