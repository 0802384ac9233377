-- What a line may say that is played.
use Rattle.std.specs.Prelude.{◌≡◌, ◌⊎◌, ℕ, Bool, true, false}
use Rattle.answer.specs.declared.Answer.{Answer as AnyAnswer}
use Rattle.fault.specs.declared.refusal.Refusal.{Refusal}
use Rattle.lines.specs.declared.line.Line.{Line}
use Rattle.lines.specs.declared.line.Line.TheVariants.{Submit, Start, Ask}
use Rattle.live.specs.declared.said.Said.{Said}
use Rattle.live.specs.declared.said.Said.TheVariants.{Nothing, Outcome, Answered, Refused}

abbrev pub is_answer : Said → Bool
is_answer (Answered node answer) = true
is_answer said = false

-- an outcome, or that there is none, of this client's request of this number
abbrev pub IsOutcomeOf : ℕ → ℕ → Said → Type 0
IsOutcomeOf client number (Outcome c n outcome) = (c ≡ client) × (n ≡ number)
IsOutcomeOf client number said = ⊥

-- this node refuses
abbrev pub IsRefusalOf : ℕ → Said → Type 0
IsRefusalOf node said = (refusal : Refusal) × (said ≡ Refused node refusal)

-- this node answers, or refuses
abbrev pub IsReply : ℕ → Said → Type 0
IsReply node said = ((answer : AnyAnswer) × (said ≡ Answered node answer)) ⊎ IsRefusalOf node said

-- What the line may say: a request says what came of it, a question what its node replies, a start that its node refuses, if it
-- does, and any other line nothing.
abbrev pub IsSaidOf : Line → Said → Type 0
IsSaidOf (Submit node client number text) said = IsOutcomeOf client number said
IsSaidOf (Start node) said = (said ≡ Nothing) ⊎ IsRefusalOf node said
IsSaidOf (Ask node text) said = IsReply node said
IsSaidOf line said = said ≡ Nothing
