-- The texts of outputs and outcomes in each form.
use Rattle.std.specs.Prelude.{◌≡◌, ⊤, ℕ, Bool, true, false, List, [], ◌∷◌, ◌++◌, Option, Some, None, Result, Ok, Err, codes, decimal}
use Rattle.answer.specs.declared.Answer.{Answer}
use Rattle.answertext.specs.Answers.{answer_text}
use Rattle.fault.specs.declared.refusal.Refusal.{Refusal}
use Rattle.fault.specs.Refusal.{shown}
use Rattle.json.specs.Token.{Token}
use Rattle.looks.specs.Objects.{answer_tokens, line_of}
use Rattle.looks.specs.Outcomes.{outcome_of_tokens, refused_tokens, sent_tokens, told_tokens}
use Rattle.looks.specs.Separated.{csv_text}
use Rattle.period.specs.Instant.{instant_text}
use Rattle.script.specs.Printing.{output_text}
use Rattle.world.specs.declared.output.Output.{Output}
use Rattle.world.specs.declared.output.Output.TheVariants.{Sent, Applied, Refused, Answered}
use Rattle.forms.specs.declared.form.Form.{Form}
use Rattle.forms.specs.declared.form.Form.TheVariants.{Lines, Table, Csv, Json}

-- ---- outputs

abbrev pub object_tokens : Output → List Token
object_tokens (Sent place message) = sent_tokens place message
object_tokens (Applied node told) = told_tokens node told
object_tokens (Refused node refusal) = refused_tokens node refusal
object_tokens (Answered node answer) = answer_tokens node answer

-- the empty line before an answer that comes after another: CR, which is 13, and LF, which is 10
abbrev pub gap_text : Bool → List ℕ
gap_text false = []
gap_text true = 13 ∷ 10 ∷ []

-- an answer is CSV, and any other output a line
abbrev pub csv_or_line : Bool → Output → List ℕ
csv_or_line is_next (Sent place message) = output_text (Sent place message)
csv_or_line is_next (Applied node told) = output_text (Applied node told)
csv_or_line is_next (Refused node refusal) = output_text (Refused node refusal)
csv_or_line is_next (Answered node answer) = gap_text is_next ++ csv_text answer

-- an answer is a table, of which nothing is said here, and any other output a line
abbrev pub IsTableOrLine : Output → List ℕ → Type 0
IsTableOrLine (Sent place message) text = text ≡ output_text (Sent place message)
IsTableOrLine (Applied node told) text = text ≡ output_text (Applied node told)
IsTableOrLine (Refused node refusal) text = text ≡ output_text (Refused node refusal)
IsTableOrLine (Answered node answer) text = ⊤

-- the text of an output in a form, where it is told whether it comes after an answer
abbrev pub IsOutputIn : Form → Bool → Output → List ℕ → Type 0
IsOutputIn Lines is_next output text = text ≡ output_text output
IsOutputIn Table is_next output text = IsTableOrLine output text
IsOutputIn Csv is_next output text = text ≡ csv_or_line is_next output
IsOutputIn Json is_next output text = text ≡ line_of (object_tokens output)

-- ---- outcomes

-- what is said of a request
abbrev pub outcome_words : Option (Result ℕ Refusal) → List ℕ
outcome_words None = codes "unanswered"
outcome_words (Some (Ok stamp)) = codes "accepted " ++ instant_text stamp
outcome_words (Some (Err refusal)) = codes "refused " ++ shown refusal

abbrev pub outcome_line : ℕ → ℕ → Option (Result ℕ Refusal) → List ℕ
outcome_line client number outcome =
    codes "request " ++ (decimal client ++ (codes " " ++ (decimal number ++ (codes " " ++ (outcome_words outcome ++ codes "\n")))))

-- what came of a request is a line, but an object as JSON
abbrev pub outcome_in : Form → ℕ → ℕ → Option (Result ℕ Refusal) → List ℕ
outcome_in Lines client number outcome = outcome_line client number outcome
outcome_in Table client number outcome = outcome_line client number outcome
outcome_in Csv client number outcome = outcome_line client number outcome
outcome_in Json client number outcome = line_of (outcome_of_tokens client number outcome)

-- ---- where they go

-- of what is no answer: what is printed
abbrev pub printed_of : Form → List ℕ → List ℕ
printed_of Lines text = text
printed_of Table text = text
printed_of Csv text = []
printed_of Json text = text

-- of what is no answer: what is told beside what is printed
abbrev pub beside_of : Form → List ℕ → List ℕ
beside_of Lines text = []
beside_of Table text = []
beside_of Csv text = text
beside_of Json text = []
