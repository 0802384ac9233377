-- What is printed of what the lines of a run say, and of the verdict on it, in the form that is asked for.
use Rattle.std.specs.Prelude.{◌≡◌, ◌||◌, ℕ, Bool, false, List, [], ◌∷◌, ◌++◌, Option}
use Rattle.answertext.specs.Sinks.{AppendsBeginning}
use Rattle.forms.specs.Shown.{IsOutputIn, beside_of, outcome_in, printed_of}
use Rattle.forms.specs.declared.form.Form.{Form}
use Rattle.forms.specs.declared.form.Form.TheVariants.{Lines, Table, Csv, Json}
use Rattle.lines.specs.declared.line.Line.{Line}
use Rattle.live.specs.Saying.{IsSaidOf, is_answer}
use Rattle.live.specs.declared.said.Said.{Said}
use Rattle.live.specs.declared.said.Said.TheVariants.{Nothing, Outcome, Answered, Refused}
use Rattle.looks.specs.Objects.{line_of}
use Rattle.looks.specs.Outcomes.{object}
use Rattle.moments.specs.Behind.{Evidence}
use Rattle.moments.specs.declared.recorded.AuditFault.{AuditFault}
use Rattle.report.specs.Machine.{verdict_tokens}
use Rattle.world.specs.declared.output.Output.TheVariants as output
use Rattle.shell.specs.Audit.{IsSaid}
use Rattle.shell.specs.Reported.{IsVerdict, status_of}
use Rattle.shell.specs.declared.showing.Showing.{Showing}

-- ---- what lines say

-- what is printed of it, where it is told whether an answer was printed before
abbrev pub IsPrintedIn : Form → Bool → Said → List ℕ → Type 0
IsPrintedIn form is_next Nothing text = text ≡ []
IsPrintedIn form is_next (Outcome client number outcome) text = text ≡ printed_of form (outcome_in form client number outcome)
IsPrintedIn form is_next (Answered node answer) text = IsOutputIn form is_next (output.Answered node answer) text
IsPrintedIn form is_next (Refused node refusal) text = (line : List ℕ) × IsOutputIn form is_next (output.Refused node refusal) line × (text ≡ printed_of form line)

-- what is told of it beside what is printed
abbrev pub IsBesideIn : Form → Bool → Said → List ℕ → Type 0
IsBesideIn form is_next Nothing text = text ≡ []
IsBesideIn form is_next (Outcome client number outcome) text = text ≡ beside_of form (outcome_in form client number outcome)
IsBesideIn form is_next (Answered node answer) text = text ≡ []
IsBesideIn form is_next (Refused node refusal) text = (line : List ℕ) × IsOutputIn form is_next (output.Refused node refusal) line × (text ≡ beside_of form line)

-- In turn, of each line something is printed that it may say. The flag tells whether an answer was printed before.
abbrev pub PrintsLines : Form → Bool → List Line → List ℕ → Type 0
PrintsLines form is_next [] printed = printed ≡ []
PrintsLines form is_next (line ∷ lines) printed = (said : Said) × (text : List ℕ) × (later : List ℕ) × IsSaidOf line said × IsPrintedIn form is_next said text
    × PrintsLines form (is_next || is_answer said) lines later × (printed ≡ text ++ later)

-- ---- over any pilot, by what it tells of a line and of its end

-- a pilot of which nothing was printed yet
abbrev pub unshown : {P : Type 0} → P → Showing P
unshown pilot = record { pilot = pilot; has_answered = false }

-- what the pilot says of the line is printed, and told beside that
abbrev pub TellsIn : {P : Type 0} → Form → (P → Line → Said → P → Type 0) → Showing P → Line → List ℕ → List ℕ → Showing P → Type 0
TellsIn form plays first line text beside last = (said : Said) × plays first.pilot line said last.pilot × IsPrintedIn form first.has_answered said text
    × IsBesideIn form first.has_answered said beside × (last.has_answered ≡ (first.has_answered || is_answer said))

-- what the pilot says of the line is printed
abbrev pub PlaysIn : {P : Type 0} → Form → (P → Line → Said → P → Type 0) → Showing P → Line → List ℕ → Showing P → Type 0
PlaysIn form plays first line text last = (beside : List ℕ) × TellsIn form plays first line text beside last

-- ---- the verdict

-- With this exit status it is the line that an audit says; but in CSV that is told beside what is printed, and in JSON it is an object.
abbrev pub IsVerdictIn : Form → Evidence → ℕ → List ℕ → Type 0
IsVerdictIn Lines r status text = IsSaid r status text
IsVerdictIn Table r status text = IsSaid r status text
IsVerdictIn Csv r status text = (text ≡ []) × ((line : List ℕ) × IsSaid r status line)
IsVerdictIn Json r status text = (fault : Option AuditFault) × IsVerdict r fault × (status ≡ status_of fault) × (text ≡ line_of (object (verdict_tokens fault)))

-- what is told of it beside what is printed
abbrev pub IsVerdictBeside : Form → Evidence → ℕ → List ℕ → Type 0
IsVerdictBeside Lines r status text = text ≡ []
IsVerdictBeside Table r status text = text ≡ []
IsVerdictBeside Csv r status text = IsSaid r status text
IsVerdictBeside Json r status text = text ≡ []

-- known bytes grow by a beginning of what is printed of it
abbrev pub BeginsVerdict : Form → Evidence → Option (List ℕ) → Option (List ℕ) → Type 0
BeginsVerdict form r old new = (status : ℕ) × (text : List ℕ) × IsVerdictIn form r status text × AppendsBeginning old new text
