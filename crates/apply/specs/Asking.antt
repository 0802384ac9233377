-- Questions to versions.
use Rattle.std.specs.Prelude.{◌≡◌, ◌⊎◌, ◌≤◌, ℕ, Option, Some, None, List, option_map}
use Rattle.fault.specs.declared.refusal.Refusal.{Refusal}
use Rattle.fault.specs.declared.refusal.Refusal.TheVariants.{NoMemory, NotClosed}
use Rattle.model.specs.Tables.{Table}
use Rattle.model.specs.Texts.{instant_text}
use Rattle.model.specs.Answers.{closed_query, read_at, IsAnswerOver}
use Rattle.rowlaws.specs.Rows.{Apart}
use Rattle.versionlaws.specs.Versions.{Version, Keeps}
use Rattle.sqlread.specs.Shapes.{QueryShape}
use Rattle.sqlread.specs.Meaning.{select_of}
use Rattle.answer.specs.declared.Answer.{Answer}
use Rattle.answer.specs.Answers.{answer_of}

-- the question is closed at the closed time, and whatever history the versions keep up to then, it is answered over that
abbrev pub IsAnswered : QueryShape → Option ℕ → List Version → Answer → Type 0
IsAnswered q closed versions a =
    (t : ℕ) × (closed ≡ Some t) × ((read_at t (select_of q)).time.last ≤ t)
    × ((history : ℕ → Table) → Keeps versions history t → Apart versions → IsAnswerOver history (read_at t (select_of q)) (answer_of a))

-- 33 where it is not closed; or there was no memory
abbrev pub IsUnanswered : QueryShape → Option ℕ → Refusal → Type 0
IsUnanswered q closed refusal =
    (refusal ≡ NoMemory) ⊎ ((closed_query (select_of q) closed ≡ None) × (refusal ≡ NotClosed (option_map instant_text closed)))
