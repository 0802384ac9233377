-- That an answer has one text.
use Rattle.std.specs.Prelude.{◌≡◌, ℕ, List, [], ◌∷◌}
use Rattle.model.specs.Answers.{Answer}
use Rattle.model.specs.Worlds.Output.{Answered}
use Rattle.sqlchecks.specs.Columns.{Tables}
use Rattle.moments.specs.Behind.{IsText}

-- an answer about a table has one text, whichever members gave it
abbrev pub OneText : Type 0
OneText = (tables : Tables) (table m k : ℕ) (answer : Answer) (a b : List ℕ) → IsText tables table (Answered m answer ∷ []) a → IsText tables table (Answered k answer ∷ []) b → a ≡ b
