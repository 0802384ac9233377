-- Elements up to what ends them.
use Rattle.std.specs.Prelude.{ℕ, List, All, codes}
use Rattle.flight.specs.declared.life.Step.{Step}
use Rattle.flight.specs.declared.life.Ending.{Ending}
use Rattle.flight.specs.declared.flight.Version.{Version}
use Rattle.flight.specs.declared.flight.Answered.{Answered}
use Rattle.flight.specs.Contents.{LifeContents}
use Rattle.sqlchecks.specs.Columns.{Tables}
use Rattle.flight.specs.Spelling.{each_text, step_text, ending_text, life_text, closing_text}
use Rattle.flight.specs.Ranges.{IsStep, IsEnding, IsLife, IsAnswer}
use Rattle.flight.specs.Reading.{IsNotBegun}

-- the elements in turn, and then what ends them
abbrev pub until_text : {A E : Type 0} → (A → List ℕ → List ℕ) → (E → List ℕ → List ℕ) → List A × E → List ℕ → List ℕ
until_text spell last w rest = each_text spell w.0 (last w.1 rest)

abbrev pub IsUntil : {A E : Type 0} → (A → Type 0) → (E → Type 0) → List A × E → Type 0
IsUntil Is IsLast w = All Is w.0 × IsLast w.1

-- the steps of a life and its ending
abbrev pub course_text : Version → List Step × Ending → List ℕ → List ℕ
course_text version w rest = until_text (step_text version) (ending_text version) w rest

abbrev pub IsCourse : Version → ℕ → List Step × Ending → Type 0
IsCourse version node w = IsUntil (IsStep version node) (IsEnding version node) w

-- what stands here is no further outcome of a step
abbrev pub IsNoOutcome : List ℕ → Type 0
IsNoOutcome text = IsNotBegun (codes "outcome ") text

-- the lives, and the answers up to the end
abbrev pub lives_text : Version → List LifeContents × List Answered → List ℕ → List ℕ
lives_text version w rest = until_text (life_text version) closing_text w rest

abbrev pub AreLives : Version → ℕ → Tables → List LifeContents × List Answered → Type 0
AreLives version node tables w = IsUntil (IsLife version node) (All (IsAnswer tables)) w
