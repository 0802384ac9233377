-- Lists of checks, of which the first that fails is answered.
use Rattle.std.specs.Prelude.{◌≡◌, Bool, List, [], ◌∷◌, ◌++◌, Option, Some, None, Result, Ok, Err, if◌then◌else◌}
use Rattle.fault.specs.declared.refusal.Refusal.{Refusal}

-- what is answered, and whether it is
pub record Check : Type 0 where
  pub refusal : Refusal
  pub fails : Bool

infix 70 ◌when◌
abbrev pub ◌when◌ : Refusal → Bool → Check
refusal when fails = record { refusal = refusal; fails = fails }

abbrev pub first_failing : List Check → Option Refusal
first_failing [] = None
first_failing (check ∷ checks) = if check.fails then Some check.refusal else first_failing checks

-- the checks of each in turn, which may look at those before it
abbrev pub each_after : {A : Type 0} → List A → (List A → A → List Check) → List A → List Check
each_after before checks [] = []
each_after before checks (x ∷ xs) = checks before x ++ each_after (before ++ x ∷ []) checks xs

abbrev pub each : {A : Type 0} → (List A → A → List Check) → List A → List Check
each checks xs = each_after [] checks xs

-- the first check that fails is answered, and Ok where none does
abbrev pub Answers : {A : Type 0} → Result A Refusal → List Check → Type 0
Answers (Ok x) checks = first_failing checks ≡ None
Answers (Err refusal) checks = first_failing checks ≡ Some refusal
