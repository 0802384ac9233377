-- When a run explains what was recorded, and where none does.
use Rattle.std.specs.Prelude.{◌≡◌, ℕ, List, [], ◌∷◌, ◌++◌, length}
use Rattle.model.specs.Worlds.{Event}
use Rattle.sqlread.specs.Meaning.{language_of}
use Rattle.moments.specs.declared.moment.Moment.{Moment}
use Rattle.moments.specs.declared.recorded.AuditFault.{AuditFault}
use Rattle.moments.specs.Moments.{IsTimeline}
use Rattle.moments.specs.Past.{Past, beginning, after}
use Rattle.moments.specs.Behind.{Evidence, IsBehind}
use Rattle.moments.specs.Faults.{NoneAre, IsFaultAt}

-- moment by moment these events happened, from one past up to another
abbrev pub Leads : Evidence → ℕ → Past → List Moment → List Event → Past → Type 0
Leads r n p [] events q = (events ≡ []) × (q ≡ p)
Leads r n p (m ∷ moments) events q = (now : List Event) × (later : List Event) × (events ≡ now ++ later) × IsBehind r n p m now × Leads r n (after (language_of r.tables) n p m.mark now) moments later q

-- The join of the lives is whole, and these are its events; in the run over them each node begins, takes and tells, is cut
-- short, answers and ends as was recorded
pub record Explains (r : Evidence) (events : List Event) : Type 0 where
  pub moments : List Moment
  pub timeline : IsTimeline r.lives r.answers moments
  pub end : Past
  pub leads : Leads r (length r.lives) (beginning (length r.lives)) moments events end

-- the moments before one happened, from this past; it has no events then, and this is its fault
pub record IsStuck (r : Evidence) (n : ℕ) (p : Past) (moments : List Moment) (fault : AuditFault) : Type 0 where
  pub before : List Moment
  pub moment : Moment
  pub later : List Moment
  pub is : moments ≡ before ++ moment ∷ later
  pub events : List Event
  pub past : Past
  pub leads : Leads r n p before events past
  pub none : NoneAre (IsBehind r n past moment)
  pub named : IsFaultAt r.lives past moment fault

-- the fault of the first moment of the join that has no events
abbrev pub IsFirst : Evidence → AuditFault → Type 0
IsFirst r fault = (moments : List Moment) × IsTimeline r.lives r.answers moments × IsStuck r (length r.lives) (beginning (length r.lives)) moments fault
