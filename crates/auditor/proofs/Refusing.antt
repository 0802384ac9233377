-- What the laws of `refused` rest on besides the clauses that they speak of.
use Rattle.std.proofs.Common.{◌≡◌, ◌≢◌, ℕ, List, [], Option, Some, Result, Ok, Err, map, refl, ap, inl, inr}
use Rattle.std.specs.Prelude.{Contains, IfErr, IfOk, IsErr, OnOk}
use Rattle.std.specs.declared.alloc.Global.{Global}
use Rattle.std.specs.declared.vec.Vec.{Vec}
use Rattle.fault.specs.declared.refusal.Refusal.TheVariants.{NotClosed}
use Rattle.believed.specs.Refusals.{shown}
use Rattle.flight.specs.declared.life.Step.{Step}
use Rattle.model.specs.Answers.{Answer}
use Rattle.model.specs.Worlds.{Event}
use Rattle.moments.specs.Behind.{Evidence, step_at}
use Rattle.moments.specs.Faults.{NoneAre}
use Rattle.moments.specs.Rising.{Rise}
use Rattle.moments.specs.declared.recorded.AuditFault.{AuditFault}
use Rattle.moments.specs.declared.recorded.AuditFault.TheVariants.{NoMemory, OutOfOrder, Broken, Unsent, Wrong}
use Rattle.moments.specs.declared.recorded.Recorded.{Recorded}
use Rattle.world.specs.View.{event_of}
use Rattle.world.specs.declared.event.Event.{Event as Event'}
use Rattle.auditor.specs.Audited.{Explains as ExplainsThen}
use Rattle.auditor.specs.Faults.{IsOrderFault, OfRun}
use Rattle.auditor.specs.Joined.{Explains, IsUpheld}
use Rattle.auditor.specs.Verdict.{IsExplained}
use Rattle.auditor.proofs.Upholding.{step_has_event}

-- ---- a step has an event

pub if_explained : {E : Type 0} (r : Evidence) (res : Result (Vec Event' Global) E) → IfOk res (λ events. ExplainsThen r (map event_of events.items))
    → IfOk res (λ events. (node life place : ℕ) (step : Step) → step_at r.lives node life place ≡ Some step → events.items ≢ [])
if_explained r (Ok events) e = λ node life place step at none. step_has_event r (map event_of events.items) e node life place step at (ap (map event_of) none)
if_explained r (Err f) e = tt

-- ---- faults

only_memory : (r : Evidence) (events : List Event) (f : AuditFault) → Rise r.lives → Explains r events → IsOrderFault r.lives f → OfRun (λ _. NoneAre (Explains r)) f → f ≡ NoMemory
only_memory r events NoMemory rise e order none = refl
only_memory r events (OutOfOrder node mark) rise e order none = absurd (order rise)
only_memory r events (Broken node mark) rise e order none = absurd (none events e)
only_memory r events (Unsent node mark) rise e order none = absurd (none events e)
only_memory r events (Wrong node mark) rise e order none = absurd (none events e)

pub no_other_fault : {T : Type 0} (r : Evidence) (events : List Event) (res : Result T AuditFault) → Rise r.lives → Explains r events → IfErr res (IsOrderFault r.lives) → IfErr res (OfRun (λ _. NoneAre (Explains r)))
    → IfErr res (λ fault. fault ≡ NoMemory)
no_other_fault r events (Ok v) rise e order none = tt
no_other_fault r events (Err f) rise e order none = only_memory r events f rise e order none

-- ---- answers

pub no_yes : {E : Type 0} (r : Evidence) (res : Result (Unit {0}) E) (a : Recorded) → Contains r.answers a → ((events : List Event) (x : Answer) → IsUpheld r events a x → ⊥)
    → ((time : Option (List ℕ)) → a.answer ≢ shown (NotClosed time)) → OnOk res (IsExplained r) → IsErr res
no_yes r (Ok u) a recorded unheld closed said = absurd (elim (said.1.3.answers a recorded) [
  | inl (x, held) ↦ unheld said.1.0 x held
  | inr (time, is) ↦ closed time is
])
no_yes r (Err f) a recorded unheld closed said = refl
