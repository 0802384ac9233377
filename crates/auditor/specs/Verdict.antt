-- What an audit says of what flights have.
use Rattle.std.specs.Prelude.{◌≢◌, List, length}
use Rattle.std.specs.declared.vec.Vec.{Vec}
use Rattle.std.specs.declared.alloc.Global.{Global}
use Rattle.flight.specs.declared.flight.Answered.{Answered}
use Rattle.flight.specs.declared.flight.Version.{Version}
use Rattle.flight.specs.declared.life.Life.{Life}
use Rattle.believed.specs.Agreement.{Agree}
use Rattle.model.specs.Worlds.{Event, new_world}
use Rattle.sqlchecks.specs.Columns.{Tables}
use Rattle.sqlread.specs.Meaning.{language_of}
use Rattle.moments.specs.Behind.{Evidence}
use Rattle.moments.specs.Faults.{NoneAre}
use Rattle.moments.specs.Judged.{judged_from}
use Rattle.moments.specs.Rising.{Rise}
use Rattle.moments.specs.declared.recorded.AuditFault.{AuditFault}
use Rattle.moments.specs.declared.recorded.AuditFault.TheVariants.{NoMemory}
use Rattle.auditor.specs.Faults.{IsOrderFault, OfRun}
use Rattle.auditor.specs.Joined.{Explains, IsFirst, Upholds}

-- a group with these tables, and node by node its lives and answers, in flights of this version
abbrev pub evidence_of : Version → Tables → List (Vec Life Global) → List (Vec Answered Global) → Evidence
evidence_of version tables lives answers = record { version = version; tables = tables; lives = lives; answers = judged_from 1 answers }

-- Marks rise, and the events of one run explain what was recorded; all members agree about these events, and the run upholds each
-- outcome and each answer that was recorded.
abbrev pub IsExplained : Evidence → Type 0
IsExplained r = Rise r.lives × ((events : List Event) × Explains r events × Agree (language_of r.tables) (length r.lives) (new_world (length r.lives)) events × Upholds r events)

-- The fault is 53, and marks do not rise; or they do, no events explain what was recorded, and it is the first fault.
pub record IsFaultOf (r : Evidence) (fault : AuditFault) : Type 0 where
  pub found : fault ≢ NoMemory
  pub order : IsOrderFault r.lives fault
  pub none : OfRun (λ _. NoneAre (Explains r)) fault
  pub first : OfRun (IsFirst r) fault
