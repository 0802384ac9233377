-- What an audit says of what was recorded, and what is printed of it.
use Rattle.std.specs.Prelude.{◌≡◌, ◌++◌, ℕ, zero, suc, List, Option, codes}
use Rattle.std.specs.declared.vec.Vec.{Vec}
use Rattle.std.specs.declared.alloc.Global.{Global}
pub use Rattle.auditor.specs.Verdict.{evidence_of, IsExplained, IsFaultOf}
use Rattle.moments.specs.Behind.{Evidence}
use Rattle.moments.specs.Faults.{refusal_of}
use Rattle.moments.specs.declared.recorded.AuditFault.{AuditFault}
use Rattle.answertext.specs.Sinks.{AppendsBeginning}
use Rattle.fault.specs.Refusal.{shown}
use Rattle.flight.specs.declared.flight.Answered.{Answered}
use Rattle.flight.specs.declared.flight.Version.{Version}
use Rattle.flight.specs.declared.life.Life.{Life}
use Rattle.sqlchecks.specs.Columns.{Tables}
use Rattle.shell.specs.Group.{IsRunIn}

-- ---- what an audit says

-- the line that names a fault
abbrev pub line_of : AuditFault → List ℕ
line_of fault = codes "audit: " ++ (shown (refusal_of fault) ++ codes "\n")

-- With exit status 0 the line says yes, and what was recorded is explained; with 1 it names the fault. There is no other status.
abbrev pub IsSaid : Evidence → ℕ → List ℕ → Type 0
IsSaid r zero line = (line ≡ codes "audit: yes\n") × IsExplained r
IsSaid r (suc zero) line = (fault : AuditFault) × (line ≡ line_of fault) × IsFaultOf r fault
IsSaid r (suc (suc more)) line = ⊥

-- the texts are the flight files of a group with these tables, and this is said of the lives and answers that they hold
pub record IsJudged (texts : List (List ℕ)) (status : ℕ) (line : List ℕ) : Type 0 where
  pub version : Version
  pub tables : Tables
  pub lives : List (Vec Life Global)
  pub answers : List (Vec Answered Global)
  pub run : IsRunIn texts version tables lives answers
  pub said : IsSaid (evidence_of version tables lives answers) status line

-- known bytes grow by a beginning of what is said of the flight files in these texts
abbrev pub BeginsJudged : List (List ℕ) → Option (List ℕ) → Option (List ℕ) → Type 0
BeginsJudged texts old new = (status : ℕ) × (line : List ℕ) × IsJudged texts status line × AppendsBeginning old new line
