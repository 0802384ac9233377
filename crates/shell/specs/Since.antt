-- What an audit prints that is asked about flights beside what was kept of them.
use Rattle.std.specs.Prelude.{◌≡◌, ℕ, Bool, true, false, List, ◌++◌, Option}
use Rattle.std.specs.declared.vec.Vec.{Vec}
use Rattle.std.specs.declared.alloc.Global.{Global}
use Rattle.answertext.specs.Sinks.{AppendsBeginning}
use Rattle.beginnings.specs.Words.{IsTold}
use Rattle.beginnings.specs.declared.beginning.Beginning.{Beginning}
use Rattle.flight.specs.Contents.{FlightContents}
use Rattle.flight.specs.declared.flight.Answered.{Answered}
use Rattle.flight.specs.declared.flight.Version.{Version}
use Rattle.flight.specs.declared.life.Life.{Life}
use Rattle.sqlchecks.specs.Columns.{Tables}
use Rattle.shell.specs.Audit.{IsSaid, evidence_of}
use Rattle.shell.specs.Group.{AreFilesOf, AreHeld}

-- the audit's status, or 1 where it is not so that all flights begin as was kept
abbrev pub status_with : ℕ → Bool → ℕ
status_with verdict true = verdict
status_with verdict false = 1

-- The texts are the flight files of a group. What is printed is the line of the verdict on the lives and answers that the flights
-- hold, and behind it what is said of the flights, in the order of the nodes, beside what was kept of them.
pub record IsSince (texts : List (List ℕ)) (seen : List Beginning) (status : ℕ) (text : List ℕ) : Type 0 where
  pub version : Version
  pub tables : Tables
  pub flights : List FlightContents
  pub lives : List (Vec Life Global)
  pub answers : List (Vec Answered Global)
  pub files : AreFilesOf texts version tables flights
  pub held : AreHeld flights lives answers
  pub verdict : ℕ
  pub line : List ℕ
  pub said : IsSaid (evidence_of version tables lives answers) verdict line
  pub is_beginning : Bool
  pub words : List ℕ
  pub told : IsTold flights seen is_beginning words
  pub printed : text ≡ line ++ words
  pub ends : status ≡ status_with verdict is_beginning

-- known bytes grow by a beginning of it
abbrev pub BeginsSince : List (List ℕ) → List Beginning → Option (List ℕ) → Option (List ℕ) → Type 0
BeginsSince texts seen old new = (status : ℕ) × (text : List ℕ) × IsSince texts seen status text × AppendsBeginning old new text
