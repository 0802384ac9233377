-- What an audit prints with a report.
use Rattle.std.specs.Prelude.{◌≡◌, ℕ, Bool, true, false, List, ◌++◌, Option, Some, None, codes, map}
use Rattle.std.specs.declared.vec.Vec.{Vec}
use Rattle.std.specs.declared.alloc.Global.{Global}
use Rattle.answertext.specs.Sinks.{AppendsBeginning}
use Rattle.beginnings.specs.Beginnings.{beginning_of}
use Rattle.flight.specs.Contents.{FlightContents}
use Rattle.flight.specs.declared.flight.Answered.{Answered}
use Rattle.flight.specs.declared.flight.Version.{Version}
use Rattle.flight.specs.declared.life.Life.{Life}
use Rattle.looks.specs.Objects.{line_of}
use Rattle.moments.specs.Behind.{Evidence}
use Rattle.moments.specs.declared.recorded.AuditFault.{AuditFault}
use Rattle.report.specs.Digests.{all_said}
use Rattle.report.specs.Machine.{report_tokens}
use Rattle.report.specs.Pages.{kept_lines}
use Rattle.report.specs.Whole.{held_of, seal_of, verdict_text}
use Rattle.report.specs.declared.whole.Report.{Report}
use Rattle.sha2.specs.Sha256.{sha256}
use Rattle.sqlchecks.specs.Columns.{Tables}
use Rattle.shell.specs.Audit.{IsExplained, IsFaultOf, evidence_of}
use Rattle.shell.specs.Group.{AreFilesOf, AreHeld}

-- without a fault what was recorded is explained; a fault is that of what was recorded
abbrev pub IsVerdict : Evidence → Option AuditFault → Type 0
IsVerdict r None = IsExplained r
IsVerdict r (Some fault) = IsFaultOf r fault

abbrev pub status_of : Option AuditFault → ℕ
status_of None = 0
status_of (Some fault) = 1

-- the line of the verdict
abbrev pub verdict_line : Option AuditFault → List ℕ
verdict_line fault = codes "audit: " ++ (verdict_text fault ++ codes "\n")

-- The texts are the flight files of a group with these tables, and the report is that on them: its verdict is that on the lives and
-- answers that the flights hold, and its counts and digests are those of the flights, in the order of the nodes.
pub record IsReportOn (texts : List (List ℕ)) (r : Report) : Type 0 where
  pub version : Version
  pub tables : Tables
  pub flights : List FlightContents
  pub lives : List (Vec Life Global)
  pub answers : List (Vec Answered Global)
  pub files : AreFilesOf texts version tables flights
  pub held : AreHeld flights lives answers
  pub verdict : IsVerdict (evidence_of version tables lives answers) r.fault
  pub nodes : r.contents.nodes.items ≡ map held_of flights
  pub said : r.contents.answers ≡ sha256 (all_said flights)
  pub kept : r.contents.beginnings.items ≡ map beginning_of flights
  pub seal : r.seal ≡ seal_of r.contents r.settled r.fault

-- a report as JSON, or as a text that begins with the line of the verdict and ends with the lines to keep
abbrev pub IsPrinted : Bool → Report → List ℕ → Type 0
IsPrinted true r text = text ≡ line_of (report_tokens r)
IsPrinted false r text = (more : List ℕ) × (text ≡ verdict_line r.fault ++ (more ++ kept_lines r))

-- with this exit status the text is what is printed of a report on the flights in texts
abbrev pub IsReported : List (List ℕ) → Bool → ℕ → List ℕ → Type 0
IsReported texts is_json status text = (r : Report) × IsReportOn texts r × (status ≡ status_of r.fault) × IsPrinted is_json r text

-- known bytes grow by a beginning of it
abbrev pub BeginsReported : List (List ℕ) → Bool → Option (List ℕ) → Option (List ℕ) → Type 0
BeginsReported texts is_json old new = (status : ℕ) × (text : List ℕ) × IsReported texts is_json status text × AppendsBeginning old new text
