-- Lemmas on flights beside what was kept of them.
use Rattle.std.proofs.Common.{◌≡◌, ◌++◌, ℕ, List, Bool, map, refl}
use Rattle.std.specs.declared.vec.Vec.{Vec}
use Rattle.std.specs.declared.alloc.Global.{Global}
use Rattle.beginnings.specs.Words.{IsTold}
use Rattle.beginnings.specs.declared.beginning.Beginning.{Beginning}
use Rattle.flight.specs.Contents.{in_flight}
use Rattle.flight.specs.declared.flight.Flight.{Flight}
use Rattle.flight.specs.declared.flight.Answered.{Answered}
use Rattle.flight.specs.declared.flight.Version.{Version}
use Rattle.flight.specs.declared.life.Life.{Life}
use Rattle.sqlchecks.specs.Columns.{Tables}
use Rattle.shell.specs.Audit.{IsSaid, evidence_of}
use Rattle.shell.specs.Group.{AreFilesOf, AreHeld}
use Rattle.shell.specs.Since.{IsSince, status_with}

-- what an audit says of flights that were read, and behind it what is said of them beside what was kept
pub since_said : (texts : List (List ℕ)) (seen : List Beginning) (version : Version) (tables : Tables) (fs : List Flight) (lives : List (Vec Life Global)) (answers : List (Vec Answered Global)) (verdict : ℕ) (line : List ℕ)
    (is_beginning : Bool) (words text : List ℕ) (status : ℕ) → AreFilesOf texts version tables (map in_flight fs) → AreHeld (map in_flight fs) lives answers → IsSaid (evidence_of version tables lives answers) verdict line
    → IsTold (map in_flight fs) seen is_beginning words → text ≡ line ++ words → status ≡ status_with verdict is_beginning → IsSince texts seen status text
since_said texts seen version tables fs lives answers verdict line is_beginning words text status files held said told printed ends = record {
  version = version;
  tables = tables;
  flights = map in_flight fs;
  lives = lives;
  answers = answers;
  files = files;
  held = held;
  verdict = verdict;
  line = line;
  said = said;
  is_beginning = is_beginning;
  words = words;
  told = told;
  printed = printed;
  ends = ends;
}
