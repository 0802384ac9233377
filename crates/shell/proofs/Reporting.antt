-- Lemmas on a report of flights.
use Rattle.std.proofs.Common.{◌≡◌, ◌∙◌, ◌++◌, ℕ, List, map, ap, sym, append_assoc, codes}
use Rattle.std.specs.Prelude.{Result, Ok, Err, IfOk, Option, string_bytes}
use Rattle.std.specs.declared.string.String.{String}
use Rattle.std.specs.declared.vec.Vec.{Vec}
use Rattle.std.specs.declared.alloc.Global.{Global}
use Rattle.std.proofs.lemmas.Simd.{map-map}
use Rattle.beginnings.specs.Beginnings.{beginning_of}
use Rattle.fault.specs.declared.refusal.Refusal.{Refusal}
use Rattle.flight.specs.Contents.{in_flight}
use Rattle.flight.specs.declared.flight.Flight.{Flight}
use Rattle.flight.specs.declared.flight.Answered.{Answered}
use Rattle.flight.specs.declared.flight.Version.{Version}
use Rattle.flight.specs.declared.life.Life.{Life}
use Rattle.moments.specs.declared.recorded.AuditFault.{AuditFault}
use Rattle.report.specs.Digests.{all_said}
use Rattle.report.specs.Whole.{held_of, seal_of, verdict_text}
use Rattle.report.specs.declared.whole.Contents.{Contents}
use Rattle.report.specs.declared.whole.Report.{Report}
use Rattle.sha2.specs.Sha256.{sha256}
use Rattle.sqlchecks.specs.Columns.{Tables}
use Rattle.shell.specs.Audit.{evidence_of}
use Rattle.shell.specs.Group.{AreFilesOf, AreHeld}
use Rattle.shell.specs.Reported.{IsReportOn, IsVerdict, verdict_line}

-- a line of the verdict, and what stands behind it
pub behind_line : {E : Type 0} (r : Result (String Global) E) (fault : Option AuditFault) (said page front kept : List ℕ) → IfOk r (λ s. string_bytes s ≡ codes "audit: " ++ (said ++ (codes "\n" ++ page))) → said ≡ verdict_text fault
    → page ≡ front ++ kept → IfOk r (λ s. (more : List ℕ) × (string_bytes s ≡ verdict_line fault ++ (more ++ kept)))
behind_line (Ok s) fault said page front kept h is ends =
    let moved : codes "audit: " ++ (verdict_text fault ++ (codes "\n" ++ page)) ≡ (codes "audit: " ++ (verdict_text fault ++ codes "\n")) ++ page =
    ap (λ t. codes "audit: " ++ t) (sym (append_assoc (verdict_text fault) (codes "\n") page)) ∙ sym (append_assoc (codes "audit: ") (verdict_text fault ++ codes "\n") page) in
    (front, h ∙ (ap (λ t. codes "audit: " ++ (t ++ (codes "\n" ++ page))) is ∙ (moved ∙ ap (λ t. verdict_line fault ++ t) ends)))
behind_line (Err e) fault said page front kept h is ends = h

-- a report on what was read of the flights of a group is one on their files
pub reported_on : (r : Result Report Refusal) (texts : List (List ℕ)) (version : Version) (tables : Tables) (fs : List Flight) (lives : List (Vec Life Global)) (answers : List (Vec Answered Global)) (contents : Contents)
    → AreFilesOf texts version tables (map in_flight fs) → AreHeld (map in_flight fs) lives answers
    → contents.nodes.items ≡ map (λ (f : Flight). held_of (in_flight f)) fs → contents.answers ≡ sha256 (all_said (map in_flight fs))
    → contents.beginnings.items ≡ map (λ (f : Flight). beginning_of (in_flight f)) fs
    → IfOk r (λ x. IsVerdict (evidence_of version tables lives answers) x.fault) → IfOk r (λ x. x.contents ≡ contents) → IfOk r (λ x. x.seal ≡ seal_of x.contents x.settled x.fault)
    → IfOk r (IsReportOn texts)
reported_on (Ok x) texts version tables fs lives answers contents files held nodes said kept verdict same seal = record {
  version = version;
  tables = tables;
  flights = map in_flight fs;
  lives = lives;
  answers = answers;
  files = files;
  held = held;
  verdict = verdict;
  nodes = ap (λ (c : Contents). c.nodes.items) same ∙ (nodes ∙ sym (map-map held_of in_flight fs));
  said = ap (λ (c : Contents). c.answers) same ∙ said;
  kept = ap (λ (c : Contents). c.beginnings.items) same ∙ (kept ∙ sym (map-map beginning_of in_flight fs));
  seal = seal;
}
reported_on (Err e) texts version tables fs lives answers contents files held nodes said kept verdict same seal = verdict
