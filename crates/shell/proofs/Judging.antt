-- Lemmas on what is audited.
use Rattle.std.proofs.Common.{◌≡◌, ◌≤◌, ◌∙◌, ℕ, inl, inr, List, [], length, get_or, map, ap, sym, arith}
use Rattle.std.specs.Prelude.{Result, Ok, Err, IfErr, IfOk, ◌⊎◌, string_bytes}
use Rattle.std.specs.declared.vec.Vec.{Vec}
use Rattle.std.specs.declared.string.String.{String}
use Rattle.std.specs.declared.alloc.Global.{Global}
use Rattle.std.proofs.lemmas.List.{length-map}
use Rattle.fault.specs.declared.refusal.Refusal.{Refusal}
use Rattle.fault.specs.declared.refusal.Refusal.TheVariants.{NoMemory, BadFlight}
use Rattle.flight.specs.Contents.{FlightContents, in_life}
use Rattle.flight.specs.Ranges.{IsFlight}
use Rattle.flight.specs.declared.flight.Answered.{Answered}
use Rattle.flight.specs.declared.flight.Version.{Version}
use Rattle.flight.specs.declared.flight.Version.TheVariants.{Two}
use Rattle.flight.specs.declared.life.Life.{Life}
use Rattle.sqlchecks.specs.Columns.{Tables}
use Rattle.shell.specs.Audit.{evidence_of, IsJudged, IsSaid}
use Rattle.shell.specs.Group.{IsNoGroup, IsRunIn}

-- flight files that were read are of 3 to 7 nodes
pub run_size : (texts : List (List ℕ)) (version : Version) (tables : Tables) (lives : List (Vec Life Global)) (answers : List (Vec Answered Global)) → IsRunIn texts version tables lives answers
    → (3 ≤ length lives) × (length lives ≤ 7)
run_size texts version tables lives answers (flights, are, held) =
    let many : length lives ≡ length flights = sym (length-map lives (λ (own : Vec Life Global). map in_life own.items)) ∙ (ap length held.lived ∙ length-map flights (λ (f : FlightContents). f.lives)) in
    let blank : FlightContents = record { version = Two; node = 0; members = 0; schema = []; lives = []; answers = [] } in
    let least : 3 ≤ length flights = are.least in
    let first : IsFlight (get_or flights 0 blank) × ((get_or flights 0 blank).version ≡ version) × ((get_or flights 0 blank).members ≡ length flights) × ((get_or flights 0 blank).schema ≡ are.schema) = are.each 0 blank (omega (arith, least)) in
    let most : (get_or flights 0 blank).members ≤ 7 = first.0.0.1 in
    (omega (arith, many, least), omega (arith, many, most, first.2))

pub never_another_group : {T : Type 0} (r : Result T Refusal) (texts : List (List ℕ)) (version : Version) (tables : Tables) (lives : List (Vec Life Global)) (answers : List (Vec Answered Global)) → IsRunIn texts version tables lives answers
    → IfErr r (λ refusal. (refusal ≡ NoMemory) ⊎ ((refusal ≡ BadFlight) × (3 ≤ length lives → length lives ≤ 7 → ⊥)))
    → IfErr r (λ refusal. (refusal ≡ NoMemory) ⊎ ((refusal ≡ BadFlight) × IsNoGroup texts))
never_another_group (Ok v) texts version tables lives answers run said = said
never_another_group (Err e) texts version tables lives answers run (inl h) = inl h
never_another_group (Err e) texts version tables lives answers run (inr (h, none)) =
    let size : (3 ≤ length lives) × (length lives ≤ 7) = run_size texts version tables lives answers run in
    absurd (none size.0 size.1)

-- ---- what is said

pub judged_said : {E : Type 0} (r : Result (ℕ × String Global) E) (texts : List (List ℕ)) (version : Version) (tables : Tables) (lives : List (Vec Life Global)) (answers : List (Vec Answered Global))
    → IsRunIn texts version tables lives answers → IfOk r (λ said. IsSaid (evidence_of version tables lives answers) said.0 (string_bytes said.1)) → IfOk r (λ said. IsJudged texts said.0 (string_bytes said.1))
judged_said (Ok said) texts version tables lives answers run h = record { version = version; tables = tables; lives = lives; answers = answers; run = run; said = h }
judged_said (Err e) texts version tables lives answers run h = h
