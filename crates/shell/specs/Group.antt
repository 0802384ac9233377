-- What the flight files of a group are, and what these flights hold.
use Rattle.std.specs.Prelude.{◌≡◌, ◌≤◌, ◌<◌, ◌+◌, ℕ, List, Ok, IsPermutation, length, map, slice_index_or}
use Rattle.std.specs.List.{All}
use Rattle.std.specs.declared.vec.Vec.{Vec}
use Rattle.std.specs.declared.alloc.Global.{Global}
use Rattle.flight.specs.Contents.{FlightContents, in_life}
use Rattle.flight.specs.Ranges.{IsFlight}
use Rattle.flight.specs.Spelling.{flight_text}
use Rattle.flight.specs.declared.flight.Answered.{Answered}
use Rattle.flight.specs.declared.flight.Version.{Version}
use Rattle.flight.specs.declared.life.Life.{Life}
use Rattle.schemaread.specs.Schemas.{SchemaSays}
use Rattle.sqlchecks.specs.Columns.{Tables}

-- The texts are the files of these flights, in some order: the flights are those of a group of 3 to 7 nodes, one of each node in
-- turn, and all are of this version and have one schema, which declares these tables.
pub record AreFilesOf (texts : List (List ℕ)) (version : Version) (tables : Tables) (flights : List FlightContents) : Type 0 where
  pub least : 3 ≤ length flights
  pub schema : List ℕ
  pub declares : SchemaSays schema (Ok tables)
  pub each : All (λ f. IsFlight f × (f.version ≡ version) × (f.members ≡ length flights) × (f.schema ≡ schema)) flights
  pub nodes : (k : ℕ) (d : FlightContents) → k < length flights → (slice_index_or flights k d).node ≡ k + 1
  pub files : IsPermutation texts (map flight_text flights)

-- the texts are not the flight files of a group
abbrev pub IsNoGroup : List (List ℕ) → Type 0
IsNoGroup texts = (version : Version) (tables : Tables) (flights : List FlightContents) → AreFilesOf texts version tables flights → ⊥

-- node by node, these are the lives and the answers that the flights hold
pub record AreHeld (flights : List FlightContents) (lives : List (Vec Life Global)) (answers : List (Vec Answered Global)) : Type 0 where
  pub lived : map (λ (own : Vec Life Global). map in_life own.items) lives ≡ map (λ f. f.lives) flights
  pub answered : map (λ (own : Vec Answered Global). own.items) answers ≡ map (λ f. f.answers) flights

-- the texts are the flight files of a group with these tables, in this version, and the flights hold these lives and answers
abbrev pub IsRunIn : List (List ℕ) → Version → Tables → List (Vec Life Global) → List (Vec Answered Global) → Type 0
IsRunIn texts version tables lives answers = (flights : List FlightContents) × AreFilesOf texts version tables flights × AreHeld flights lives answers
