-- What the flight files of a group hold, node by node.
use Rattle.std.specs.Prelude.{◌≡◌, true, ◌≤◌, ◌<◌, ◌+◌, ℕ, List, Ok, length, map, slice_index_or, string_bytes}
use Rattle.std.specs.List.{All, AllZip}
use Rattle.std.specs.declared.string.String.{String}
use Rattle.std.specs.declared.alloc.Global.{Global}
use Rattle.flight.specs.Contents.{in_flight}
use Rattle.flight.specs.declared.flight.Flight.{Flight}
use Rattle.flight.specs.declared.flight.Version.{Version}
use Rattle.flight.specs.Files.{IsFileOf}
use Rattle.moments.specs.Judged.{judged_from}
use Rattle.schemaread.specs.Schemas.{SchemaSays}
use Rattle.adopt.specs.Versions.{has_outcomes}
use Rattle.adopt.specs.declared.run.Run.{Run}

-- the text is the file of this flight
abbrev pub IsRead : String Global → Flight → Type 0
IsRead text f = IsFileOf (string_bytes text) (in_flight f)

-- they stand in the order of their nodes, from node 1 on
abbrev pub InOrder : List Flight → Type 0
InOrder flights = (k : ℕ) (d : Flight) → k < length flights → (slice_index_or flights k d).node ≡ k + 1

-- the flights are of a group of as many nodes, in order, of this version and with this schema
pub record AreGroup (flights : List Flight) (version : Version) (schema : List ℕ) : Type 0 where
  pub least : 3 ≤ length flights
  pub most : length flights ≤ 7
  pub alike : All (λ f. (f.version ≡ version) × (f.members ≡ length flights) × (f.schema ≡ schema)) flights
  pub nodes : InOrder flights

-- The texts are the files of flights, one of each node of a group in the order of nodes, and this is what they hold: the tables, which
-- the schema that all have declares, the lives and the answers. They are of version 2 or 3.
pub record IsRunOf (texts : List (String Global)) (run : Run) : Type 0 where
  pub flights : List Flight
  pub read : AllZip IsRead texts flights
  pub group : AreGroup flights run.version run.schema_text
  pub told : has_outcomes run.version ≡ true
  pub declares : SchemaSays run.schema_text (Ok run.schema)
  pub lives : run.lives.items ≡ map (λ f. f.lives) flights
  pub answers : run.answers.items ≡ judged_from 1 (map (λ f. f.answers) flights)
