-- Texts in which nothing can be refused before they are played.
use Rattle.std.specs.Prelude.{◌≡◌, ℕ, Bool, true, List, is_ok, Ok}
use Rattle.std.specs.List.{list_all}
use Rattle.std.specs.Str.{IsUtf8}
use Rattle.sqlchecks.specs.Columns.{Tables}
use Rattle.schemaread.specs.Schemas.{SchemaSays}
use Rattle.sqlread.specs.Texts.{transaction_in, query_in}
use Rattle.lines.specs.declared.line.TornJob.TheVariants as jobs
use Rattle.lines.specs.declared.line.Line.{Line}
use Rattle.lines.specs.declared.line.Line.TheVariants.{Submit, Torn, Ask}
use Rattle.lines.specs.Script.{HasLines}
use Rattle.diagnosis.specs.declared.files.Subject.{Subject}
use Rattle.diagnosis.specs.declared.files.Subject.TheVariants.{Script, Schema}

-- the text of the line's request or question says one over these tables, where it has such a text
abbrev pub reads : Tables → Line → Bool
reads tables (Submit node client number text) = is_ok (transaction_in tables text)
reads tables (Torn node left (jobs.Submit client number text)) = is_ok (transaction_in tables text)
reads tables (Ask node text) = is_ok (query_in tables text)
reads tables line = true

-- a script all of whose requests and questions read
pub record IsFaultlessScript (text : List ℕ) : Type 0 where
  pub members : ℕ
  pub schema : Tables
  pub lines : List Line
  pub has : HasLines text members schema lines
  pub texts : list_all (reads schema) lines ≡ true

-- a text that says a schema
abbrev pub IsFaultlessSchema : List ℕ → Type 0
IsFaultlessSchema text = (schema : Tables) × SchemaSays text (Ok schema)

-- bytes that are a text in which nothing can be refused before it is played
abbrev pub IsFaultless : Subject → List ℕ → Type 0
IsFaultless Script bytes = IsUtf8 bytes × IsFaultlessScript bytes
IsFaultless Schema bytes = IsUtf8 bytes × IsFaultlessSchema bytes

-- a text that is no script
abbrev pub IsNoScript : List ℕ → Type 0
IsNoScript text = (members : ℕ) (schema : Tables) (lines : List Line) → ¬ HasLines text members schema lines
