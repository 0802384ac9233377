-- What becomes applied in a step.
use Rattle.std.specs.Prelude.{◌≡◌, ℕ, List, take, slice_range}
use Rattle.sqlchecks.specs.Columns as columns
use Rattle.sqlread.specs.Meaning.{language_of}
use Rattle.model.specs.declared.entry.Entry.{Entry}
use Rattle.model.specs.declared.entry.Told.{Told}
use Rattle.apply.specs.declared.tables.Tables.{Tables}
use Rattle.apply.specs.View.{AreTables}
use Rattle.node.specs.View.{told_between}

-- the entries after one index, up to another, are applied, with what is told of them and the tables that the log leaves up to there
pub record AreApplied (schema : columns.Tables) (log : List Entry) (before commit : ℕ) (es : List Entry) (ts : List Told) (tables : Tables) : Type 0 where
  pub entries : es ≡ slice_range log before commit
  pub told : ts ≡ told_between (language_of schema) log before commit
  pub current : AreTables schema (take commit log) tables

-- the tables are those of some list of entries
abbrev pub AreMade : columns.Tables → Tables → Type 0
AreMade schema tables = ∥ ((list : List Entry) × AreTables schema list tables) ∥₁
