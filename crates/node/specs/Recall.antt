-- What a member had applied when it went down, and what it notes of what it applies.
use Rattle.std.specs.Prelude.{◌≡◌, Option, Some, None, List, [], length}
use Rattle.sqlchecks.specs.Columns as columns
use Rattle.sqlread.specs.Meaning.{language_of}
use Rattle.model.specs.declared.entry.Entry.{Entry}
use Rattle.model.specs.declared.entry.Told.{Told}
use Rattle.apply.specs.declared.tables.Tables.{Tables}
use Rattle.apply.specs.View.{AreTables}
use Rattle.node.specs.View.{told_between}
use Rattle.node.specs.declared.recall.Applied.{Applied}
use Rattle.node.specs.declared.recall.Recall.{Recall}
use Rattle.node.specs.declared.recall.Notes.{Notes}
use Rattle.node.specs.declared.recall.Notes.TheVariants.{Off, Before, All}

-- the tables are those of these entries, and this is told of them
pub record IsPast (schema : columns.Tables) (es : List Entry) (ts : List Told) (tables : Tables) : Type 0 where
  pub told : ts ≡ told_between (language_of schema) es 0 (length es)
  pub current : AreTables schema es tables

-- so it is of what a member had applied
abbrev pub IsRecall : columns.Tables → Recall → Type 0
IsRecall schema r = IsPast schema r.applied.entries.items r.applied.told.items r.tables

-- and of what it has applied, where that is noted
abbrev pub IsNoted : columns.Tables → Option Applied → Tables → Type 0
IsNoted schema None tables = Unit {0}
IsNoted schema (Some a) tables = IsPast schema a.entries.items a.told.items tables

-- beside these tables
abbrev pub AreNoted : columns.Tables → Tables → Notes → Type 0
AreNoted schema tables Off = Unit {0}
AreNoted schema tables (Before b) = IsRecall schema b.value × AreTables schema [] tables
AreNoted schema tables (All b) = IsPast schema b.value.entries.items b.value.told.items tables
