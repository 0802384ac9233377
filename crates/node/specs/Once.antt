-- Facts with one proof at most, so that a node can keep them.
use Rattle.std.specs.Prelude.{List}
use Rattle.std.proofs.Props.{props}
use mathlib.Core.HLevel.{Unit-prop}
use Rattle.keep.specs.Durable.{Durable}
use Rattle.raft.specs.declared.state.Core.{Core}
use Rattle.raft.specs.View.{IsInStep}
use Rattle.sqlchecks.specs.Columns as columns
use Rattle.model.specs.declared.entry.Entry.{Entry}
use Rattle.model.specs.declared.entry.Told.{Told}
use Rattle.apply.specs.declared.tables.Tables.{Tables}
use Rattle.node.specs.Recall.{AreNoted, IsPast}
use Rattle.node.specs.declared.recall.Notes.{Notes}
use Rattle.node.specs.declared.recall.Notes.TheVariants.{Off, Before, All}
-- that tables are those of a list of entries
pub use Rattle.apply.specs.Once.{tables_prop}

-- that what is stored is what a core has
pub step_prop : (c : Core) (d : Durable) → IsProp (IsInStep c d)
step_prop c d = hlevel props

-- that this is what was applied
pub past_prop : (schema : columns.Tables) (es : List Entry) (ts : List Told) (tables : Tables) → IsProp (IsPast schema es ts tables)
past_prop schema es ts tables = hlevel (props, tables_prop)

-- that what is noted is what was applied
pub noted_prop : (schema : columns.Tables) (tables : Tables) (notes : Notes) → IsProp (AreNoted schema tables notes)
noted_prop schema tables Off = Unit-prop
noted_prop schema tables (Before b) = hlevel (props, past_prop, tables_prop)
noted_prop schema tables (All b) = past_prop schema b.value.entries.items b.value.told.items tables
