-- What is owed before a change of a member is stored.
use Rattle.std.specs.Prelude.{Option}
use Rattle.sqlread.specs.Meaning.{language_of}
use Rattle.keep.specs.Durable.{Durable}
use Rattle.keep.specs.Log.{IsLog}
use Rattle.keep.specs.declared.change.Change.{Change}
use Rattle.raft.specs.declared.state.Core.{Core}
use Rattle.raft.specs.View.{IsInStep, after_change}
use Rattle.node.specs.View.{Fits}

-- the change keeps no more than is stored, and what it makes of that forms a log, and is what the core has
pub record IsDue (c : Core) (change : Option Change) (d : Durable) : Type 0 where
  pub fits : Fits change d
  pub forms : IsLog c.members (language_of c.schema) (after_change change d)
  pub step : IsInStep c (after_change change d)
