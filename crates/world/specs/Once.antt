-- Facts with one proof at most, so that a world can keep them.
use Rattle.std.specs.Prelude.{List}
use Rattle.std.proofs.Props.{props}
use Rattle.sqlchecks.specs.Columns.{Tables}
use Rattle.node.specs.Once.{past_prop}
use Rattle.node.specs.Recall.{IsRecall}
use Rattle.node.specs.declared.recall.Recall.{Recall}
use Rattle.world.specs.declared.event.Event.{Event as Given}
use Rattle.world.specs.declared.group.Group.{Group}
use Rattle.world.specs.View.{IsRun}

pub recall_prop : (tables : Tables) (recall : Recall) → IsProp (IsRecall tables recall)
recall_prop tables recall = past_prop tables recall.applied.entries.items recall.applied.told.items recall.tables

-- that a group is what these events make of one
pub run_prop : (g : Group) (events : List Given) → IsProp (IsRun g events)
run_prop g events = hlevel (props, recall_prop)
