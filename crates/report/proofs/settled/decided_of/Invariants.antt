use Rattle.std.proofs.Common.{◌≡◌, map, take, false}
use Rattle.world.specs.Run.{events_of, members_in, tables_in}
use Rattle.world.specs.View.{event_of}
use Rattle.report.specs.Deciding.{decided_by}
use Rattle.report.proofs.settled.decided_of.Given as goal

abbrev pub invariant-loop-event : goal.invariant-loop-event
invariant-loop-event l = record {
  live : l.world.is_spent ≡ false;
  members : members_in l.world ≡ l.members;
  tables : tables_in l.world ≡ l.schema;
  events : events_of l.world ≡ map event_of (take l.event-index l.events);
  list : l.list.items ≡ decided_by l.world;
}
