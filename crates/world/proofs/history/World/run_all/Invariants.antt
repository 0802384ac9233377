use Rattle.std.proofs.Common.{◌≡◌, ◌++◌, take, map, length, false}
use Rattle.believed.specs.Worlds.{GivesAll}
use Rattle.world.specs.Run.{language_in, tables_in, members_in, events_of, given_of, world_in}
use Rattle.world.specs.View.{event_of, outputs_of, EachShowsColumns}
use Rattle.world.proofs.history.World.run_all.Given as goal

abbrev pub invariant-loop-event : goal.invariant-loop-event
invariant-loop-event l = record {
  live : l.self.is_spent ≡ false;
  schema : l.self.group.schema ≡ l.initial.self.group.schema;
  members : l.self.group.members ≡ l.initial.self.group.members;
  kept : events_of l.self ≡ events_of l.initial.self ++ map event_of (take l.event-index l.events);
  gives : GivesAll (language_in l.initial.self) (members_in l.initial.self) (world_in l.initial.self) (map event_of (take l.event-index l.events)) (map (λ o. outputs_of o.items) l.outs.items);
  given : given_of l.self ≡ given_of l.initial.self ++ map (λ o. outputs_of o.items) l.outs.items;
  count : length l.outs.items ≡ l.event-index;
  columns : EachShowsColumns (tables_in l.initial.self) l.events l.outs.items;
}
