use Rattle.std.proofs.Common.{◌≡◌, map, take}
use Rattle.world.specs.View.{event_of}
use Rattle.moments.proofs.running.events_in.Given as goal

abbrev pub invariant-loop-event : goal.invariant-loop-event
invariant-loop-event l = map event_of l.events.items ≡ map event_of (take l.event-index l.world.kept.items)
