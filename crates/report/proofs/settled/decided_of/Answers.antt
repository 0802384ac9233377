use Rattle.std.proofs.Common.{rules, ◌≡◌, ◌∙◌, [], map, ap, sym}
use Rattle.world.specs.Run.{events_of, tables_in}
use Rattle.world.specs.View.{event_of}
use Rattle.report.proofs.Same.{decided_none}
use Rattle.report.proofs.settled.decided_of.Goals as goal

pub loop-event-init : goal.loop-event-init
loop-event-init c =
    let w = c.in_ok-world.world in
    let none : events_of w ≡ [] = ap (map event_of) c.in_ok-world.ensures.nothing in
    let tables : tables_in w ≡ c.args.schema.now = search rules in
    record {
      live = c.in_ok-world.ensures.live;
      members = c.in_ok-world.ensures.members;
      tables = tables;
      events = none;
      list = c.new-list.ensures.items ∙ sym (decided_none w none);
    }
