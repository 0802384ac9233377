use Rattle.std.proofs.Common.{◌∙◌, ap, sym, arith}
use Rattle.model.specs.Worlds.{stops}
use Rattle.world.specs.View.{world_of}
use Rattle.world.proofs.Placing.{IsPlaced, group_after, here, same_world, seat, world_after}
use Rattle.world.proofs.Restarts.{after_stop}
use Rattle.world.proofs.group.Group.stop.Goals as goal

pub returns-clause-group : goal.returns-clause-group
returns-clause-group c =
    let self = c.args.self.now in
    let placed : IsPlaced self.schema self.members self.seats.items c.args.member c.in-Some.place c.index_mut.result.now = record { next = c.in-Some.ensures.0; within = omega (arith, self.seats.ok.0, c.in-Some.ensures.1); at = c.index_mut.ensures.value; group = c.requires.group } in
    group_after placed c.stop.new.self (c.stop.ensures.seat self.schema self.members c.args.member (seat placed))

pub returns-clause-world : goal.returns-clause-world
returns-clause-world c =
    let self = c.args.self.now in
    let s = c.index_mut.result.now in
    let v = c.stop.new.self in
    let placed : IsPlaced self.schema self.members self.seats.items c.args.member c.in-Some.place c.index_mut.result.now = record { next = c.in-Some.ensures.0; within = omega (arith, self.seats.ok.0, c.in-Some.ensures.1); at = c.index_mut.ensures.value; group = c.requires.group } in
    let sits = seat placed in
    after_stop (world_of self) _ c.args.member s v
    (world_after placed self.sent.items v)
    (same_world placed self.sent.items v)
    (c.stop.ensures.node self.schema self.members c.args.member sits)
    ∙ sym (ap (stops (world_of self) c.args.member) (here placed))
