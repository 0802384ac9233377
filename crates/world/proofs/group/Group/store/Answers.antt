use Rattle.std.proofs.Common.{◌∙◌, ap, arith, subst, sym, []}
use Rattle.keep.specs.Durable.{stored_in}
use Rattle.model.specs.Members.{Node}
use Rattle.model.specs.Worlds.{with_node}
use Rattle.world.specs.View.{at_rest, node_in, world_of, IsSeat}
use Rattle.world.specs.declared.seat.Seat.{Seat}
use Rattle.world.proofs.Placing.{IsPlaced, group_after, nobody_stores, rests, world_after}
use Rattle.world.proofs.group.Group.store.Goals as goal

pub returns-in_default-clause-world : goal.returns-in_default-clause-world
returns-in_default-clause-world c =
    let self = c.args.self.now in
    nobody_stores self.seats.items self.sent.items c.args.member (at_rest (stored_in c.args.image)) c.in_default.ensures

pub returns-clause-group : goal.returns-clause-group
returns-clause-group c =
    let self = c.args.self.now in
    let v : Seat = c.put_down.new.self in
    let placed : IsPlaced self.schema self.members self.seats.items c.args.member c.in-Some.place c.index_mut.result.now = record { next = c.in-Some.ensures.0; within = omega (arith, self.seats.ok.0, c.in-Some.ensures.1); at = c.index_mut.ensures.value; group = c.requires.group } in
    let P : Seat → Type 0 = λ s. IsSeat self.schema self.members c.args.member s in
    group_after placed v (subst P (sym c.put_down.ensures) (rests self.schema self.members c.args.member c.args.image c.requires.forms))

pub returns-clause-world : goal.returns-clause-world
returns-clause-world c =
    let self = c.args.self.now in
    let v : Seat = c.put_down.new.self in
    let placed : IsPlaced self.schema self.members self.seats.items c.args.member c.in-Some.place c.index_mut.result.now = record { next = c.in-Some.ensures.0; within = omega (arith, self.seats.ok.0, c.in-Some.ensures.1); at = c.index_mut.ensures.value; group = c.requires.group } in
    world_after placed self.sent.items v ∙ ap (λ (y : Node). with_node (world_of self) c.args.member y []) (ap node_in c.put_down.ensures)
