use Rattle.std.proofs.Common.{◌∙◌, ap, sym, subst, arith}
use Rattle.std.proofs.lemmas.Result.{IfOk-weaker}
use Rattle.model.specs.Worlds.{starts}
use Rattle.sqlchecks.specs.Columns.{Tables}
use Rattle.world.specs.View.{world_of, IsSeat}
use Rattle.world.proofs.Placing.{IsPlaced, group_after, here, same_world, seat, world_after}
use Rattle.world.proofs.Restarts.{after_start}
use Rattle.world.proofs.group.Group.start.Goals as goal

pub start-requires-clause-seat : goal.start-requires-clause-seat
start-requires-clause-seat c =
    let self = c.args.self.now in
    let s = c.index_mut.result.now in
    let placed : IsPlaced self.schema self.members self.seats.items c.args.member c.in-Some.place s = record { next = c.in-Some.ensures.0; within = omega (arith, self.seats.ok.0, c.in-Some.ensures.1); at = c.index_mut.ensures.value; group = c.requires.group } in
    let P : Tables → Type 0 = λ t. IsSeat t self.members c.args.member s in
    subst P (sym c.in_ok-schema.ensures.cases) (seat placed)

pub returns-clause-group : goal.returns-clause-group
returns-clause-group c =
    let self = c.args.self.now in
    let placed : IsPlaced self.schema self.members self.seats.items c.args.member c.in-Some.place c.index_mut.result.now = record { next = c.in-Some.ensures.0; within = omega (arith, self.seats.ok.0, c.in-Some.ensures.1); at = c.index_mut.ensures.value; group = c.requires.group } in
    let P : Tables → Type 0 = λ t. IsSeat t self.members c.args.member c.start.new.self in
    IfOk-weaker c.start.result _ _ (λ _ sits. group_after placed c.start.new.self (subst P c.in_ok-schema.ensures.cases sits)) c.start.ensures.seat

pub returns-clause-world : goal.returns-clause-world
returns-clause-world c =
    let self = c.args.self.now in
    let s = c.index_mut.result.now in
    let v = c.start.new.self in
    let placed : IsPlaced self.schema self.members self.seats.items c.args.member c.in-Some.place c.index_mut.result.now = record { next = c.in-Some.ensures.0; within = omega (arith, self.seats.ok.0, c.in-Some.ensures.1); at = c.index_mut.ensures.value; group = c.requires.group } in
    IfOk-weaker c.start.result _ _ (λ _ e. after_start (world_of self) _ c.args.member s v
    (world_after placed self.sent.items v)
    (same_world placed self.sent.items v)
    e
    ∙ sym (ap (starts (world_of self) c.args.member) (here placed))) c.start.ensures.node
