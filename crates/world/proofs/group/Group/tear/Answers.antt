use Rattle.model.specs.Worlds.{tears}
use Rattle.std.proofs.Common.{◌∙◌, ap, sym, arith}
use Rattle.std.proofs.lemmas.Result.{IfOk-weaker}
use Rattle.sqlread.specs.Meaning.{language_of}
use Rattle.world.specs.View.{world_of}
use Rattle.world.proofs.Placing.{IsPlaced, group_after, here, same_world, seat, world_after}
use Rattle.world.proofs.Restarts.{after_tear}
use Rattle.world.proofs.group.Group.tear.Goals as goal

pub returns-in-Some-2-clause-group : goal.returns-in-Some-2-clause-group
returns-in-Some-2-clause-group c =
    let self = c.args.self.now in
    let s = c.index_mut.result.now in
    let v = c.tear.new.self in
    let placed : IsPlaced self.schema self.members self.seats.items c.args.member c.in-Some.place s = record { next = c.in-Some.ensures.0; within = omega (arith, self.seats.ok.0, c.in-Some.ensures.1); at = c.index_mut.ensures.value; group = c.requires.group } in
    IfOk-weaker c.tear.result _ _ (λ _ h. group_after placed v (h self.schema self.members c.args.member (seat placed))) c.tear.ensures.seat

pub returns-in-Some-2-clause-world : goal.returns-in-Some-2-clause-world
returns-in-Some-2-clause-world c =
    let self = c.args.self.now in
    let s = c.index_mut.result.now in
    let v = c.tear.new.self in
    let placed : IsPlaced self.schema self.members self.seats.items c.args.member c.in-Some.place s = record { next = c.in-Some.ensures.0; within = omega (arith, self.seats.ok.0, c.in-Some.ensures.1); at = c.index_mut.ensures.value; group = c.requires.group } in
    let sits = seat placed in
    let work = rw c.in-Some-2.is at c.in_ok-work.ensures in
    IfOk-weaker c.tear.result _ _ (λ _ e. after_tear self.schema self.members (world_of self) _ c.args.member s v c.in-Some-2.work c.args.job.now c.args.left
    (world_after placed self.sent.items v)
    (same_world placed self.sent.items v)
    work.0 work.1 (e self.schema self.members c.args.member sits)
    ∙ sym (ap (tears (language_of self.schema) self.members (world_of self) c.args.member c.args.job.now c.args.left) (here placed))) c.tear.ensures.node
