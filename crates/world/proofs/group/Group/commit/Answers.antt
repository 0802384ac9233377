use Rattle.std.proofs.Common.{◌∙◌, ap, sym, arith}
use Rattle.world.specs.View.{commit_in}
use Rattle.world.proofs.Placing.{IsPlaced, here, seat}
use Rattle.world.proofs.group.Group.commit.Goals as goal

pub returns : goal.returns
returns c =
    let self = c.args.self.now in
    let placed : IsPlaced self.schema self.members self.seats.items c.args.member c.in-Some.place c.index.result.now = record { next = c.in-Some.ensures.0; within = omega (arith, self.seats.ok.0, c.in-Some.ensures.1); at = c.index.ensures; group = c.requires } in
    c.commit.ensures _ _ _ (seat placed)
    ∙ sym (ap commit_in (here placed))
