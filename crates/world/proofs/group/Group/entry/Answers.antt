use Rattle.std.proofs.Common.{◌∙◌, ap, sym, arith}
use Rattle.std.proofs.lemmas.Result.{IfOk-weaker}
use Rattle.world.specs.View.{entry_in, if_up, node_in}
use Rattle.world.proofs.Placing.{IsPlaced, group_after, here, is_down, same_world, seat}
use Rattle.world.proofs.group.Group.entry.Goals as goal

pub returns-clause-found : goal.returns-clause-found
returns-clause-found c =
    let self = c.args.self.now in
    let s = c.index_mut.result.now in
    let placed : IsPlaced self.schema self.members self.seats.items c.args.member c.in-Some.place c.index_mut.result.now = record { next = c.in-Some.ensures.0; within = omega (arith, self.seats.ok.0, c.in-Some.ensures.1); at = c.index_mut.ensures.value; group = c.requires.group } in
    let sits = seat placed in
    IfOk-weaker c.entry.result _ _ (λ found e. e self.schema self.members c.args.member sits ∙ sym (ap (entry_in c.args.index) (here placed))) c.entry.ensures.found

pub returns-clause-group : goal.returns-clause-group
returns-clause-group c =
    let self = c.args.self.now in
    let s = c.index_mut.result.now in
    let placed : IsPlaced self.schema self.members self.seats.items c.args.member c.in-Some.place c.index_mut.result.now = record { next = c.in-Some.ensures.0; within = omega (arith, self.seats.ok.0, c.in-Some.ensures.1); at = c.index_mut.ensures.value; group = c.requires.group } in
    let sits = seat placed in
    IfOk-weaker c.entry.result _ _ (λ _ e. group_after placed c.entry.new.self (e self.schema self.members c.args.member sits)) c.entry.ensures.seat

pub returns-clause-world : goal.returns-clause-world
returns-clause-world c =
    let self = c.args.self.now in
    let placed : IsPlaced self.schema self.members self.seats.items c.args.member c.in-Some.place c.index_mut.result.now = record { next = c.in-Some.ensures.0; within = omega (arith, self.seats.ok.0, c.in-Some.ensures.1); at = c.index_mut.ensures.value; group = c.requires.group } in
    same_world placed self.sent.items c.entry.new.self c.entry.ensures.same

pub returns-clause-down : goal.returns-clause-down
returns-clause-down c none =
    let self = c.args.self.now in
    let s = c.index_mut.result.now in
    let placed : IsPlaced self.schema self.members self.seats.items c.args.member c.in-Some.place s = record { next = c.in-Some.ensures.0; within = omega (arith, self.seats.ok.0, c.in-Some.ensures.1); at = c.index_mut.ensures.value; group = c.requires.group } in
    c.entry.ensures.down (is_down (node_in s) (sym (ap if_up (here placed)) ∙ none))
