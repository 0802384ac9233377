use Rattle.std.proofs.Common.{◌∙◌, List, Result, slice_set, ap, subst, sym, arith}
use Rattle.std.proofs.lemmas.Result.{IfOk-weaker}
use Rattle.sqlread.specs.Meaning.{language_of}
use Rattle.world.specs.declared.seat.Seat.{Seat}
use Rattle.fault.specs.declared.refusal.Refusal.{Refusal}
use Rattle.node.specs.declared.node.Out.{Out}
use Rattle.world.specs.View.{node_in, nodes_of, outputs_of, works_at, IsGroup, IsStep}
use Rattle.world.proofs.Placing.{IsPlaced, group_after, made_gives, made_world, refused_gives, refused_world, seat, world_with}
use Rattle.world.proofs.group.Group.bring.Goals as goal

pub returns-in-Ok-clause-group : goal.returns-in-Ok-clause-group
returns-in-Ok-clause-group c =
    let self = c.args.self.now in
    let s = c.index_mut.result.now in
    let v = c.step.new.self in
    let placed : IsPlaced self.schema self.members self.seats.items c.args.member c.in-Some.place s = record { next = c.in-Some.ensures.0; within = omega (arith, self.seats.ok.0, c.in-Some.ensures.1); at = c.index_mut.ensures.value; group = c.requires.group } in
    let sits = seat placed in
    let seats = ap (λ g. g.seats.items) c.publish.ensures.same in
    let Q : List Seat → Type 0 = λ xs. IsGroup self.schema self.members xs in
    IfOk-weaker c.publish.result _ _ (λ _ _. subst Q (sym seats) (group_after placed v (c.in_ok-out.ensures.seat self.schema self.members c.args.member sits))) c.publish.ensures.sent

pub returns-in-Ok-clause-world : goal.returns-in-Ok-clause-world
returns-in-Ok-clause-world c =
    let self = c.args.self.now in
    let s = c.index_mut.result.now in
    let v = c.step.new.self in
    let placed : IsPlaced self.schema self.members self.seats.items c.args.member c.in-Some.place s = record { next = c.in-Some.ensures.0; within = omega (arith, self.seats.ok.0, c.in-Some.ensures.1); at = c.index_mut.ensures.value; group = c.requires.group } in
    let sits = seat placed in
    let P : Result Out Refusal → Type 0 = λ x. IsStep (language_of self.schema) c.args.member (node_in s) (node_in v) (works_at self.schema self.members c.args.member c.args.work (node_in s)) x in
    let step = subst P c.in-Ok.is (c.in_ok-out.ensures.step self.schema self.members c.args.member sits) in
    let seats = ap (λ g. g.seats.items) c.publish.ensures.same in
    IfOk-weaker c.publish.result _ _ (λ _ e. ap (λ xs. world_with (nodes_of xs) c.publish.new.self.sent.items) seats ∙ ap (world_with (nodes_of (slice_set self.seats.items c.in-Some.place v))) e ∙ made_world placed self.sent.items v c.args.work c.in-Ok.out step) c.publish.ensures.sent

pub returns-in-Ok-clause-gives : goal.returns-in-Ok-clause-gives
returns-in-Ok-clause-gives c =
    let self = c.args.self.now in
    let s = c.index_mut.result.now in
    let v = c.step.new.self in
    let placed : IsPlaced self.schema self.members self.seats.items c.args.member c.in-Some.place s = record { next = c.in-Some.ensures.0; within = omega (arith, self.seats.ok.0, c.in-Some.ensures.1); at = c.index_mut.ensures.value; group = c.requires.group } in
    let sits = seat placed in
    let P : Result Out Refusal → Type 0 = λ x. IsStep (language_of self.schema) c.args.member (node_in s) (node_in v) (works_at self.schema self.members c.args.member c.args.work (node_in s)) x in
    let step = subst P c.in-Ok.is (c.in_ok-out.ensures.step self.schema self.members c.args.member sits) in
    IfOk-weaker c.publish.result _ _ (λ _ e. e ∙ made_gives placed self.sent.items v c.args.work c.in-Ok.out step) c.publish.ensures.gives

pub returns-in-Err-clause-group : goal.returns-in-Err-clause-group
returns-in-Err-clause-group c =
    let self = c.args.self.now in
    let s = c.index_mut.result.now in
    let v = c.step.new.self in
    let placed : IsPlaced self.schema self.members self.seats.items c.args.member c.in-Some.place s = record { next = c.in-Some.ensures.0; within = omega (arith, self.seats.ok.0, c.in-Some.ensures.1); at = c.index_mut.ensures.value; group = c.requires.group } in
    let sits = seat placed in
    IfOk-weaker c.single.result _ _ (λ _ _. (group_after placed v (c.in_ok-out.ensures.seat self.schema self.members c.args.member sits))) c.single.ensures

pub returns-in-Err-clause-world : goal.returns-in-Err-clause-world
returns-in-Err-clause-world c =
    let self = c.args.self.now in
    let s = c.index_mut.result.now in
    let v = c.step.new.self in
    let placed : IsPlaced self.schema self.members self.seats.items c.args.member c.in-Some.place s = record { next = c.in-Some.ensures.0; within = omega (arith, self.seats.ok.0, c.in-Some.ensures.1); at = c.index_mut.ensures.value; group = c.requires.group } in
    let sits = seat placed in
    let P : Result Out Refusal → Type 0 = λ x. IsStep (language_of self.schema) c.args.member (node_in s) (node_in v) (works_at self.schema self.members c.args.member c.args.work (node_in s)) x in
    let step = subst P c.in-Err.is (c.in_ok-out.ensures.step self.schema self.members c.args.member sits) in
    IfOk-weaker c.single.result _ _ (λ _ _. refused_world placed self.sent.items v c.args.work c.in-Err.refusal step) c.single.ensures

pub returns-in-Err-clause-gives : goal.returns-in-Err-clause-gives
returns-in-Err-clause-gives c =
    let self = c.args.self.now in
    let s = c.index_mut.result.now in
    let v = c.step.new.self in
    let placed : IsPlaced self.schema self.members self.seats.items c.args.member c.in-Some.place s = record { next = c.in-Some.ensures.0; within = omega (arith, self.seats.ok.0, c.in-Some.ensures.1); at = c.index_mut.ensures.value; group = c.requires.group } in
    let sits = seat placed in
    let P : Result Out Refusal → Type 0 = λ x. IsStep (language_of self.schema) c.args.member (node_in s) (node_in v) (works_at self.schema self.members c.args.member c.args.work (node_in s)) x in
    let step = subst P c.in-Err.is (c.in_ok-out.ensures.step self.schema self.members c.args.member sits) in
    IfOk-weaker c.single.result _ _ (λ _ e. ap outputs_of e ∙ refused_gives placed self.sent.items v c.args.work c.in-Err.refusal step) c.single.ensures
