use Rattle.std.proofs.Common.{rules, ◌≡◌, ◌∙◌, ap}
use Rattle.node.specs.Work.{Local}
use Rattle.std.proofs.lemmas.Result.{IfOk-weaker}
use Rattle.model.specs.Lists.{nth}
use Rattle.world.specs.View.{brings, brought, world_of}
use Rattle.world.proofs.Bringing.{hands, hand_gives}
use Rattle.world.proofs.group.Group.hand.Goals as goal

pub returns-clause-world : goal.returns-clause-world
returns-clause-world c =
    let old = c.args.self.now in
    let w = world_of old in
    let m = c.args.member in
    let same : c.in_ok-clone.field-0 ≡ c.args.input.now = search rules in
    IfOk-weaker c.bring.result _ _ (λ _ e. e ∙ ap (λ i. brings old.schema old.members w m (Local i) (nth w.nodes m)) same ∙ hands old.schema old.members m w c.args.input.now (nth w.nodes m)) c.bring.ensures.world

pub returns-clause-gives : goal.returns-clause-gives
returns-clause-gives c =
    let old = c.args.self.now in
    let w = world_of old in
    let m = c.args.member in
    let same : c.in_ok-clone.field-0 ≡ c.args.input.now = search rules in
    IfOk-weaker c.bring.result _ _ (λ outs e. (e ∙ ap (λ i. brought old.schema old.members w m (Local i) (nth w.nodes m)) same ∙ hand_gives old.schema old.members m w c.args.input.now (nth w.nodes m))) c.bring.ensures.gives
