use Rattle.std.proofs.Common.{rules, ◌≡◌, ◌∙◌, Some, ap, FitsSigned, w64}
use Rattle.std.proofs.lemmas.Int.{to_z-of_z}
use Rattle.node.specs.Work.{Delivered}
use Rattle.std.proofs.lemmas.Result.{IfOk-weaker}
use Rattle.model.specs.Lists.{nth}
use Rattle.world.specs.View.{brings, brought, world_of}
use Rattle.world.proofs.Bringing.{delivered, delivered_gives}
use Rattle.world.proofs.group.Group.deliver.Goals as goal

pub returns-in-Some-clause-world : goal.returns-in-Some-clause-world
returns-in-Some-clause-world c =
    let old = c.args.self.now in
    let w = world_of old in
    let to = c.in-Some.message.addressee in
    let fits : FitsSigned w64 c.args.reading = search rules in
    let read = to_z-of_z w64 c.args.reading fits in
    let sent : nth old.sent.items c.args.number ≡ Some c.in-Some.message = search rules in
    IfOk-weaker c.bring.result _ _ (λ _ e. e ∙ ap (λ r. brings old.schema old.members w to (Delivered r c.in-Some.message) (nth w.nodes to)) read ∙ delivered old.schema old.members c.args.number c.args.reading w c.in-Some.message sent) c.bring.ensures.world

pub returns-in-Some-clause-gives : goal.returns-in-Some-clause-gives
returns-in-Some-clause-gives c =
    let old = c.args.self.now in
    let w = world_of old in
    let to = c.in-Some.message.addressee in
    let fits : FitsSigned w64 c.args.reading = search rules in
    let read = to_z-of_z w64 c.args.reading fits in
    let sent : nth old.sent.items c.args.number ≡ Some c.in-Some.message = search rules in
    IfOk-weaker c.bring.result _ _ (λ outs e. (e ∙ ap (λ r. brought old.schema old.members w to (Delivered r c.in-Some.message) (nth w.nodes to)) read ∙ delivered_gives old.schema old.members c.args.number c.args.reading w c.in-Some.message sent)) c.bring.ensures.gives
