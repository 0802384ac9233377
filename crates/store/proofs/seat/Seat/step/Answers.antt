use Rattle.std.proofs.Common.{◌≡◌, ◌∙◌, true, Some, ap, rules, subst, sym}
use Rattle.node.specs.View.{durable_of}
use Rattle.store.specs.Announcing.{HasContinued}
use Rattle.store.specs.Nodes.{IsNodeOf}
use Rattle.store.proofs.Stepping.{at_some, member_up}
use Rattle.store.proofs.Continuing.{kept_same}
use Rattle.store.proofs.seat.Seat.step.Goals as goal

pub returns-in_default-clause-continues : goal.returns-in_default-clause-continues
returns-in_default-clause-continues g c = (kept_same g.K.Journal.Device.contents (Some c.args.scribe), λ none clean tables n m x y was is steps. ap durable_of steps.0)

pub returns-then-not-node-clause-continues : goal.returns-then-not-node-clause-continues
returns-then-not-node-clause-continues g c = (kept_same g.K.Journal.Device.contents (Some c.args.scribe), λ none clean tables n m x y was is steps. ap durable_of steps.0)

pub returns-in-Some-voice-clause-continues : goal.returns-in-Some-voice-clause-continues
returns-in-Some-voice-clause-continues g c =
    let held = g.K.LogReader.may_hold in
    let node = c.in-Some.node in
    let went = subst (HasContinued g.K.Journal.Device.contents c.args.scribe _) c.in-Some-voice.is c.step_with-voice.ensures.continues in
    let up : node.is_up ≡ true = search rules in
    let some : c.args.self.now.node ≡ Some node = search rules in (
      went.0,
      λ none clean tables n m x y was is steps.
          let there : IsNodeOf held tables n m node x = at_some c.args.self.now.node node _ (λ k. IsNodeOf held tables n m k x) some was.1 in
          went.1 none clean y is.1.is ∙ ap durable_of (sym (member_up held node x up there.is)),
    )
