use Rattle.std.proofs.Common.{rules, ◌≡◌, Some, None, false, refl, sym, subst}
use Rattle.model.specs.Members.{Node as TheNode}
use Rattle.model.specs.Worlds.{started}
use Rattle.keep.specs.Durable.{Durable}
use Rattle.node.specs.Member.{member_of}
use Rattle.node.specs.View.{durable_of}
use Rattle.store.specs.Nodes.{IsNodeOf, Rests}
use Rattle.store.specs.Seats.{HasMember, IsClean}
use Rattle.store.proofs.Stepping.{at_rest_there, at_some, rests_clean, started_there, to_some}
use Rattle.store.proofs.seat.Seat.start.Goals as goal
use Rattle.store.proofs.seat.Seat.start.Goals.{in-Some-replace+in-Some-1, in-Some-replace+in-None-1, in_default-replace}

pub returns-after-replace-clause-starts : goal.returns-after-replace-clause-starts
returns-after-replace-clause-starts g c = λ nowhere.
    let seat = c.args.self.now in
    let none : seat.node ≡ None = search rules in
    let some : seat.image ≡ Some c.in-Some.image = search rules in
    elim c.match-replace.branch [
      | in-Some-replace+in-Some-1 w ↦ absurd (cc (c.replace.ensures.value, none))
      | in-Some-replace+in-None-1 w ↦ absurd (cc (c.replace.ensures.value, none))
      | in_default-replace w ↦ subst
          (λ t. IsClean g.K.LogReader.is_honest g.K.Keeper.holds t → (x : TheNode) → HasMember g.K.LogReader.may_hold g.K.Keeper.holds c.args.schema c.args.members seat.member seat x →
          (x.up ≡ false) × HasMember g.K.LogReader.may_hold g.K.Keeper.holds c.args.schema c.args.members seat.member t (started x))
          (sym w.self-is)
          (λ honest x has.
          let now = c.replace.ensures.after in
          let clean = at_some c.replace.new.self c.in-Ok.node _ (λ node. g.K.LogReader.is_honest node.keeper) now honest in
          let rests : Rests (g.K.Keeper.holds c.in-Some.image) x = at_rest_there seat.node seat.image c.in-Some.image _ (λ image. Rests (g.K.Keeper.holds image) x) _ none some has.1 in
          let s = started_there g.K.LogReader.may_hold (g.K.Keeper.holds c.in-Some.image) c.args.schema c.args.members seat.member c.in-Ok.node x rests (c.in-Ok.ensures.found clean) (c.in-Ok.ensures.opened clean) c.in-Ok.ensures.up c.in-Ok.ensures.group.0 c.in-Ok.ensures.group.1 c.in-Ok.ensures.group.2 in
          (s.0, (refl, to_some c.replace.new.self c.in-Ok.node _ (λ node. IsNodeOf g.K.LogReader.may_hold c.args.schema c.args.members seat.member node (started x)) now s.1)))
    ]

pub returns-after-replace-clause-clean : goal.returns-after-replace-clause-clean
returns-after-replace-clause-clean g c =
    let seat = c.args.self.now in
    let none : seat.node ≡ None = search rules in
    let some : seat.image ≡ Some c.in-Some.image = search rules in
    let honest = g.K.LogReader.is_honest in
    let holds = g.K.Keeper.holds in
    elim c.match-replace.branch [
      | in-Some-replace+in-Some-1 w ↦ absurd (cc (c.replace.ensures.value, none))
      | in-Some-replace+in-None-1 w ↦ absurd (cc (c.replace.ensures.value, none))
      | in_default-replace w ↦ subst (λ t. IsClean honest holds t → IsClean honest holds seat) (sym w.self-is)
          (λ clean.
          let kept = at_some c.replace.new.self c.in-Ok.node _ (λ node. honest node.keeper) c.replace.ensures.after clean in
          rests_clean seat.node seat.image c.in-Some.image (λ image. (stored : Durable) × holds image stored) (λ node. honest node.keeper) none some (durable_of (member_of c.in-Ok.node), c.in-Ok.ensures.found kept))
    ]
