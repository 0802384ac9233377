use Rattle.std.proofs.Math.Logic.{∥∥₁_elim}
use Rattle.std.proofs.Props.{props}
use Rattle.std.proofs.lemmas.Grind.{merely}
use Rattle.std.proofs.Common.{◌≡◌, ◌∙◌, Err, Some, refl, sym, ap, subst}
use Rattle.model.specs.Members as model
use Rattle.model.specs.Worlds.{stopped}
use Rattle.keep.specs.Durable.{Durable}
use Rattle.keep.specs.declared.error.StoreError.TheVariants.{StoreFault}
use Rattle.node.specs.declared.node.Fault.TheVariants.{Down}
use Rattle.node.specs.Member.{me_of, member_of, members_of, tables_of}
use Rattle.node.specs.View.{durable_of}
use Rattle.store.specs.Announcing.{HasContinued}
use Rattle.store.specs.Nodes.{StepsTo}
use Rattle.node.proofs.Starting.{stored_is}
use Rattle.store.proofs.Continuing.{continued_less}
use Rattle.store.proofs.Stepping.{came, given_back, lost, member_with, seen_down, what_rests, what_stays}
use Rattle.store.proofs.seat.step_with.Goals as goal

pub invariant_of-node-clause-serves : goal.invariant_of-node-clause-serves
invariant_of-node-clause-serves g c = ∥∥₁_elim c.args.node.now.serves (hlevel props) (λ serves. merely (c.lend.ensures.serves _ _ serves))

pub invariant_of-node-clause-current : goal.invariant_of-node-clause-current
invariant_of-node-clause-current g c = λ up honest. rw c.lend.ensures.stored (c.args.node.now.current up (c.lend.ensures.honest.0 honest))

pub invariant_of-node-2-clause-serves : goal.invariant_of-node-2-clause-serves
invariant_of-node-2-clause-serves g c = ∥∥₁_elim c.step-result.new.self.serves (hlevel props) (λ serves. merely (c.take_back.ensures.serves _ _ serves))

pub invariant_of-node-2-clause-current : goal.invariant_of-node-2-clause-current
invariant_of-node-2-clause-current g c = λ up honest. rw c.take_back.ensures.stored (c.step-result.new.self.current up (c.take_back.ensures.honest.0 honest))

pub returns-in-Some-clause-steps : goal.returns-in-Some-clause-steps
returns-in-Some-clause-steps g c = λ late.
    let reader = g.K.LogReader in
    let first = c.args.node.now in
    let stepped = c.step-result.new.self in
    let honest = c.take_back.ensures.honest.0 late in
    let lent = member_with first (reader.stored c.lend.new.self).log in
    let same : lent ≡ member_of first = ap (λ (d : Durable). member_with first d.log) c.lend.ensures.stored in
    let r = came (tables_of first) (members_of first) (me_of first) c.args.work lent refl reader.may_hold stepped (reader.is_honest stepped.keeper) honest first.is_up c.requires.up (reader.stored stepped.keeper) c.step-result.result
    (g.met.K.LogReader.holds_stored stepped.keeper honest) c.step-result.ensures.done c.step-result.ensures.told c.step-result.ensures.same c.step-result.ensures.torn c.step-result.ensures.up c.step-result.ensures.leaves
    (λ d may. g.met.K.LogReader.only_stored stepped.keeper d may) in
    let P : Durable → Type 0 = reader.may_hold stepped.keeper in
    let less : (d : Durable) → reader.may_hold c.take_back.new.self d → reader.may_hold stepped.keeper d = λ d may. subst P (sym (g.met.K.LogReader.only_stored c.take_back.new.self d may ∙ c.take_back.ensures.stored)) (g.met.K.LogReader.holds_stored stepped.keeper honest) in (
      r.0,
      (
        given_back reader.may_hold stepped (reader.may_hold c.take_back.new.self) (member_with stepped (reader.stored c.take_back.new.self).log) r.0 (ap (λ (d : Durable). member_with stepped d.log) c.take_back.ensures.stored) less r.1.0,
        subst (λ (z : model.Node). StepsTo (tables_of first) (members_of first) (me_of first) c.args.work z r.0 c.step-result.result) same r.1.1,
      ),
    )

pub returns-in-None-clause-steps : goal.returns-in-None-clause-steps
returns-in-None-clause-steps g c = λ late.
    let reader = g.K.LogReader in
    let first = c.args.node.now in
    let stepped = c.step-result.new.self in
    let honest = c.take_back.ensures.honest.0 (subst g.K.LogReader.is_honest c.take_down.ensures.keeper late) in
    let lent = member_with first (reader.stored c.lend.new.self).log in
    let same : lent ≡ member_of first = ap (λ (d : Durable). member_with first d.log) c.lend.ensures.stored in
    let r = came (tables_of first) (members_of first) (me_of first) c.args.work lent refl reader.may_hold stepped (reader.is_honest stepped.keeper) honest first.is_up c.requires.up (reader.stored stepped.keeper) c.step-result.result
    (g.met.K.LogReader.holds_stored stepped.keeper honest) c.step-result.ensures.done c.step-result.ensures.told c.step-result.ensures.same c.step-result.ensures.torn c.step-result.ensures.up c.step-result.ensures.leaves
    (λ d may. g.met.K.LogReader.only_stored stepped.keeper d may) in
    let down = c.take_down.new.self in
    let P : Durable → Type 0 = reader.may_hold stepped.keeper in
    let is_stored : (d : Durable) → reader.may_hold down.keeper d → d ≡ reader.stored stepped.keeper = λ d may. g.met.K.LogReader.only_stored down.keeper d may ∙ ap reader.stored c.take_down.ensures.keeper ∙ c.take_back.ensures.stored in
    let back = ap (λ (d : Durable). durable_of (member_with stepped d.log)) c.take_back.ensures.stored in
    let only : (d : Durable) → reader.may_hold down.keeper d → d ≡ durable_of r.0 = λ d may.
    what_stays reader.may_hold stepped r.0 d r.1.0 (subst P (sym (is_stored d may)) (g.met.K.LogReader.holds_stored stepped.keeper honest)) (λ up. c.take_down.ensures.held up d may ∙ back) in
    let l = lost (tables_of first) (members_of first) (me_of first) c.args.work lent refl (reader.may_hold down.keeper) StoreFault r.0 c.step-result.result r.1.1 only in (
      stopped r.0,
      (
        seen_down (tables_of first) (members_of first) (me_of first) c.args.work lent refl reader.may_hold down (stopped r.0) c.take_down.ensures.down l.0,
        subst (λ (z : model.Node). StepsTo (tables_of first) (members_of first) (me_of first) c.args.work z (stopped r.0) (Err (Down StoreFault))) same l.1,
      ),
    )

pub returns-in-None-clause-continues : goal.returns-in-None-clause-continues
returns-in-None-clause-continues g c =
    let scribe = c.args.voice.scribe in
    let d = g.K.LogReader.stored c.args.node.now.keeper in
    let carried = g.met.K.Announces.carries_on c.lend.new.self c.step-result.new.self.keeper scribe d c.step-result.ensures.came c.lend.ensures.carries in
    absurd (subst (HasContinued g.K.Journal.Device.contents scribe _) c.in-None.is (c.take_back.ensures.continues scribe d carried))

pub returns-in-Some-clause-continues : goal.returns-in-Some-clause-continues
returns-in-Some-clause-continues g c =
    let reader = g.K.LogReader in
    let scribe = c.args.voice.scribe in
    let first = c.args.node.now in
    let d = reader.stored first.keeper in
    let carried = g.met.K.Announces.carries_on c.lend.new.self c.step-result.new.self.keeper scribe d c.step-result.ensures.came c.lend.ensures.carries in
    let went = subst (HasContinued g.K.Journal.Device.contents scribe _) c.in-Some.is (c.take_back.ensures.continues scribe d carried) in
    continued_less g.K.Journal.Device.contents scribe _ _ (Some c.in-Some.voice) (λ keeps honest y is.
    let last = reader.stored c.take_back.new.self in
    let before = c.lend.ensures.honest.0 (c.step-result.ensures.honest (c.take_back.ensures.honest.0 honest)) in
    sym (what_rests (reader.may_hold c.take_back.new.self) c.step-result.new.self.is_up _ y last is (g.met.K.LogReader.holds_stored c.take_back.new.self honest) (λ up. rw c.take_back.ensures.stored (stored_is c.step-result.new.self.core (reader.stored c.step-result.new.self.keeper) (c.step-result.new.self.synced up (c.take_back.ensures.honest.0 honest)))))
    ∙ c.take_back.ensures.stored ∙ keeps (c.take_back.ensures.honest.0 honest) ∙ stored_is first.core d (first.synced c.requires.up before)) went
