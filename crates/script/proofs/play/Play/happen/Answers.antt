use Rattle.std.proofs.Common.{rules, ◌≡◌, ◌∙◌, ◌++◌, map, ap, refl}
use Rattle.fault.specs.declared.refusal.Refusal.TheVariants.{NoMemory}
use Rattle.script.specs.declared.run_fault.RunFault.TheVariants.{Refused}
use Rattle.believed.proofs.AgreeSame.{given_before}
use Rattle.world.specs.Run.{language_in, members_in, outset_of, events_of}
use Rattle.world.specs.View.{event_of, outputs_of}
use Rattle.script.specs.Mail.{newly_sent, messages_in}
use Rattle.script.proofs.Playing.{event_plays, now_next, unplayed}
use Rattle.script.proofs.play.Play.happen.Goals as goal

pub returns-clause-plays : goal.returns-clause-plays
returns-clause-plays g c =
    let old = c.args.self.now in
    let w = old.world in
    let outs = c.in_ok-outputs.outputs.items in
    let gave = given_before (language_in w) (members_in w) (outset_of w) (events_of w) (event_of c.args.event) (outputs_of outs) c.in_ok-outputs.ensures.gives in
    let now = now_next w c.step.new.self (event_of c.args.event) c.step.ensures.same.0 c.step.ensures.same.1 c.in_ok-outputs.ensures.kept in
    let sent : c.note_all.new.self ≡ old.mail ++ map newly_sent (messages_in outs) = c.in_ok-note_all.ensures ∙ ap (λ ms. old.mail ++ map newly_sent (messages_in ms)) c.deref.ensures.value in
    event_plays old (record old { world = c.step.new.self; mail = c.note_all.new.self }) (event_of c.args.event) outs c.print_outputs.result _ _
    gave now c.in_ok-outputs.ensures.kept c.step.ensures.tables c.step.ensures.same.1 c.in_ok-outputs.ensures.ok.1
    refl sent (rw c.deref-2.ensures.value at c.print_outputs.ensures.text) c.print_outputs.ensures.err

pub returns-in_err-outputs-clause-plays : goal.returns-in_err-outputs-clause-plays
returns-in_err-outputs-clause-plays g c =
    unplayed c.args.self.now.world (record c.args.self.now { world = c.step.new.self }) c.from_residual.result (Refused NoMemory) _ _ (search rules) refl

pub returns-in_err-note_all-clause-plays : goal.returns-in_err-note_all-clause-plays
returns-in_err-note_all-clause-plays g c =
    unplayed c.args.self.now.world (record c.args.self.now { world = c.step.new.self; mail = c.note_all.new.self }) c.from_residual-in_err-note_all.result (Refused NoMemory) _ _ (search rules) refl
