use Rattle.std.proofs.Common.{◌∙◌, ◌++◌, List, ap}
use Rattle.believed.proofs.AgreeSame.{given_before}
use Rattle.world.specs.declared.output.Output.{Output}
use Rattle.world.specs.Run.{language_in, members_in, outset_of, events_of}
use Rattle.world.specs.View.{event_of, outputs_of}
use Rattle.moments.specs.Posts.{messages_in, posted}
use Rattle.moments.proofs.Posting.{one_happened}
use Rattle.moments.proofs.Sending.{now_next}
use Rattle.moments.proofs.replay.Replay.happen.Goals as goal

pub returns-clause-gives : goal.returns-clause-gives
returns-clause-gives c =
    let w = c.args.self.now.world in
    given_before (language_in w) (members_in w) (outset_of w) (events_of w) (event_of c.args.event) (outputs_of c.in_ok-outs.outs.items) c.in_ok-outs.ensures.gives

pub returns-clause-happened : goal.returns-clause-happened
returns-clause-happened c =
    let old = c.args.self.now in
    let w = old.world in
    let gave = given_before (language_in w) (members_in w) (outset_of w) (events_of w) (event_of c.args.event) (outputs_of c.in_ok-outs.outs.items) c.in_ok-outs.ensures.gives in
    let now = now_next w c.step.new.self (event_of c.args.event) c.step.ensures.same.0 c.step.ensures.same.1 c.in_ok-outs.ensures.kept in
    let marks = c.in_ok-post_all.ensures ∙ ap (λ (xs : List Output). old.marks.items ++ posted c.args.mark (messages_in xs)) c.deref.ensures.value in
    one_happened old _ c.args.mark _ c.in_ok-outs.outs.items gave now c.in_ok-outs.ensures.kept
    c.step.ensures.tables c.step.ensures.same.1 c.in_ok-outs.ensures.ok.1 marks
