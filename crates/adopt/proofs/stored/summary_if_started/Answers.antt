use Rattle.std.proofs.Common.{◌≡◌, ◌∙◌, sym, subst, rules}
use Rattle.std.specs.Prelude.{IfOk}
use Rattle.model.specs.Worlds.{World}
use Rattle.world.specs.Run.{tables_in, members_in}
use Rattle.adopt.specs.Lines.{summary_at}
use Rattle.adopt.proofs.Looking.{played_on}
use Rattle.adopt.proofs.stored.summary_if_started.Goals as goal

pub returns : goal.returns
returns c =
    let w = c.args.world.now in
    let trial = c.in_ok-trial.trial in
    let one = c.run.new.self in
    let two = c.step.new.self in
    let copied : c.in_ok-clone.field-0 ≡ tables_in w = search rules in
    let tables : tables_in trial ≡ tables_in w = c.in_ok-trial.ensures.tables ∙ copied in
    let members : members_in trial ≡ members_in w = c.in_ok-trial.ensures.members ∙ sym c.requires.members in
    let P : World → Type 0 = λ v. IfOk c.summary.result (λ found. found ≡ summary_at v c.args.node) in
    let same = played_on w trial one two c.events.result.now c.args.node tables members c.in_ok-trial.ensures.nothing c.events.ensures c.in_ok-_played.ensures.kept c.run.ensures.tables c.run.ensures.same.1 c.in_ok-_started.ensures.kept c.step.ensures.tables c.step.ensures.same.1 in
    subst P same c.summary.ensures.found
