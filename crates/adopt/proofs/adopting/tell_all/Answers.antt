use Rattle.std.proofs.Common.{rules, ◌≡◌, ◌∙◌, ◌+◌, ◌<◌, List, [], ◌∷◌, ◌++◌, take, length, ap, sym, subst}
use Rattle.std.specs.Prelude.{IfErr}
use Rattle.std.proofs.lemmas.List.{take_more}
use Rattle.moments.specs.Behind.{Evidence, IsBehind}
use Rattle.moments.specs.Faults.{IsFaultAt, IsNo, Lacks}
use Rattle.moments.specs.View.{past_of}
use Rattle.moments.specs.declared.moment.Moment.{Moment}
use Rattle.world.specs.Run.{tables_in, members_in}
use Rattle.adopt.specs.View.{AreTold}
use Rattle.adopt.proofs.Placing.{told_more, stuck_if}
use Rattle.adopt.proofs.adopting.tell_all.Goals as goal

pub loop-moment-preserved : goal.loop-moment-preserved
loop-moment-preserved c =
    let i = c.loop-moment.moment-index in
    let ms = c.args.moments.now in
    let m = c.moment-item.result in
    let old = c.args.telling.now in
    let within : i < length ms = search rules in
    let next : take i ms ++ m ∷ [] ≡ take (i + 1) ms = ap (λ (x : Moment). take i ms ++ x ∷ []) c.moment-item.is ∙ sym (take_more ms i m within) in
    let P : List Moment → Type 0 = λ xs. AreTold (record { version = c.args.version; tables = tables_in old.replay.world; lives = c.args.lives.now; answers = c.args.answers.now }) (members_in old.replay.world) old c.tell.new.self xs in
    subst P next (told_more c.args.version c.args.lives.now c.args.answers.now old c.loop-moment.telling c.tell.new.self (take i ms) m c.loop-moment.invariant c.in_ok-tell.ensures.ok)

pub returns-in_err-tell-clause-fault : goal.returns-in_err-tell-clause-fault
returns-in_err-tell-clause-fault c =
    let i = c.loop-moment.moment-index in
    let ms = c.args.moments.now in
    let m = c.moment-item.result in
    let cur = c.loop-moment.telling in
    let within : i < length ms = search rules in
    let r : Evidence = record { version = c.args.version; tables = tables_in cur.replay.world; lives = c.args.lives.now; answers = c.args.answers.now } in
    let said : IfErr c.from_residual.result (IsNo (Lacks (IsFaultAt c.args.lives.now (past_of cur.replay) m) (IsBehind r (members_in cur.replay.world) (past_of cur.replay) m))) = search rules in
    stuck_if c.args.version c.args.lives.now c.args.answers.now c.args.telling.now cur ms i m c.from_residual.result c.loop-moment.invariant within c.moment-item.is said
