use Rattle.std.proofs.Common.{rules, ◌≡◌, ◌∙◌, ◌+◌, ◌<◌, List, [], ◌∷◌, ◌++◌, take, length, ap, sym, subst, refl, append-nil}
use Rattle.std.specs.Prelude.{IfErr}
use Rattle.moments.specs.Behind.{Evidence, IsBehind}
use Rattle.moments.specs.Faults.{IsFaultAt, IsNo, Lacks}
use Rattle.std.proofs.lemmas.List.{take_more}
use Rattle.model.specs.Worlds.{Event}
use Rattle.world.specs.Run.{tables_in, members_in, events_of}
use Rattle.moments.specs.declared.moment.Moment.{Moment}
use Rattle.moments.specs.View.{past_of}
use Rattle.auditor.specs.View.{IsLed}
use Rattle.auditor.proofs.Leading.{led_more, stuck_if}
use Rattle.auditor.proofs.auditing.follow_all.Goals as goal

pub loop-moment-init : goal.loop-moment-init
loop-moment-init c = ([], record { kept = sym (append-nil (events_of c.args.replay.now.world)); leads = (refl, refl); tables = refl; members = refl; live = c.requires.live })

pub loop-moment-preserved : goal.loop-moment-preserved
loop-moment-preserved c =
    let i = c.loop-moment.moment-index in
    let ms = c.args.moments.now in
    let m = c.moment-item.result in
    let old = c.args.replay.now in
    let within : i < length ms = search rules in
    let inv = c.loop-moment.invariant in
    let next : take i ms ++ m ∷ [] ≡ take (i + 1) ms = ap (λ (x : Moment). take i ms ++ x ∷ []) c.moment-item.is ∙ sym (take_more ms i m within) in
    let P : List Moment → Type 0 = λ xs. (events : List Event) × IsLed (record { version = c.args.version; tables = tables_in old.world; lives = c.args.lives.now; answers = c.args.answers.now }) (members_in old.world) old c.follow.new.self xs events in
    subst P next (led_more c.args.version c.args.lives.now c.args.answers.now old c.loop-moment.replay c.follow.new.self (take i ms) m inv.0 inv.1 c.in_ok-follow.ensures.ok)

pub returns-in_err-follow-clause-fault : goal.returns-in_err-follow-clause-fault
returns-in_err-follow-clause-fault c =
    let i = c.loop-moment.moment-index in
    let ms = c.args.moments.now in
    let m = c.moment-item.result in
    let cur = c.loop-moment.replay in
    let within : i < length ms = search rules in
    let inv = c.loop-moment.invariant in
    let r : Evidence = record { version = c.args.version; tables = tables_in cur.world; lives = c.args.lives.now; answers = c.args.answers.now } in
    let said : IfErr c.from_residual.result (IsNo (Lacks (IsFaultAt c.args.lives.now (past_of cur) m) (IsBehind r (members_in cur.world) (past_of cur) m))) = search rules in
    stuck_if c.args.version c.args.lives.now c.args.answers.now c.args.replay.now cur ms i m inv.0 c.from_residual.result inv.1 within c.moment-item.is said
