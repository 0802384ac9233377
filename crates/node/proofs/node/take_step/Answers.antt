use Rattle.std.proofs.Common.{◌≡◌, ◌∙◌, ap, subst}
use Rattle.std.proofs.lemmas.Result.{err_from_is_err_and}
use Rattle.keep.specs.Durable.{Durable, IsBeforeOrAfter}
use Rattle.raft.specs.View.{EffectFits, EffectForms, after_change, effect_of, node_of, works}
use Rattle.node.proofs.Stepping.{torn_at, saved_at}
use Rattle.node.proofs.node.take_step.Goals as goal

pub returns-in_ok-out-in-Done-clause-made : goal.returns-in_ok-out-in-Done-clause-made
returns-in_ok-out-in-Done-clause-made g c = λ made. c.in_ok-out-in-Done.ensures.made (rw c.step.ensures.group.2 made)

pub returns-in-Ignored-clause-made : goal.returns-in-Ignored-clause-made
returns-in-Ignored-clause-made g c = λ made. rw c.step.ensures.group.2 made

pub returns-in-Refused-clause-made : goal.returns-in-Refused-clause-made
returns-in-Refused-clause-made g c = λ made. rw c.step.ensures.group.2 made

pub finish-requires-clause-noted : goal.finish-requires-clause-noted
finish-requires-clause-noted g c = rw c.step.ensures.group.2 c.requires.noted

pub returns-in-Ignored-clause-noted : goal.returns-in-Ignored-clause-noted
returns-in-Ignored-clause-noted g c = rw c.step.ensures.group.2 c.requires.noted

pub returns-in-Refused-clause-noted : goal.returns-in-Refused-clause-noted
returns-in-Refused-clause-noted g c = rw c.step.ensures.group.2 c.requires.noted

pub returns-in_err-out-in-Done-clause-torn : goal.returns-in_err-out-in-Done-clause-torn
returns-in_err-out-in-Done-clause-torn g c =
    let p = err_from_is_err_and c.from_residual-in_err-out-in-Done.result c.from_residual-in_err-out-in-Done.ensures.1 in
    rw p.1 (λ d may.
    let early = c.in_err-out-in-Done.ensures.honest (g.met.K.LogReader.only_honest c.finish.new.keeper d may) in
    let before = g.K.LogReader.stored c.args.keeper.now in
    let first = c.step.ensures.reader.honest early in
    let step = c.requires.stored first in
    let fits = subst (EffectFits (node_of c.args.core.now before.log) (node_of c.step.new.self before.log)) c.in-Done.is (c.in_ok-taken.ensures.fits early) in
    let forms = subst (EffectForms c.step.new.self before) c.in-Done.is (c.in_ok-taken.ensures.forms early) in
    let work = works c.args.core.now.schema c.args.core.now.members c.args.core.now.me c.args.work (node_of c.args.core.now before.log) in
    let done = subst (λ e. effect_of c.step.new.self before.log e ≡ work) c.in-Done.is (c.in_ok-taken.ensures.done early) in
    torn_at c.args.core.now c.step.new.self before c.in-Done.taken step fits forms work done d
    (subst (λ (s : Durable). IsBeforeOrAfter s (after_change c.in-Done.taken.change s) d) (c.step.ensures.reader.same early) (c.in_err-out-in-Done.ensures.torn d may)))

pub returns-in_ok-out-in-Done-clause-saves : goal.returns-in_ok-out-in-Done-clause-saves
returns-in_ok-out-in-Done-clause-saves g c = λ honest.
    let early = c.in_ok-out-in-Done.ensures.honest honest in
    let before = g.K.LogReader.stored c.args.keeper.now in
    let first = c.step.ensures.reader.honest early in
    let step = c.requires.stored first in
    let fits = subst (EffectFits (node_of c.args.core.now before.log) (node_of c.step.new.self before.log)) c.in-Done.is (c.in_ok-taken.ensures.fits early) in
    let forms = subst (EffectForms c.step.new.self before) c.in-Done.is (c.in_ok-taken.ensures.forms early) in
    let now = c.in_ok-out-in-Done.ensures.ok honest ∙ ap (after_change c.in-Done.taken.change) (c.step.ensures.reader.same early) in
    saved_at c.args.core.now c.step.new.self before c.in-Done.taken step fits forms (g.K.LogReader.stored c.finish.new.keeper) (g.K.LogReader.saves c.args.keeper.now) (g.K.LogReader.saves c.step.new.reader) (g.K.LogReader.saves c.finish.new.keeper)
    now c.step.ensures.reader.unsaved c.in_ok-out-in-Done.ensures.saves
