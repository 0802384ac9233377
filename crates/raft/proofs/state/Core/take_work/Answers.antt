use Rattle.std.proofs.Common.{◌≡◌, ◌∙◌, ◌≤◌, None, List, true, refl, sym, ap, subst, arith}
use Rattle.model.specs.declared.entry.Entry.{Entry}
use Rattle.model.specs.Steps.{go_on}
use Rattle.keep.specs.Durable.{Durable}
use Rattle.keep.specs.declared.hard_state.HardState.{HardState}
use Rattle.raft.specs.declared.short_log.ShortLog.{ShortLog}
use Rattle.raft.specs.Saved.{Tells}
use Rattle.raft.specs.View.{log_of, IsNews, Reaches}
use Rattle.raft.proofs.Changes.{news_fits}
use Rattle.raft.proofs.Worked.{looking, moved, mid_forms, new_log, spared}
use Rattle.raft.proofs.state.Core.take_work.Goals as goal

pub send-requires-clause-rises : goal.send-requires-clause-rises
send-requires-clause-rises g c = λ honest.
    let first = c.in_ok-window.ensures in
    let start = first.reader.honest honest in
    let same = c.requires.1.1.1.0 start in
    let log = c.requires.1.1.1.1.0 start in
    let old = c.args.self.now in
    let mid = c.on_work.new.self in
    let e = moved old mid g.stored (g.S.LogReader.stored c.args.reader.now).log c.args.work c.in_ok-window.window.items c.deref.result.now c.in_ok-refusal.field-0 c.in-Done.sending same c.deref.ensures.value (first.ok honest) (first.part honest) log c.in_ok-refusal.ensures.done c.in-Done.is in
    let f = mid_forms old mid g.stored c.args.work c.in-Done.sending e c.has_ranges_in.ensures log in
    let stayed = first.reader.same honest in
    subst (λ (d : Durable). go_on None mid.term (log_of mid d.log) ≡ true) (sym stayed) (subst (λ (l : List Entry). go_on None mid.term (log_of mid l) ≡ true) (sym same) f.rises)

pub returns-in_err-messages-clause-spares : goal.returns-in_err-messages-clause-spares
returns-in_err-messages-clause-spares g c = λ idle.
    absurd (spared c.args.self.now c.on_work.new.self g.stored c.args.work c.deref.result.now c.in_ok-refusal.field-0 c.in-Done.sending idle (λ local. c.deref.ensures.value ∙ c.in_ok-window.ensures.none local) c.in_ok-refusal.ensures.done c.in-Done.is)

pub returns-in_err-change-clause-spares : goal.returns-in_err-change-clause-spares
returns-in_err-change-clause-spares g c = λ idle.
    absurd (spared c.args.self.now c.on_work.new.self g.stored c.args.work c.deref.result.now c.in_ok-refusal.field-0 c.in-Done.sending idle (λ local. c.deref.ensures.value ∙ c.in_ok-window.ensures.none local) c.in_ok-refusal.ensures.done c.in-Done.is)

pub returns-clause-fits : goal.returns-clause-fits
returns-clause-fits g c = λ honest.
    let sent = c.in_ok-messages.ensures in
    let first = c.in_ok-window.ensures in
    let near = sent.reader.honest honest in
    let start = first.reader.honest near in
    let same = c.requires.1.1.1.0 start in
    let log = c.requires.1.1.1.1.0 start in
    let old = c.args.self.now in
    let mid = c.on_work.new.self in
    let new = c.send.new.self in
    let looks = looking old g.stored (g.S.LogReader.stored c.args.reader.now).log c.args.work c.in_ok-window.window.items c.deref.result.now same c.deref.ensures.value (first.ok near) in
    let told = c.in_ok-refusal.ensures.tells looks c.requires.1.1.1.1.1.1 in
    let turned = subst (λ (l : ShortLog). Tells g.stored old.log l) (sym sent.log) told in
    let lower : new.log.elsewhere ≤ old.log.elsewhere = omega (arith, ap (λ l. l.elsewhere) sent.log, c.in_ok-refusal.ensures.lower) in
    let reach : Reaches new g.stored = omega (arith, lower, c.requires.1.1.0) in
    let news = subst (λ (h : HardState). IsNews new g.stored h c.in_ok-change.change) c.hard_state-before.ensures c.in_ok-change.ensures.news in
    (news_fits old new g.stored c.in_ok-change.change c.requires.1.1.0 reach c.requires.1.1.1.1.1.1 turned news, refl)

pub returns-clause-forms : goal.returns-clause-forms
returns-clause-forms g c = λ honest.
    let sent = c.in_ok-messages.ensures in
    let first = c.in_ok-window.ensures in
    let near = sent.reader.honest honest in
    let start = first.reader.honest near in
    let same = c.requires.1.1.1.0 start in
    let log = c.requires.1.1.1.1.0 start in
    let old = c.args.self.now in
    let mid = c.on_work.new.self in
    let new = c.send.new.self in
    let e = moved old mid g.stored (g.S.LogReader.stored c.args.reader.now).log c.args.work c.in_ok-window.window.items c.deref.result.now c.in_ok-refusal.field-0 c.in-Done.sending same c.deref.ensures.value (first.ok near) (first.part near) log c.in_ok-refusal.ensures.done c.in-Done.is in
    let f = mid_forms old mid g.stored c.args.work c.in-Done.sending e c.has_ranges_in.ensures log in
    let lower : new.log.elsewhere ≤ old.log.elsewhere = omega (arith, ap (λ l. l.elsewhere) sent.log, c.in_ok-refusal.ensures.lower) in
    let reach : Reaches new g.stored = omega (arith, lower, c.requires.1.1.0) in
    new_log old mid new g.stored (sent.seat.schema ∙ c.in_ok-refusal.ensures.seat.schema) sent.log sent.hard.0 c.is_instant.ensures reach f
