use Rattle.std.proofs.Common.{◌≡◌, ◌∙◌, ◌+◌, ◌≤◌, ◌||◌, min, nat_lt, true, false, List, ◌++◌, take, length, sym, ap, subst, rules, arith}
use Rattle.std.specs.Prelude.{vec_len}
use Rattle.model.specs.declared.entry.Entry.{Entry}
use Rattle.model.specs.Members.{agreed, is_leader, stands}
use Rattle.model.specs.Steps.{LOG_LIMIT, accepted, continues, cuts_below, follows, takes_entries}
use Rattle.raft.specs.declared.short_log.ShortLog.{ShortLog}
use Rattle.raft.specs.View.{log_of, node_of}
use Rattle.raft.proofs.Windows.{continues_seen}
use Rattle.raft.proofs.Worked.{taken}
use Rattle.raft.proofs.state.Core.on_append.Goals as goal

pub returns-clause-done : goal.returns-clause-done
returns-clause-done g c = λ seen.
    let a = c.args in
    let old = a.self.now in
    let mid = c.follow-2.new.self in
    let log = log_of old g.stored in
    let es = a.entries.items in
    let x = node_of old g.stored in
    let count : vec_len a.entries ≡ length es = search rules in
    let few : length es ≤ 64 = omega (arith, count, c.requires.1.0) in
    let high : old.term ≤ a.term = omega (arith, c.if-term-self.false) in
    let led : is_leader old.role ≡ false = sym c.is_leader.ensures ∙ c.if-is_leader.false in
    let standing : stands log a.prev a.prev_term ≡ true = sym (c.stands.ensures.value seen) ∙ c.if-not-stands.false in
    let part : c.continues.result ≡ continues a.window.now (min a.prev 1) a.term es = c.continues.ensures ∙ ap (λ n. continues a.window.now n a.term c.deref.result.now) c.min.ensures ∙ ap (continues a.window.now (min a.prev 1) a.term) c.deref.ensures.value in
    let goes : continues log a.prev a.term es ≡ true = sym (continues_seen log a.window.now es a.prev a.term seen few) ∙ sym part ∙ c.if-not-continues.false in
    let at : c.agreed-index.result ≡ agreed log a.prev es = c.agreed-index.ensures.value seen ∙ ap (agreed log a.prev) c.deref-2.ensures.value in
    let P : List Entry → Type 0 = λ l. c.agreed-index.result ≡ agreed log a.prev l → c.cuts_too_far.result ≡ (cuts_below old.commit log a.prev l || nat_lt LOG_LIMIT (length (accepted log a.prev l))) in
    let cuts : P es = subst P c.deref-3.ensures.value c.cuts_too_far.ensures.value in
    let fits : (cuts_below old.commit log a.prev es || nat_lt LOG_LIMIT (length (accepted log a.prev es))) ≡ false = sym (cuts at) ∙ c.if-cuts_too_far.false in
    let near : c.agreed-index.result ≡ agreed (log_of mid g.stored) a.prev es = at ∙ ap (λ (l : ShortLog). agreed (take l.elsewhere g.stored ++ l.tail.items) a.prev es) (sym c.follow-2.ensures.log) in
    let is : node_of c.take_entries.new.self g.stored ≡ takes_entries a.prev es a.commit (follows a.sender x) = c.in_ok-take_entries.ensures.done near ∙ ap (takes_entries a.prev es a.commit) c.follow-2.ensures.node in
    let me = c.take_entries.ensures.seat.me ∙ c.follow-2.ensures.seat.me in
    taken old.me c.take_entries.new.self.me a.sender a.term a.prev a.prev_term (a.prev + c.len.result) es a.commit x (node_of c.take_entries.new.self g.stored) high led standing goes fits is me (ap (λ n. a.prev + n) (c.len.ensures ∙ count))
