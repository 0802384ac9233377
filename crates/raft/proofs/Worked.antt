-- What a whole step makes of a member.
use Rattle.std.proofs.Common.{◌≡◌, ℕ, ◌+◌, ◌≤◌, Bool, true, false, nat_lt, ◌||◌, None, List, [], ◌++◌, take, drop, length, refl, sym, subst, arith, inl, inr}
use Rattle.std.specs.List.{list_all}
use Rattle.sqlchecks.specs.Columns.{Tables}
use Rattle.sqlread.specs.Meaning.{language_of}
use Rattle.keep.specs.Log.{IsLog, is_entry}
use Rattle.model.specs.declared.entry.Entry.{Entry}
use Rattle.model.specs.declared.message.Body.TheVariants as body
use Rattle.model.specs.declared.message.Input.TheVariants.{Timeout, Beat, Close, Floor, Submit}
use Rattle.model.specs.Members.{Node, is_leader, stands}
use Rattle.model.specs.Steps.{Effect, Moves, After, LOG_LIMIT, accepted, continues, cuts_below, follows, go_on, is_floor, on_append, respond, settled, takes_entries}
use Rattle.raft.specs.declared.short_log.ShortLog.{ShortLog}
use Rattle.raft.specs.declared.state.Core.{Core}
use Rattle.raft.specs.declared.state.Sending.{Sending}
use Rattle.raft.specs.declared.state.Sending.TheVariants as sending
use Rattle.raft.specs.declared.state.Effect.{Effect as Given}
use Rattle.raft.specs.declared.state.Effect.TheVariants.{Done}
use Rattle.raft.specs.declared.state.Work.{Work}
use Rattle.raft.specs.declared.state.Work.TheVariants.{Local, Delivered}
use Rattle.raft.specs.Memory.{is_idle, spares_memory}
use Rattle.raft.specs.View.{brought, hard_in, log_of, node_of, outcome_of, sends, works, IsRanged, LooksAt, Reaches}
use Rattle.raft.proofs.Lists.{ltb_tells}
use Rattle.raft.proofs.LogFacts.{all_first, all_rest, neither}
use Rattle.raft.proofs.Windows.{length_of}
use Rattle.raft.proofs.Forming.{Forms, work_forms}

-- ---- what is sent changes neither term nor log

pub sends_term : (n me : ℕ) (s : Sending) (x : Node) → (sends n me s x).node.term ≡ x.term
sends_term n me sending.Nothing x = refl
sends_term n me (sending.Back to b) x = refl
sends_term n me sending.VoteRequests x = refl
sends_term n me (sending.Append to) x = refl
sends_term n me sending.Appends x = refl
sends_term n me (sending.Agreed sender) x = refl
sends_term n me (sending.Accepted to matched) x = refl
sends_term n me (sending.Seeks asked) x = refl
sends_term n me (sending.Seals seal) x = refl
sends_term n me (sending.Learned seal) x = refl

pub sends_log : (n me : ℕ) (s : Sending) (x : Node) → (sends n me s x).node.log ≡ x.log
sends_log n me sending.Nothing x = refl
sends_log n me (sending.Back to b) x = refl
sends_log n me sending.VoteRequests x = refl
sends_log n me (sending.Append to) x = refl
sends_log n me sending.Appends x = refl
sends_log n me (sending.Agreed sender) x = refl
sends_log n me (sending.Accepted to matched) x = refl
sends_log n me (sending.Seeks asked) x = refl
sends_log n me (sending.Seals seal) x = refl
sends_log n me (sending.Learned seal) x = refl

-- ---- the work

-- the window, over the log that is meant
pub looking : (old : Core) (stored d : List Entry) (work : Work) (window seen : List Entry) → d ≡ stored → seen ≡ window → LooksAt work (log_of old d) window → LooksAt work (log_of old stored) seen
looking old stored d work window seen same show looks = subst (λ (l : List Entry). LooksAt work (log_of old l) seen) same (subst (λ (w : List Entry). LooksAt work (log_of old d) w) (sym show) looks)

pub moved : (old mid : Core) (stored d : List Entry) (work : Work) (window seen : List Entry) (o : Given Sending) (s : Sending) → d ≡ stored → seen ≡ window → LooksAt work (log_of old d) window
    → (list_all (is_entry (language_of old.schema)) (log_of old d) ≡ true → list_all (is_entry (language_of old.schema)) window ≡ true)
    → IsLog old.members (language_of old.schema) (record { hard = hard_in old; log = log_of old stored })
    → (LooksAt work (log_of old stored) seen → list_all (is_entry (language_of old.schema)) seen ≡ true → outcome_of mid stored o ≡ works old.schema old.members old.me work (node_of old stored))
    → o ≡ Done s → Moves (sends mid.members mid.me s (node_of mid stored)) ≡ works old.schema old.members old.me work (node_of old stored)
moved old mid stored d work window seen o s same show looks part log done is =
    let all : list_all (is_entry (language_of old.schema)) (log_of old d) ≡ true = subst (λ (l : List Entry). list_all (is_entry (language_of old.schema)) (log_of old l) ≡ true) (sym same) log.entries in
    let reads : list_all (is_entry (language_of old.schema)) seen ≡ true = subst (λ (w : List Entry). list_all (is_entry (language_of old.schema)) w ≡ true) (sym show) (part all) in
    let e = done (looking old stored d work window seen same show looks) reads in
    subst (λ (x : Given Sending). outcome_of mid stored x ≡ works old.schema old.members old.me work (node_of old stored)) is e

pub mid_forms : (old mid : Core) (stored : List Entry) (work : Work) (s : Sending) → Moves (sends mid.members mid.me s (node_of mid stored)) ≡ works old.schema old.members old.me work (node_of old stored) → IsRanged work
    → IsLog old.members (language_of old.schema) (record { hard = hard_in old; log = log_of old stored }) → Forms (language_of old.schema) (node_of mid stored)
mid_forms old mid stored work s e ranged log =
    let x = node_of old stored in
    let a = sends mid.members mid.me s (node_of mid stored) in
    let was : Forms (language_of old.schema) x = record { rises = log.rises; entries = log.entries } in
    let f = work_forms old.schema old.members old.me work x (record { stands = old.stands; leads = old.leads }) ranged was in
    let after : Forms (language_of old.schema) a.node = rw (sym e) at f in
    let term = sends_term mid.members mid.me s (node_of mid stored) in
    let whole = sends_log mid.members mid.me s (node_of mid stored) in
    record { rises = rw (term, whole) at after.rises; entries = rw whole at after.entries }

pub new_log : (old mid new : Core) (stored : List Entry) → new.schema ≡ old.schema → new.log ≡ mid.log → new.term ≡ mid.term → is_floor new.floor ≡ true → Reaches new stored → Forms (language_of old.schema) (node_of mid stored)
    → IsLog new.members (language_of new.schema) (record { hard = hard_in new; log = log_of new stored })
new_log old mid new stored schema log term floor near f =
    let P : ShortLog → Type 0 = λ l. go_on None mid.term (take l.elsewhere stored ++ l.tail.items) ≡ true in
    let Q : ShortLog → Type 0 = λ l. list_all (is_entry (language_of old.schema)) (take l.elsewhere stored ++ l.tail.items) ≡ true in
    let rises : go_on None mid.term (log_of new stored) ≡ true = subst P (sym log) f.rises in
    let entries : list_all (is_entry (language_of old.schema)) (log_of new stored) ≡ true = subst Q (sym log) f.entries in
    record {
      term = new.term_within;
      vote = new.vote_within;
      floor = floor;
      room = omega (arith, length_of new stored near, new.log.within);
      rises = subst (λ (t : ℕ). go_on None t (log_of new stored) ≡ true) (sym term) rises;
      entries = subst (λ (s : Tables). list_all (is_entry (language_of s)) (log_of new stored) ≡ true) (sym schema) entries;
    }

-- ---- what takes no memory

idle_moves : (a : After) (e : Effect) → Moves a ≡ e → is_idle e ≡ true → ⊥
idle_moves a e same idle = let h : is_idle (Moves a) ≡ true = subst (λ x. is_idle x ≡ true) (sym same) idle in cc h

pub spared : (old mid : Core) (stored : List Entry) (work : Work) (seen : List Entry) (o : Given Sending) (s : Sending) → spares_memory old.members old.me work (node_of old stored) ≡ true → (brought work ≡ 0 → seen ≡ [])
    → (LooksAt work (log_of old stored) seen → list_all (is_entry (language_of old.schema)) seen ≡ true → outcome_of mid stored o ≡ works old.schema old.members old.me work (node_of old stored)) → o ≡ Done s → ⊥
spared old mid stored (Local Timeout) seen o s idle none done is =
    let reads : list_all (is_entry (language_of old.schema)) seen ≡ true = subst (λ (w : List Entry). list_all (is_entry (language_of old.schema)) w ≡ true) (sym (none refl)) refl in
    idle_moves _ _ (subst (λ (x : Given Sending). outcome_of mid stored x ≡ works old.schema old.members old.me (Local Timeout) (node_of old stored)) is (done tt reads)) idle
spared old mid stored (Local Beat) seen o s idle none done is =
    let reads : list_all (is_entry (language_of old.schema)) seen ≡ true = subst (λ (w : List Entry). list_all (is_entry (language_of old.schema)) w ≡ true) (sym (none refl)) refl in
    idle_moves _ _ (subst (λ (x : Given Sending). outcome_of mid stored x ≡ works old.schema old.members old.me (Local Beat) (node_of old stored)) is (done tt reads)) idle
spared old mid stored (Local (Close reading)) seen o s idle none done is =
    let reads : list_all (is_entry (language_of old.schema)) seen ≡ true = subst (λ (w : List Entry). list_all (is_entry (language_of old.schema)) w ≡ true) (sym (none refl)) refl in
    idle_moves _ _ (subst (λ (x : Given Sending). outcome_of mid stored x ≡ works old.schema old.members old.me (Local (Close reading)) (node_of old stored)) is (done tt reads)) idle
spared old mid stored (Local (Floor reading)) seen o s idle none done is =
    let reads : list_all (is_entry (language_of old.schema)) seen ≡ true = subst (λ (w : List Entry). list_all (is_entry (language_of old.schema)) w ≡ true) (sym (none refl)) refl in
    idle_moves _ _ (subst (λ (x : Given Sending). outcome_of mid stored x ≡ works old.schema old.members old.me (Local (Floor reading)) (node_of old stored)) is (done tt reads)) idle
spared old mid stored (Local (Submit reading request)) seen o s idle none done is = absurd (cc idle)
spared old mid stored (Delivered reading message) seen o s idle none done is = absurd (cc idle)

-- ---- an Append that is taken

pub taken : (me he sender term prev prev_term end : ℕ) (es : List Entry) (commit : ℕ) (x y : Node) → x.term ≤ term → is_leader x.role ≡ false → stands x.log prev prev_term ≡ true → continues x.log prev term es ≡ true → (cuts_below x.commit x.log prev es || nat_lt LOG_LIMIT (length (accepted x.log prev es))) ≡ false
    → y ≡ takes_entries prev es commit (follows sender x) → he ≡ me → end ≡ prev + length es → Moves (record { node = settled y; sent = respond y he sender (body.Reply true end) }) ≡ on_append me sender term prev prev_term es commit x
unfolding on_append
taken me he sender term prev prev_term end es commit x y high led standing goes fits is same len = elim (ltb_tells term x.term) [
  | inl lt ↦ absurd (omega (arith, lt.1, high))
  | inr ge ↦
      let more = neither (cuts_below x.commit x.log prev es) (nat_lt LOG_LIMIT (length (accepted x.log prev es))) fits in
      rw (is, same, len, ge.0, led, standing, goes, more.0, more.1) refl
]

-- a part of a log whose entries all pass
pub part_of : (p : Entry → Bool) (k n : ℕ) (log window : List Entry) → window ≡ take k (drop n log) → list_all p log ≡ true → list_all p window ≡ true
part_of p k n log window is h = subst (λ (es : List Entry). list_all p es ≡ true) (sym is) (all_first p k (drop n log) (all_rest p n log h))
