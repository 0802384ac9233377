-- What is committed stays as it is.
use Rattle.std.proofs.Common.{◌≡◌, ◌∙◌, ℕ, ℤ, ◌+◌, ◌-◌, ◌≤◌, ◌<◌, Bool, true, false, not, cond, ◌==◌, nat_lt, nat_le, ◌&&◌, ◌||◌, Option, Some, None, Result, Ok, Err, List, [], ◌∷◌, take, drop, length, refl, sym, subst, arith, inl, inr}
use Rattle.std.proofs.lemmas.List.{take-append-le, take-take, length-take}
use Rattle.std.proofs.lemmas.Bool.Decides.{eqb_tells}
use Rattle.fault.specs.declared.refusal.Refusal.{Refusal}
use Rattle.model.specs.declared.entry.Entry.{Entry}
use Rattle.model.specs.declared.entry.Request.{Request}
use Rattle.model.specs.declared.message.Body.{Body}
use Rattle.model.specs.declared.message.Body.TheVariants.{RequestVote, Vote, Append, Reply, Seek, Stored, Seal}
use Rattle.model.specs.declared.message.Message.{Message}
use Rattle.model.specs.declared.message.Input.{Input}
use Rattle.model.specs.declared.message.Input.TheVariants.{Timeout, Beat, Close, Floor, Submit}
use Rattle.model.specs.Stamps.{greater, stamp}
use Rattle.model.specs.Logs.{last_entry, least_over}
use Rattle.model.specs.Transactions.{Language, Statement}
use Rattle.model.specs.Members.{Node, agreed, has_term, is_leader, is_candidate, is_majority, is_in, stands}
use Rattle.model.specs.Steps.{After, Effect, Moves, Refuses, Nothing, TERM_LAST, LOG_LIMIT, accepted, time_out, append_own, on_input, is_time_full, is_log_full, extended, opened, crowned, counted, hears, in_term, grants, on_request_vote, on_vote, continues, cuts_below, follows, takes_entries, commits, noted, seal_floor, on_append, on_reply, on_reply_yes, on_reply_no, ask_floor, asks_for, on_seek, on_stored, with_stored, on_body, is_honest, on_message}
use Rattle.model.specs.Worlds.{hand}
use Rattle.model.specs.Kept.{node_after}
use Rattle.sqlchecks.specs.Columns.{Tables}
use Rattle.sqlread.specs.Meaning.{language_of}
use Rattle.raft.specs.declared.state.Core.{Core}
use Rattle.raft.specs.declared.state.Work.{Work}
use Rattle.raft.specs.declared.state.Work.TheVariants.{Local, Delivered}
use Rattle.raft.specs.declared.state.Effect.{Effect as Given}
use Rattle.raft.specs.declared.state.Effect.TheVariants.{Refused, Ignored, Done}
use Rattle.raft.specs.declared.state.Taken.{Taken}
use Rattle.raft.specs.View.{node_of, works, effect_of, EffectFits, Grows}
use Rattle.model.specs.declared.member.SealedFloor.{SealedFloor}
use Rattle.raft.proofs.Sealing.{greater_more, greater_self}
use Rattle.raft.proofs.Lists.{Between, agreed_between, ltb_tells, is_so, stands_within}
use Rattle.raft.proofs.LogFacts.{neither}

-- ---- tests

told : {A : Type 0} (P : A → Type 0) (b : Bool) (u v : A) → (b ≡ true → P u) → (b ≡ false → P v) → P (cond b u v)
told P true u v p q = p refl
told P false u v p q = q refl

both : {A : Type 0} (P : A → Type 0) (b : Bool) (u v : A) → P u → P v → P (cond b u v)
both P true u v p q = p
both P false u v p q = q

not_both : (a b : Bool) → (a && b) ≡ false → a ≡ true → b ≡ false
not_both true b e h = e
not_both false b e h = absurd (cc h)

-- ---- a log that takes entries

-- up to where log and entries agree, if a cut there leaves what is committed
cut_after : (c : ℕ) (log : List Entry) (prev : ℕ) (es : List Entry) → cuts_below c log prev es ≡ false → agreed log prev es < prev + length es → c ≤ agreed log prev es
cut_after c log prev es e lt =
    let j = agreed log prev es in
    elim (ltb_tells j (prev + length es)) [
      | inl lower ↦ elim (ltb_tells j c) [
        | inl below ↦ let no : nat_lt j c ≡ false = not_both (nat_lt j (prev + length es)) (nat_lt j c) e lower.0 in absurd (cc (no, below.0))
        | inr above ↦ above.1
      ]
      | inr not_lower ↦ absurd (omega (arith, not_lower.1, lt))
    ]

pub accepted_keeps : (c : ℕ) (log : List Entry) (prev : ℕ) (es : List Entry) → prev ≤ length log → cuts_below c log prev es ≡ false → take c (accepted log prev es) ≡ take c log
accepted_keeps c log prev es within e =
    let j = agreed log prev es in
    let far : Between prev (prev + length es) (length log) j = agreed_between log es prev within in
    elim (eqb_tells j (prev + length es)) [
      | inl same ↦ rw same.0 refl
      | inr other ↦
          let lt : j < prev + length es = omega (arith, other.1, far.high) in
          let after : c ≤ j = cut_after c log prev es e lt in
          rw other.0 (take-append-le c (take j log) (drop (j - prev) es) (omega (arith, length-take j log, far.most, after)) ∙ take-take c j log after)
    ]

-- ---- a step

record Stays (x : Node) (effect : Effect) : Type 0 where
  pub commit : x.commit ≤ (node_after x effect).commit
  pub log : take x.commit (node_after x effect).log ≡ take x.commit x.log
  pub sealed : greater x.sealed (node_after x effect).sealed ≡ (node_after x effect).sealed

record Leaves (x : Node) (a : After) : Type 0 where
  pub commit : x.commit ≤ a.node.commit
  pub log : take x.commit a.node.log ≡ take x.commit x.log
  pub sealed : greater x.sealed a.node.sealed ≡ a.node.sealed

refused : (x : Node) (refusal : Refusal) → Stays x (Refuses refusal)
refused x refusal = record { commit = omega arith; log = refl; sealed = greater_self x.sealed }

nothing : (x : Node) → Stays x Nothing
nothing x = record { commit = omega arith; log = refl; sealed = greater_self x.sealed }

extended_grows : (reading : ℤ) (request : Option Request) (x : Node) → x.commit ≤ length x.log → Grows x (extended reading request x)
extended_grows reading request x h = record { commit = omega arith; log = take-append-le x.commit x.log (record { term = x.term; stamp = stamp reading (least_over x.floor x.log); request = request } ∷ []) h; sealed = greater_self x.sealed }

time_out_stays : (n me : ℕ) (x : Node) → Stays x (time_out n me x)
unfolding time_out
time_out_stays n me x = both (Stays x) (is_leader x.role) _ _ (nothing x) (both (Stays x) (nat_le TERM_LAST x.term) _ _ (refused x _) (record { commit = omega arith; log = refl; sealed = greater_self x.sealed }))

append_own_stays : (n me : ℕ) (reading : ℤ) (request : Option Request) (x : Node) → x.commit ≤ length x.log → Stays x (append_own n me reading request x)
unfolding append_own
append_own_stays n me reading request x h =
    let more = extended_grows reading request x h in
    both (Stays x) (not (is_leader x.role)) _ _ (refused x _) (both (Stays x) (is_time_full x.floor x.log) _ _ (refused x _) (both (Stays x) (is_log_full x.log) _ _ (refused x _) (record { commit = more.commit; log = more.log; sealed = more.sealed })))

ask_stays : (n me : ℕ) (reading : ℤ) (x : Node) → Stays x (ask_floor n me reading x)
unfolding ask_floor
ask_stays n me reading x = both (Stays x) (is_leader x.role && has_term (last_entry x.log) x.term) _ _ (record { commit = omega arith; log = refl; sealed = greater_self x.sealed }) (nothing x)

input_stays : (n me : ℕ) (input : Input) (x : Node) → x.commit ≤ length x.log → Stays x (on_input n me input x)
input_stays n me Timeout x h = time_out_stays n me x
input_stays n me Beat x h = both (Stays x) (is_leader x.role) _ _ (record { commit = omega arith; log = refl; sealed = greater_self x.sealed }) (nothing x)
input_stays n me (Close reading) x h = append_own_stays n me reading None x h
input_stays n me (Floor reading) x h = ask_stays n me reading x
input_stays n me (Submit reading request) x h = append_own_stays n me reading (Some request) x h

unless_stays : (r : Result (List Statement) Refusal) (effect : Effect) (x : Node) → Stays x effect → Stays x (elim (r) [ Ok ss ↦ effect | Err refusal ↦ Refuses refusal ])
unless_stays (Ok statements) effect x h = h
unless_stays (Err refusal) effect x h = refused x refusal

hand_stays : (schema : Language) (n me : ℕ) (input : Input) (x : Node) → x.commit ≤ length x.log → Stays x (hand schema n me input x)
hand_stays schema n me Timeout x h = input_stays n me Timeout x h
hand_stays schema n me Beat x h = input_stays n me Beat x h
hand_stays schema n me (Close reading) x h = input_stays n me (Close reading) x h
hand_stays schema n me (Floor reading) x h = input_stays n me (Floor reading) x h
hand_stays schema n me (Submit reading request) x h = unless_stays (schema.reads request.text) _ x (input_stays n me (Submit reading request) x h)

opened_grows : (reading : ℤ) (x : Node) → x.commit ≤ length x.log → Grows x (opened reading x)
opened_grows reading x h = both (Grows x) (is_time_full x.floor x.log || is_log_full x.log) _ _ (record { commit = omega arith; log = refl; sealed = greater_self x.sealed }) (extended_grows reading None x h)

request_vote_leaves : (me sender term i t : ℕ) (x : Node) → Leaves x (on_request_vote me sender term i t x)
unfolding on_request_vote
request_vote_leaves me sender term i t x = both (Leaves x) (grants sender term i t x) _ _ (record { commit = omega arith; log = refl; sealed = greater_self x.sealed }) (record { commit = omega arith; log = refl; sealed = greater_self x.sealed })

vote_leaves : (n me : ℕ) (reading : ℤ) (sender term : ℕ) (given : Bool) (floor : Option ℕ) (x : Node) → x.commit ≤ length x.log → Leaves x (on_vote n me reading sender term given floor x)
unfolding on_vote
vote_leaves n me reading sender term given floor x h =
    let first = opened_grows reading (crowned n (counted sender floor x)) h in
    both (Leaves x) (given && (term == x.term) && is_candidate x.role) _ _ (both (Leaves x) (is_majority n (is_in (counted sender floor x).votes)) _ _ (record { commit = first.commit; log = first.log; sealed = first.sealed }) (record { commit = omega arith; log = refl; sealed = greater_self x.sealed })) (record { commit = omega arith; log = refl; sealed = greater_self x.sealed })

append_stays : (me sender term prev prev_term : ℕ) (es : List Entry) (commit : ℕ) (x : Node) → Stays x (on_append me sender term prev prev_term es commit x)
unfolding on_append
append_stays me sender term prev prev_term es commit x =
    both (Stays x) (nat_lt term x.term) _ _ (record { commit = omega arith; log = refl; sealed = greater_self x.sealed }) (both (Stays x) (is_leader x.role) _ _ (nothing x) (told (Stays x) (not (stands x.log prev prev_term)) _ _ (λ h. record { commit = omega arith; log = refl; sealed = greater_self x.sealed }) (λ standing.
    told (Stays x) (not (continues x.log prev term es) || cuts_below x.commit x.log prev es || nat_lt LOG_LIMIT (length (accepted x.log prev es))) _ _ (λ h. nothing x) (λ fits.
    let goes = neither (not (continues x.log prev term es) || cuts_below x.commit x.log prev es) (nat_lt LOG_LIMIT (length (accepted x.log prev es))) fits in
    let keeps = neither (not (continues x.log prev term es)) (cuts_below x.commit x.log prev es) goes.0 in
    let within = stands_within x.log prev prev_term (is_so (stands x.log prev prev_term) standing) in
    let y = takes_entries prev es commit (follows sender x) in
    record { commit = omega arith; log = accepted_keeps x.commit x.log prev es within keeps.1; sealed = greater_more x.sealed (seal_floor y x.waiting) }))))

reply_yes_stays : (n me sender matched : ℕ) (x : Node) → Stays x (on_reply_yes n me sender matched x)
unfolding on_reply_yes
reply_yes_stays n me sender matched x =
    let y = commits n me (noted sender matched x) in
    both (Stays x) (nat_lt (length x.log) matched) _ _ (nothing x) (record { commit = omega arith; log = refl; sealed = greater_more x.sealed (seal_floor y x.waiting) })

reply_no_stays : (me sender : ℕ) (x : Node) → Stays x (on_reply_no me sender x)
unfolding on_reply_no
reply_no_stays me sender x = record { commit = omega arith; log = refl; sealed = greater_self x.sealed }

reply_stays : (n me sender term : ℕ) (ok : Bool) (matched : ℕ) (x : Node) → Stays x (on_reply n me sender term ok matched x)
reply_stays n me sender term ok matched x =
    both (Stays x) (is_leader x.role && (term == x.term)) _ _ (both (Stays x) ok _ _ (reply_yes_stays n me sender matched x) (reply_no_stays me sender x)) (record { commit = omega arith; log = refl; sealed = greater_self x.sealed })

seek_stays : (me sender term index floor : ℕ) (x : Node) → Stays x (on_seek me sender term index floor x)
unfolding on_seek
seek_stays me sender term index floor x =
    both (Stays x) (nat_lt term x.term) _ _ (record { commit = omega arith; log = refl; sealed = greater_self x.sealed }) (both (Stays x) (is_leader x.role) _ _ (nothing x) (record { commit = omega arith; log = refl; sealed = greater_self x.sealed }))

stored_leaves : (n me sender term index floor : ℕ) (x : Node) → Leaves x (on_stored n me sender term index floor x)
unfolding on_stored
stored_leaves n me sender term index floor x =
    let s : SealedFloor = record { term = term; index = index; floor = floor } in
    both (Leaves x) (is_leader x.role && (term == x.term) && asks_for x.asked index floor) _ _
    (both (Leaves x) (not (is_majority n (is_in x.stored)) && is_majority n (is_in (with_stored sender x).stored)) _ _
    (record { commit = omega arith; log = refl; sealed = greater_more x.sealed (seal_floor (with_stored sender x) (Some s)) })
    (record { commit = omega arith; log = refl; sealed = greater_self x.sealed }))
    (record { commit = omega arith; log = refl; sealed = greater_self x.sealed })

body_stays : (n me : ℕ) (reading : ℤ) (sender term : ℕ) (b : Body) (x : Node) → x.commit ≤ length x.log → Stays x (on_body n me reading sender term b x)
body_stays n me reading sender term (RequestVote i t) x h = let v = request_vote_leaves me sender term i t x in record { commit = v.commit; log = v.log; sealed = v.sealed }
body_stays n me reading sender term (Vote given floor) x h = let v = vote_leaves n me reading sender term given floor x h in record { commit = v.commit; log = v.log; sealed = v.sealed }
body_stays n me reading sender term (Append prev prev_term es commit) x h = append_stays me sender term prev prev_term es commit x
body_stays n me reading sender term (Reply ok matched) x h = reply_stays n me sender term ok matched x
body_stays n me reading sender term (Seek index floor) x h = seek_stays me sender term index floor x
body_stays n me reading sender term (Stored index floor) x h = let v = stored_leaves n me sender term index floor x in record { commit = v.commit; log = v.log; sealed = v.sealed }
body_stays n me reading sender term (Seal index floor) x h = record { commit = omega arith; log = refl; sealed = greater_more x.sealed (seal_floor x (Some (record { term = term; index = index; floor = floor }))) }

-- the term that was heard of changes none of these
hears_log : (term : ℕ) (x : Node) → (hears term x).log ≡ x.log
unfolding hears
hears_log term x = elim (nat_lt x.term term) as (λ b. (cond b (in_term term x) x).log ≡ x.log) [ true ↦ refl | false ↦ refl ]

hears_commit : (term : ℕ) (x : Node) → (hears term x).commit ≡ x.commit
unfolding hears
hears_commit term x = elim (nat_lt x.term term) as (λ b. (cond b (in_term term x) x).commit ≡ x.commit) [ true ↦ refl | false ↦ refl ]

hears_sealed : (term : ℕ) (x : Node) → (hears term x).sealed ≡ x.sealed
unfolding hears
hears_sealed term x = elim (nat_lt x.term term) as (λ b. (cond b (in_term term x) x).sealed ≡ x.sealed) [ true ↦ refl | false ↦ refl ]

heard : (x y : Node) (effect : Effect) → y.log ≡ x.log → y.commit ≡ x.commit → y.sealed ≡ x.sealed → Stays y effect → Stays x effect
heard x y (Moves a) e f g h = record { commit = rw f at h.commit; log = rw (e, f) at h.log; sealed = let P : Option ℕ → Type 0 = λ s. greater s a.node.sealed ≡ a.node.sealed in subst P g h.sealed }
heard x y (Refuses refusal) e f g h = refused x refusal
heard x y Nothing e f g h = nothing x

message_stays : (schema : Language) (n me : ℕ) (reading : ℤ) (m : Message) (x : Node) → x.commit ≤ length x.log → Stays x (on_message schema n me reading m x)
message_stays schema n me reading m x h =
    let y = hears m.term x in
    let log = hears_log m.term x in
    let commit = hears_commit m.term x in
    let small : y.commit ≤ length y.log = rw (log, commit) h in
    both (Stays x) (is_honest schema n me m) _ _ (heard x y _ log commit (hears_sealed m.term x) (body_stays n me reading m.sender m.term m.body y small)) (nothing x)

work_stays : (schema : Tables) (n me : ℕ) (work : Work) (x : Node) → x.commit ≤ length x.log → Stays x (works schema n me work x)
work_stays schema n me (Local input) x h = hand_stays (language_of schema) n me input x h
work_stays schema n me (Delivered reading message) x h = message_stays (language_of schema) n me reading message x h

-- ---- what a core gives

same_grows : (x y : Node) → y ≡ x → Grows x y
same_grows x y e = let P : Node → Type 0 = Grows x in subst P (sym e) (record { commit = omega arith; log = refl; sealed = greater_self x.sealed })

moved : (x : Node) (a : After) → Stays x (Moves a) → Grows x a.node
moved x a h = record { commit = h.commit; log = h.log; sealed = h.sealed }

pub step_grows : (schema : Tables) (n me : ℕ) (x : Node) (new : Core) (stored : List Entry) (e : Given Taken) (work : Work) → x.commit ≤ length x.log → effect_of new stored e ≡ works schema n me work x → EffectFits x (node_of new stored) e → Grows x (node_of new stored)
step_grows schema n me x new stored (Refused refusal) work h done fits = same_grows x (node_of new stored) fits
step_grows schema n me x new stored Ignored work h done fits = same_grows x (node_of new stored) fits
step_grows schema n me x new stored (Done t) work h done fits =
    let P : Effect → Type 0 = Stays x in
    moved x _ (subst P (sym done) (work_stays schema n me work x h))
