-- What forms the log of a member still does after a step.
use Rattle.std.proofs.Common.{◌≡◌, ℕ, ℤ, pos, negsuc, ◌+◌, ◌≤◌, Bool, true, false, not, cond, ◌==◌, nat_lt, nat_le, ◌&&◌, ◌||◌, Option, Some, None, Result, Ok, Err, List, [], ◌∷◌, length, is_ok, refl, sym, arith, inl, inr}
use Rattle.std.specs.List.{list_all}
use Rattle.std.proofs.lemmas.Bool.Decides.{leb_tells}
use Rattle.std.proofs.lemmas.Bool.{le-leb}
use Rattle.fault.specs.declared.refusal.Refusal.{Refusal}
use Rattle.model.specs.declared.entry.Entry.{Entry}
use Rattle.model.specs.declared.entry.Request.{Request}
use Rattle.model.specs.declared.message.Body.{Body}
use Rattle.model.specs.declared.message.Body.TheVariants.{RequestVote, Vote, Append, Reply, Seek, Stored, Seal}
use Rattle.model.specs.declared.message.Message.{Message}
use Rattle.model.specs.declared.message.Input.{Input}
use Rattle.model.specs.declared.message.Input.TheVariants.{Timeout, Beat, Close, Floor, Submit}
use Rattle.model.specs.Stamps.{TIME_LAST, above, greater, stamp}
use Rattle.model.specs.Logs.{closed, last_entry, least_over, least_stamp}
use Rattle.model.specs.Transactions.{Language, Statement}
use Rattle.model.specs.Members.{Node, has_term, is_leader, is_candidate, is_majority, is_in, stands}
use Rattle.model.specs.Steps.{After, Effect, Moves, Refuses, Nothing, TERM_LAST, LOG_LIMIT, accepted, time_out, append_own, on_input, is_time_full, is_log_full, extended, opened, crowned, counted, hears, in_term, grants, on_request_vote, on_vote, continues, cuts_below, go_on, spells, entries_of, on_append, on_reply, on_reply_yes, on_reply_no, ask_floor, asks_for, on_seek, on_stored, with_stored, floor_fits, on_body, is_honest, on_message}
use Rattle.model.specs.Worlds.{hand}
use Rattle.model.specs.Kept.{node_after}
use Rattle.sqlchecks.specs.Columns.{Tables}
use Rattle.sqlread.specs.Meaning.{language_of}
use Rattle.keep.specs.Log.{is_entry, is_numbered}
use Rattle.raft.specs.declared.state.Work.{Work}
use Rattle.raft.specs.declared.state.Work.TheVariants.{Local, Delivered}
use Rattle.raft.specs.View.{works, is_ranged, IsRanged}
use Rattle.raft.proofs.Lists.{ltb_tells, is_so, stands_within}
use Rattle.raft.proofs.LogFacts.{accepted_entries, accepted_rises, higher, joint, parts, pushed_entries, pushed_rises, stamp_least}

told : {A : Type 0} (P : A → Type 0) (b : Bool) (u v : A) → (b ≡ true → P u) → (b ≡ false → P v) → P (cond b u v)
told P true u v p q = p refl
told P false u v p q = q refl

neither : (a b : Bool) → (a || b) ≡ false → (a ≡ false) × (b ≡ false)
neither false b e = (refl, e)
neither true b e = absurd (cc e)

-- terms do not fall and are not above the member's, stamps rise, and each entry is one by itself
pub record Forms (schema : Language) (y : Node) : Type 0 where
  pub rises : go_on None y.term y.log ≡ true
  pub entries : list_all (is_entry schema) y.log ≡ true

-- a candidate's and a leader's term is none of 0
pub record Stands (x : Node) : Type 0 where
  pub stands : is_candidate x.role ≡ true → 1 ≤ x.term
  pub leads : is_leader x.role ≡ true → 1 ≤ x.term

record Formed (schema : Language) (x : Node) (effect : Effect) : Type 0 where
  pub forms : Forms schema (node_after x effect)

record FormedAfter (schema : Language) (a : After) : Type 0 where
  pub forms : Forms schema a.node

-- the same log in a term that is no less
raised : (schema : Language) (x y : Node) → y.log ≡ x.log → x.term ≤ y.term → Forms schema x → Forms schema y
raised schema x y same up f = record {
  rises = rw same (higher None x.term y.term x.log up f.rises);
  entries = rw same f.entries;
}

-- ---- an entry more

stamp_below : (reading : ℤ) (least : ℕ) → least ≤ TIME_LAST → stamp reading least ≤ TIME_LAST
stamp_below (pos reading) least h = elim (leb_tells reading TIME_LAST) [ inl low ↦ rw low.0 (omega (arith, low.1, h)) | inr high ↦ rw high.0 h ]
stamp_below (negsuc n) least h = h

not_full : (floor : Option ℕ) (log : List Entry) → is_time_full floor log ≡ false → least_over floor log ≤ TIME_LAST
not_full floor log e = elim (ltb_tells TIME_LAST (least_over floor log)) [ inl lt ↦ absurd (cc (e, lt.0)) | inr ge ↦ ge.1 ]

over_none : (a b : Option ℕ) → above a ≤ above (greater a b)
over_none None b = omega arith
over_none (Some a) None = omega arith
over_none (Some a) (Some b) = omega arith

extended_forms : (schema : Language) (reading : ℤ) (request : Option Request) (x : Node) → 1 ≤ x.term → is_time_full x.floor x.log ≡ false → is_numbered request ≡ true → spells schema request ≡ true → Forms schema x → Forms schema (extended reading request x)
extended_forms schema reading request x first room numbered reads f =
    let least = least_over x.floor x.log in
    let e : Entry = record { term = x.term; stamp = stamp reading least; request = request } in
    let over : least_stamp x.log ≤ least = over_none (closed x.log) x.floor in
    let later : least_stamp x.log ≤ e.stamp = omega (arith, over, stamp_least reading least) in
    let fine : is_entry schema e ≡ true = joint _ _ (le-leb e.stamp TIME_LAST (stamp_below reading least (not_full x.floor x.log room))) (joint _ _ numbered reads) in
    record { rises = pushed_rises x.log e f.rises first later; entries = pushed_entries (is_entry schema) x.log e f.entries fine }

append_own_forms : (schema : Language) (n me : ℕ) (reading : ℤ) (request : Option Request) (x : Node) → Stands x → is_numbered request ≡ true → spells schema request ≡ true → Forms schema x → Formed schema x (append_own n me reading request x)
unfolding append_own
append_own_forms schema n me reading request x s numbered reads f =
    let P : Effect → Type 0 = Formed schema x in
    told P (not (is_leader x.role)) _ _ (λ h. record { forms = f }) (λ leads. told P (is_time_full x.floor x.log) _ _ (λ h. record { forms = f }) (λ room. told P (is_log_full x.log) _ _ (λ h. record { forms = f }) (λ h.
    record { forms = extended_forms schema reading request x (s.leads (is_so (is_leader x.role) leads)) room numbered reads f })))

time_out_forms : (schema : Language) (n me : ℕ) (x : Node) → Forms schema x → Formed schema x (time_out n me x)
unfolding time_out
time_out_forms schema n me x f =
    let P : Effect → Type 0 = Formed schema x in
    told P (is_leader x.role) _ _ (λ h. record { forms = f }) (λ h. told P (nat_le TERM_LAST x.term) _ _ (λ h. record { forms = f }) (λ h.
    record { forms = record { rises = higher None x.term (x.term + 1) x.log (omega arith) f.rises; entries = f.entries } }))

beat_forms : (schema : Language) (n me : ℕ) (x : Node) → Forms schema x → Formed schema x (on_input n me Beat x)
beat_forms schema n me x f = told (Formed schema x) (is_leader x.role) _ _ (λ h. record { forms = f }) (λ h. record { forms = f })

unless_forms : (schema : Language) (r : Result (List Statement) Refusal) (effect : Effect) (x : Node) → Forms schema x → (is_ok r ≡ true → Formed schema x effect) → Formed schema x (elim (r) [ Ok ss ↦ effect | Err refusal ↦ Refuses refusal ])
unless_forms schema (Ok statements) effect x f h = h refl
unless_forms schema (Err refusal) effect x f h = record { forms = f }

ask_forms : (schema : Language) (n me : ℕ) (reading : ℤ) (x : Node) → Forms schema x → Formed schema x (ask_floor n me reading x)
unfolding ask_floor
ask_forms schema n me reading x f =
    told (Formed schema x) (is_leader x.role && has_term (last_entry x.log) x.term) _ _ (λ h. record { forms = record { rises = f.rises; entries = f.entries } }) (λ h. record { forms = f })

hand_forms : (schema : Tables) (n me : ℕ) (input : Input) (x : Node) → Stands x → IsRanged (Local input) → Forms (language_of schema) x → Formed (language_of schema) x (hand (language_of schema) n me input x)
hand_forms schema n me Timeout x s ranged f = time_out_forms (language_of schema) n me x f
hand_forms schema n me Beat x s ranged f = beat_forms (language_of schema) n me x f
hand_forms schema n me (Close reading) x s ranged f = append_own_forms (language_of schema) n me reading None x s refl refl f
hand_forms schema n me (Floor reading) x s ranged f = ask_forms (language_of schema) n me reading x f
hand_forms schema n me (Submit reading request) x s ranged f = unless_forms (language_of schema) ((language_of schema).reads request.text) _ x f (λ reads. append_own_forms (language_of schema) n me reading (Some request) x s ranged reads f)

-- ---- messages

opened_forms : (schema : Language) (reading : ℤ) (x : Node) → 1 ≤ x.term → Forms schema x → Forms schema (opened reading x)
opened_forms schema reading x first f =
    told (Forms schema) (is_time_full x.floor x.log || is_log_full x.log) _ _ (λ h. f) (λ h. extended_forms schema reading None x first (neither (is_time_full x.floor x.log) (is_log_full x.log) h).0 refl refl f)

vote_forms : (schema : Language) (n me : ℕ) (reading : ℤ) (sender term : ℕ) (given : Bool) (floor : Option ℕ) (x : Node) → Stands x → Forms schema x → FormedAfter schema (on_vote n me reading sender term given floor x)
unfolding on_vote
vote_forms schema n me reading sender term given floor x s f =
    let P : After → Type 0 = FormedAfter schema in
    let same : Forms schema (crowned n (counted sender floor x)) = record { rises = f.rises; entries = f.entries } in
    told P (given && (term == x.term) && is_candidate x.role) _ _
    (λ h. told P (is_majority n (is_in (counted sender floor x).votes)) _ _
    (λ elected. record { forms = opened_forms schema reading (crowned n (counted sender floor x)) (s.stands (parts (given && (term == x.term)) (is_candidate x.role) h).1) same })
    (λ lost. record { forms = record { rises = f.rises; entries = f.entries } }))
    (λ h. record { forms = f })

request_vote_forms : (schema : Language) (me sender term i t : ℕ) (x : Node) → Forms schema x → FormedAfter schema (on_request_vote me sender term i t x)
unfolding on_request_vote
request_vote_forms schema me sender term i t x f =
    told (FormedAfter schema) (grants sender term i t x) _ _ (λ h. record { forms = record { rises = f.rises; entries = f.entries } }) (λ h. record { forms = f })

append_forms : (schema : Language) (me sender term prev prev_term : ℕ) (es : List Entry) (commit : ℕ) (x : Node) → term ≤ x.term → list_all (is_entry schema) es ≡ true → Forms schema x → Formed schema x (on_append me sender term prev prev_term es commit x)
unfolding on_append
append_forms schema me sender term prev prev_term es commit x low new f =
    let P : Effect → Type 0 = Formed schema x in
    let same : Forms schema x → Forms schema (record x { log = x.log }) = λ g. g in
    told P (nat_lt term x.term) _ _ (λ h. record { forms = f }) (λ now. told P (is_leader x.role) _ _ (λ h. record { forms = f }) (λ h.
    told P (not (stands x.log prev prev_term)) _ _ (λ h. record { forms = record { rises = f.rises; entries = f.entries } }) (λ standing.
    told P (not (continues x.log prev term es) || cuts_below x.commit x.log prev es || nat_lt LOG_LIMIT (length (accepted x.log prev es))) _ _ (λ h. record { forms = f }) (λ fits.
    let goes = neither (not (continues x.log prev term es) || cuts_below x.commit x.log prev es) (nat_lt LOG_LIMIT (length (accepted x.log prev es))) fits in
    let more = is_so (continues x.log prev term es) (neither (not (continues x.log prev term es)) (cuts_below x.commit x.log prev es) goes.0).0 in
    let within = stands_within x.log prev prev_term (is_so (stands x.log prev prev_term) standing) in
    let here : term ≡ x.term = elim (ltb_tells term x.term) [ inl lt ↦ absurd (cc (now, lt.0)) | inr ge ↦ omega (arith, low, ge.1) ] in
    record {
      forms = record {
        rises = accepted_rises x.term prev x.log es within f.rises (rw (sym here) more);
        entries = accepted_entries (is_entry schema) prev x.log es f.entries new;
      };
    }))))

reply_yes_forms : (schema : Language) (n me sender matched : ℕ) (x : Node) → Forms schema x → Formed schema x (on_reply_yes n me sender matched x)
unfolding on_reply_yes
reply_yes_forms schema n me sender matched x f = told (Formed schema x) (nat_lt (length x.log) matched) _ _ (λ h. record { forms = f }) (λ h. record { forms = record { rises = f.rises; entries = f.entries } })

reply_no_forms : (schema : Language) (me sender : ℕ) (x : Node) → Forms schema x → Formed schema x (on_reply_no me sender x)
unfolding on_reply_no
reply_no_forms schema me sender x f = record { forms = record { rises = f.rises; entries = f.entries } }

reply_forms : (schema : Language) (n me sender term : ℕ) (ok : Bool) (matched : ℕ) (x : Node) → Forms schema x → Formed schema x (on_reply n me sender term ok matched x)
reply_forms schema n me sender term ok matched x f =
    let P : Effect → Type 0 = Formed schema x in
    told P (is_leader x.role && (term == x.term)) _ _ (λ h. told P ok _ _ (λ h. reply_yes_forms schema n me sender matched x f) (λ h. reply_no_forms schema me sender x f)) (λ h. record { forms = f })

seek_forms : (schema : Language) (me sender term index floor : ℕ) (x : Node) → Forms schema x → Formed schema x (on_seek me sender term index floor x)
unfolding on_seek
seek_forms schema me sender term index floor x f =
    told (Formed schema x) (nat_lt term x.term) _ _ (λ h. record { forms = f }) (λ h. told (Formed schema x) (is_leader x.role) _ _ (λ h. record { forms = f }) (λ h. record { forms = record { rises = f.rises; entries = f.entries } }))

stored_forms : (schema : Language) (n me sender term index floor : ℕ) (x : Node) → Forms schema x → FormedAfter schema (on_stored n me sender term index floor x)
unfolding on_stored
stored_forms schema n me sender term index floor x f =
    let same : Forms schema (with_stored sender x) = record { rises = f.rises; entries = f.entries } in
    told (FormedAfter schema) (is_leader x.role && (term == x.term) && asks_for x.asked index floor) _ _
    (λ h. told (FormedAfter schema) (not (is_majority n (is_in x.stored)) && is_majority n (is_in (with_stored sender x).stored)) _ _ (λ h. record { forms = record { rises = f.rises; entries = f.entries } }) (λ h. record { forms = same }))
    (λ h. record { forms = f })

body_forms : (schema : Language) (n me : ℕ) (reading : ℤ) (sender term : ℕ) (b : Body) (x : Node) → Stands x → term ≤ x.term → list_all (is_entry schema) (entries_of b) ≡ true → Forms schema x → Formed schema x (on_body n me reading sender term b x)
body_forms schema n me reading sender term (RequestVote i t) x s low new f = record { forms = (request_vote_forms schema me sender term i t x f).forms }
body_forms schema n me reading sender term (Vote given floor) x s low new f = record { forms = (vote_forms schema n me reading sender term given floor x s f).forms }
body_forms schema n me reading sender term (Append prev prev_term es commit) x s low new f = append_forms schema me sender term prev prev_term es commit x low new f
body_forms schema n me reading sender term (Reply ok matched) x s low new f = reply_forms schema n me sender term ok matched x f
body_forms schema n me reading sender term (Seek index floor) x s low new f = seek_forms schema me sender term index floor x f
body_forms schema n me reading sender term (Stored index floor) x s low new f = record { forms = (stored_forms schema n me sender term index floor x f).forms }
body_forms schema n me reading sender term (Seal index floor) x s low new f = record { forms = record { rises = f.rises; entries = f.entries } }

-- the term that is heard of
record Heard (schema : Language) (term : ℕ) (y : Node) : Type 0 where
  pub forms : Forms schema y
  pub stands : Stands y
  pub low : term ≤ y.term

hears_forms : (schema : Language) (term : ℕ) (x : Node) → Stands x → Forms schema x → Heard schema term (hears term x)
unfolding hears
hears_forms schema term x s f = elim (ltb_tells x.term term) [
  | inl lt ↦ rw lt.0 (record {
    forms = raised schema x (in_term term x) refl (omega (arith, lt.1)) f;
    stands = record { stands = λ e. absurd (cc e); leads = λ e. absurd (cc e) };
    low = omega arith;
  })
  | inr ge ↦ rw ge.0 (record { forms = f; stands = s; low = ge.1 })
]

after_heard : (schema : Language) (x y : Node) (effect : Effect) → Forms schema x → Formed schema y effect → Formed schema x effect
after_heard schema x y (Moves a) f h = record { forms = h.forms }
after_heard schema x y (Refuses refusal) f h = record { forms = f }
after_heard schema x y Nothing f h = record { forms = f }

-- what is in range and reads is an entry
entries_fine : (schema : Language) (es : List Entry) → list_all is_ranged es ≡ true → list_all (λ e. spells schema e.request) es ≡ true → list_all (is_entry schema) es ≡ true
entries_fine schema [] a b = refl
entries_fine schema (e ∷ es) a b =
    let ranged = parts (is_ranged e) (list_all is_ranged es) a in
    let reads = parts (spells schema e.request) (list_all (λ d. spells schema d.request) es) b in
    let range = parts (nat_le e.stamp TIME_LAST) (is_numbered e.request) ranged.0 in
    joint _ _ (joint _ _ range.0 (joint _ _ range.1 reads.0)) (entries_fine schema es ranged.1 reads.1)

message_forms : (schema : Language) (n me : ℕ) (reading : ℤ) (m : Message) (x : Node) → Stands x → list_all is_ranged (entries_of m.body) ≡ true → Forms schema x → Formed schema x (on_message schema n me reading m x)
message_forms schema n me reading m x s ranged f =
    told (Formed schema x) (is_honest schema n me m) _ _ (λ honest.
    let h = hears_forms schema m.term x s f in
    let told_floor = parts _ (floor_fits m.body) honest in
    let reads = (parts _ (list_all (λ e. spells schema e.request) (entries_of m.body)) told_floor.0).1 in
    after_heard schema x (hears m.term x) _ f (body_forms schema n me reading m.sender m.term m.body (hears m.term x) h.stands h.low (entries_fine schema (entries_of m.body) ranged reads) h.forms)) (λ h. record { forms = f })

pub work_forms : (schema : Tables) (n me : ℕ) (work : Work) (x : Node) → Stands x → IsRanged work → Forms (language_of schema) x → Forms (language_of schema) (node_after x (works schema n me work x))
work_forms schema n me (Local input) x s ranged f = (hand_forms schema n me input x s ranged f).forms
work_forms schema n me (Delivered reading message) x s ranged f = (message_forms (language_of schema) n me reading message x s ranged f).forms
