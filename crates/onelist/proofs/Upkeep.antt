-- A member stays up until an event stops it; and one that is down has applied nothing.
use Rattle.std.proofs.Common.{◌≡◌, ℕ, suc, ◌&&◌, ◌||◌, Bool, true, false, not, Option, Some, None, Result, Ok, Err, List, [], ◌∷◌, length, slice_get, refl, sym, ◌∙◌, subst, eqb-true}
use Rattle.std.specs.Prelude.{nat_lt, nat_le, ◌==◌, ℤ}
use Rattle.std.proofs.lemmas.Bool.{cases_Bool, cond_both, eqb-false}
use Rattle.std.specs.Option.{option_map_or}
use Rattle.model.specs.Lists.{nth, with_nth}
use Rattle.fault.specs.declared.refusal.Refusal.{Refusal}
use Rattle.fault.specs.declared.refusal.Refusal.TheVariants.{NotLeader, TimeFull, LogFull, TermFull}
use Rattle.model.specs.Transactions.{Language, Statement}
use Rattle.model.specs.Logs.{last_entry}
use Rattle.model.specs.declared.entry.Entry.{Entry}
use Rattle.model.specs.declared.entry.Request.{Request}
use Rattle.model.specs.declared.message.Message.{Message}
use Rattle.model.specs.declared.message.Body.{Body}
use Rattle.model.specs.declared.message.Body.TheVariants.{RequestVote, Vote, Append, Reply, Seek, Stored, Seal}
use Rattle.model.specs.declared.message.Input.{Input}
use Rattle.model.specs.declared.message.Input.TheVariants.{Timeout, Beat, Close, Submit, Floor}
use Rattle.model.specs.Members.{Node, is_leader, is_candidate, is_majority, is_in, stands, has_term}
use Rattle.model.specs.Steps.{Effect, Moves, Refuses, Nothing, After, TERM_LAST, LOG_LIMIT, in_term, hears, time_out, is_time_full, is_log_full, extended, append_own, append_to_all, ask_floor, on_input, grants, on_request_vote, counted, crowned, on_vote, continues, cuts_below, accepted, on_append, on_reply_yes, on_reply_no, on_reply, on_seek, asks_for, with_stored, on_stored, on_body, is_honest, on_message}
use Rattle.model.specs.Worlds.{World, Event, Hand, Deliver, Stop, Start, Torn, Ask, hand, effect, with_node, stopped, started, done, node_left, does, is_for, happens, run}
use Rattle.model.specs.declared.event.Job.{Job}
use Rattle.model.specs.declared.event.Job.TheVariants.{Local, Delivery}
use Rattle.onelist.specs.Explained.{Stops, Whole, CutShort}
use Rattle.safety.proofs.Lists.{if_there, cases, same_some, get_with}
use Rattle.safety.proofs.Given.{nth_same}
use Rattle.safety.proofs.Moments.{nth_other}

-- ---- a step

abbrev IsUp : Node → Type 0
IsUp x = x.up ≡ true

abbrev LeavesUp : After → Type 0
LeavesUp a = a.node.up ≡ true

abbrev KeepsUp : Effect → Type 0
KeepsUp Nothing = Unit {0}
KeepsUp (Refuses refusal) = Unit {0}
KeepsUp (Moves a) = a.node.up ≡ true

heard : (t : ℕ) (x : Node) → IsUp x → IsUp (hears t x)
unfolding hears
heard t x X = cond_both (nat_lt x.term t) (in_term t x) x IsUp (λ p. X) (λ p. X)

module _ (n m : ℕ) (x : Node) (X : x.up ≡ true) where
  times_out : KeepsUp (time_out n m x)
  unfolding time_out
  times_out = cond_both (is_leader x.role) Nothing _ KeepsUp (λ p. tt) (λ p. cond_both (nat_le TERM_LAST x.term) (Refuses TermFull) _ KeepsUp (λ q. tt) (λ q. X))

  appends_own : (reading : ℤ) (request : Option Request) → KeepsUp (append_own n m reading request x)
  unfolding append_own
  appends_own reading request = cond_both (not (is_leader x.role)) (Refuses (NotLeader x.known)) _ KeepsUp (λ p. tt)
      (λ p. cond_both (is_time_full x.floor x.log) (Refuses TimeFull) _ KeepsUp (λ q. tt)
      (λ q. cond_both (is_log_full x.log) (Refuses LogFull) _ KeepsUp (λ s. tt) (λ s. X)))

  asks_floor : (reading : ℤ) → KeepsUp (ask_floor n m reading x)
  unfolding ask_floor
  asks_floor reading = cond_both (is_leader x.role && has_term (last_entry x.log) x.term) _ Nothing KeepsUp (λ p. X) (λ p. tt)

  input_keeps : (i : Input) → KeepsUp (on_input n m i x)
  input_keeps Timeout = times_out
  input_keeps Beat = cond_both (is_leader x.role) (Moves (record { node = x; sent = append_to_all n x m })) Nothing KeepsUp (λ p. X) (λ p. tt)
  input_keeps (Close reading) = appends_own reading None
  input_keeps (Floor reading) = asks_floor reading
  input_keeps (Submit reading request) = appends_own reading (Some request)

  votes : (c T i t : ℕ) → LeavesUp (on_request_vote m c T i t x)
  unfolding on_request_vote
  votes c T i t = cond_both (grants c T i t x) _ _ LeavesUp (λ p. X) (λ p. X)

  vote_counted : (reading : ℤ) (sender T : ℕ) (given : Bool) (floor : Option ℕ) → LeavesUp (on_vote n m reading sender T given floor x)
  unfolding on_vote
  vote_counted reading sender T given floor =
      cond_both (given && (T == x.term) && is_candidate x.role) _ (record { node = x; sent = [] }) LeavesUp
      (λ p. cond_both (is_majority n (is_in (counted sender floor x).votes)) _ (record { node = counted sender floor x; sent = [] }) LeavesUp
      (λ q. cond_both (is_time_full (crowned n (counted sender floor x)).floor x.log || is_log_full x.log) (crowned n (counted sender floor x)) (extended reading None (crowned n (counted sender floor x))) IsUp (λ r. X) (λ r. X))
      (λ q. X))
      (λ p. X)

  appended : (sender T p t : ℕ) (es : List Entry) (c : ℕ) → KeepsUp (on_append m sender T p t es c x)
  unfolding on_append
  appended sender T p t es c =
      cond_both (nat_lt T x.term) _ _ KeepsUp (λ q. X)
      (λ q. cond_both (is_leader x.role) Nothing _ KeepsUp (λ r. tt)
      (λ r. cond_both (not (stands x.log p t)) _ _ KeepsUp (λ s. X)
      (λ s. cond_both (not (continues x.log p T es) || cuts_below x.commit x.log p es || nat_lt LOG_LIMIT (length (accepted x.log p es))) Nothing _ KeepsUp (λ u. tt) (λ u. X))))

  replied_yes : (sender k : ℕ) → KeepsUp (on_reply_yes n m sender k x)
  unfolding on_reply_yes
  replied_yes sender k = cond_both (nat_lt (length x.log) k) Nothing _ KeepsUp (λ p. tt) (λ p. X)

  replied_no : (sender : ℕ) → KeepsUp (on_reply_no m sender x)
  unfolding on_reply_no
  replied_no sender = X

  replied : (sender T : ℕ) (ok : Bool) (k : ℕ) → KeepsUp (on_reply n m sender T ok k x)
  replied sender T ok k = cond_both (is_leader x.role && (T == x.term)) _ _ KeepsUp (λ p. cond_both ok _ _ KeepsUp (λ o. replied_yes sender k) (λ o. replied_no sender)) (λ p. X)

  sought : (sender T k t : ℕ) → KeepsUp (on_seek m sender T k t x)
  unfolding on_seek
  sought sender T k t = cond_both (nat_lt T x.term) _ _ KeepsUp (λ p. X) (λ p. cond_both (is_leader x.role) Nothing _ KeepsUp (λ q. tt) (λ q. X))

  was_stored : (sender T k t : ℕ) → LeavesUp (on_stored n m sender T k t x)
  unfolding on_stored
  was_stored sender T k t = cond_both (is_leader x.role && (T == x.term) && asks_for x.asked k t) _ _ LeavesUp
      (λ p. cond_both (not (is_majority n (is_in x.stored)) && is_majority n (is_in (with_stored sender x).stored)) _ _ LeavesUp (λ q. X) (λ q. X)) (λ p. X)

  body_keeps : (reading : ℤ) (from T : ℕ) (b : Body) → KeepsUp (on_body n m reading from T b x)
  body_keeps reading from T (RequestVote i t) = votes from T i t
  body_keeps reading from T (Vote given floor) = vote_counted reading from T given floor
  body_keeps reading from T (Append p pt es c) = appended from T p pt es c
  body_keeps reading from T (Reply ok k) = replied from T ok k
  body_keeps reading from T (Seek k t) = sought from T k t
  body_keeps reading from T (Stored k t) = was_stored from T k t
  body_keeps reading from T (Seal k t) = X

message_keeps : (language : Language) (n m : ℕ) (reading : ℤ) (p : Message) (x : Node) → IsUp x → KeepsUp (on_message language n m reading p x)
message_keeps language n m reading p x X = cond_both (is_honest language n m p) (on_body n m reading p.sender p.term p.body (hears p.term x)) Nothing KeepsUp
    (λ h. body_keeps n m (hears p.term x) (heard p.term x X) reading p.sender p.term p.body) (λ h. tt)

-- ---- an event

-- who is down has applied nothing
abbrev pub IsIdle : World → Type 0
IsIdle w = (k : ℕ) (x : Node) → nth w.nodes k ≡ Some x → x.up ≡ false → x.commit ≡ 0

-- what an event leads to: whom it does not stop stays up
pub record Onward (w v : World) (e : Event) : Type 0 where
  pub up : (k : ℕ) (x : Node) → nth w.nodes k ≡ Some x → x.up ≡ true → (Stops k e → ⊥) → (y : Node) × (nth v.nodes k ≡ Some y) × (y.up ≡ true)
  pub idle : IsIdle w → IsIdle v

module _ (language : Language) (n : ℕ) (w : World) where
  unless_keeps : (r : Result (List Statement) Refusal) (e : Effect) → KeepsUp e → KeepsUp (elim (r) [ Ok ss ↦ e | Err refusal ↦ Refuses refusal ])
  unless_keeps (Ok ss) e h = h
  unless_keeps (Err refusal) e h = tt

  handed : (m : ℕ) (i : Input) (x : Node) → IsUp x → KeepsUp (hand language n m i x)
  handed m Timeout x X = input_keeps n m x X Timeout
  handed m Beat x X = input_keeps n m x X Beat
  handed m (Close reading) x X = input_keeps n m x X (Close reading)
  handed m (Floor reading) x X = input_keeps n m x X (Floor reading)
  handed m (Submit reading request) x X = unless_keeps (language.reads request.text) (on_input n m (Submit reading request) x) (input_keeps n m x X (Submit reading request))

  effect_keeps : (m : ℕ) (j : Job) (x : Node) → IsUp x → KeepsUp (effect language n w m j x)
  effect_keeps m (Local i) x X = handed m i x X
  effect_keeps m (Delivery k reading) x X = go (nth w.sent k)
    where
      go : (o : Option Message) → KeepsUp (option_map_or (λ (p : Message). on_message language n m reading p x) o Nothing)
      go None = tt
      go (Some p) = message_keeps language n m reading p x X

  same : (e : Event) → Onward w w e
  same e = record { up = λ k x l u s. (x, l, u); idle = λ I. I }

  -- the member is another, which is up
  up_at : (e : Event) (m : ℕ) (x z : Node) (sent : List Message) → nth w.nodes m ≡ Some x → IsUp z → Onward w (with_node w m z sent) e
  up_at e m x z sent l u = record {
    up = λ k y q v s. cases (cases_Bool (k == m))
        (λ p. (z, subst (λ i. nth (with_nth w.nodes m z) i ≡ Some z) (sym (eqb-true k m p)) (nth_same w.nodes m x z l), u))
        (λ p. (y, nth_other w.nodes m z k (eqb-false k m p) ∙ q, v));
    idle = λ I. get_with (λ k y. y.up ≡ false → y.commit ≡ 0) w.nodes m z (λ d. absurd (cc)) (λ k y ne q. I k y q);
  }

  -- it is another, which was stopped
  down_at : (e : Event) (m : ℕ) (z : Node) → Stops m e → Onward w (with_node w m (stopped z) []) e
  down_at e m z h = record {
    up = λ k y q v s. cases (cases_Bool (k == m))
        (λ p. absurd (s (subst (λ i. Stops i e) (sym (eqb-true k m p)) h)))
        (λ p. (y, nth_other w.nodes m (stopped z) k (eqb-false k m p) ∙ q, v));
    idle = λ I. get_with (λ k y. y.up ≡ false → y.commit ≡ 0) w.nodes m (stopped z) (λ d. refl) (λ k y ne q. I k y q);
  }

  done_onward : (e : Event) (m : ℕ) (x : Node) (o : Effect) → nth w.nodes m ≡ Some x → KeepsUp o → Onward w (done w m o) e
  done_onward e m x Nothing l h = same e
  done_onward e m x (Refuses refusal) l h = same e
  done_onward e m x (Moves a) l h = up_at e m x a.node a.sent l h

  does_onward : (e : Event) (m : ℕ) (j : Job) → Onward w (does language n w m j (nth w.nodes m)) e
  does_onward e m j = if_there (nth w.nodes m) _ w (λ v. Onward w v e) (λ x l. cond_both x.up _ w (λ v. Onward w v e) (λ p. done_onward e m x (effect language n w m j x) l (effect_keeps m j x p)) (λ p. same e)) (same e)

  pub onward : (e : Event) → Onward w (happens language n w e) e
  onward (Hand m i) = does_onward (Hand m i) m (Local i)
  onward (Deliver k reading) = if_there (nth w.sent k) _ w (λ v. Onward w v (Deliver k reading)) (λ p e. does_onward (Deliver k reading) p.addressee (Delivery k reading)) (same (Deliver k reading))
  onward (Stop m) = if_there (nth w.nodes m) _ w (λ v. Onward w v (Stop m)) (λ x l. cond_both x.up _ w (λ v. Onward w v (Stop m)) (λ p. down_at (Stop m) m x Whole) (λ p. same (Stop m))) (same (Stop m))
  onward (Start m) = if_there (nth w.nodes m) _ w (λ v. Onward w v (Start m)) (λ x l. cond_both x.up w _ (λ v. Onward w v (Start m)) (λ p. same (Start m)) (λ p. up_at (Start m) m x (started x) [] l refl)) (same (Start m))
  onward (Torn m j left) = if_there (nth w.nodes m) _ w (λ v. Onward w v (Torn m j left)) (λ x l. cond_both (x.up && is_for w m j) _ w (λ v. Onward w v (Torn m j left))
      (λ p. down_at (Torn m j left) m (node_left left x (effect language n w m j x)) (CutShort j left)) (λ p. same (Torn m j left))) (same (Torn m j left))
  onward (Ask m q) = same (Ask m q)

-- ---- a run

pub stays_up : (language : Language) (n : ℕ) (es : List Event) (w : World) (m : ℕ) (x : Node) → nth w.nodes m ≡ Some x → IsUp x → ((i : ℕ) (e : Event) → slice_get es i ≡ Some e → Stops m e → ⊥) →
    (z : Node) → nth (run language n w es).nodes m ≡ Some z → IsUp z
stays_up language n [] w m x l u h z q = subst IsUp (same_some (nth w.nodes m) x z l q) u
stays_up language n (e ∷ es) w m x l u h z q =
    let y = (onward language n w e).up m x l u (h 0 e refl) in
    stays_up language n es (happens language n w e) m y.0 y.1 y.2 (λ i d p. h (suc i) d p) z q

pub idle_run : (language : Language) (n : ℕ) (es : List Event) (w : World) → IsIdle w → IsIdle (run language n w es)
idle_run language n [] w I = I
idle_run language n (e ∷ es) w I = idle_run language n es (happens language n w e) ((onward language n w e).idle I)
