-- Floors are instants, the entry of a seal that waits is not applied, and what is sealed does not fall while a member is up.
use Rattle.std.proofs.Common.{◌≡◌, ℕ, zero, suc, ◌+◌, ◌≤◌, ◌&&◌, ◌||◌, Bool, true, false, not, Option, Some, None, unwrap_or, option_map, Result, Ok, Err, List, [], ◌∷◌, ◌++◌, length, take, slice_get, refl, sym, ap, ◌∙◌, subst, arith, eqb-true, leb-true}
use Rattle.std.specs.Prelude.{nat_lt, nat_le, ◌==◌, ℤ}
use Rattle.std.proofs.lemmas.Bool.{cases_Bool, cond_both, and_parts, eqb-false}
use Rattle.std.proofs.lemmas.List.{take-append-le}
use Rattle.std.specs.Option.{option_map_or}
use Rattle.model.specs.Lists.{nth, with_nth}
use Rattle.model.specs.Stamps.{TIME_LAST, above, greater}
use Rattle.model.specs.Logs.{last_entry, closed}
use Rattle.fault.specs.declared.refusal.Refusal.{Refusal}
use Rattle.fault.specs.declared.refusal.Refusal.TheVariants.{NotLeader, TimeFull, LogFull, TermFull}
use Rattle.model.specs.Transactions.{Language, Statement}
use Rattle.model.specs.declared.entry.Entry.{Entry}
use Rattle.model.specs.declared.entry.Request.{Request}
use Rattle.model.specs.declared.member.SealedFloor.{SealedFloor}
use Rattle.model.specs.declared.message.Message.{Message}
use Rattle.model.specs.declared.message.Body.{Body}
use Rattle.model.specs.declared.message.Body.TheVariants.{RequestVote, Vote, Append, Reply, Seek, Stored, Seal}
use Rattle.model.specs.declared.message.Input.{Input}
use Rattle.model.specs.declared.message.Input.TheVariants.{Timeout, Beat, Close, Submit, Floor}
use Rattle.model.specs.Members.{Node, last_term, is_leader, is_candidate, is_majority, is_in, has_term, stands}
use Rattle.model.specs.Steps.{Effect, Moves, Refuses, Nothing, After, append_to_all, tell_all, in_term, hears, stands_up, time_out, is_time_full, is_log_full, extended, append_own, next_floor, asking, ask_floor, on_input, grants, on_request_vote, counted, crowned, on_vote, is_applied, seal_floor, unapplied, learned, settled, accepted, cuts_below, continues, follows, takes_entries, on_append, noted, commits, on_reply_yes, on_reply_no, on_reply, on_seek, asks_for, with_stored, on_stored, is_floor, floor_fits, on_body, on_message, is_honest, TERM_LAST, LOG_LIMIT}
use Rattle.model.specs.Worlds.{World, Event, Hand, Deliver, Stop, Start, Torn, Ask, hand, effect, with_node, stopped, started, done, node_left, does, is_for, happens, fresh, new_world, led_world, led_nodes, first_leader, run}
use Rattle.model.specs.declared.event.Job.{Job}
use Rattle.model.specs.declared.event.Job.TheVariants.{Local, Delivery}
use Rattle.model.specs.declared.event.Left.{Left}
use Rattle.model.specs.declared.event.Left.TheVariants.{Old, New}
use Rattle.safety.specs.Floors.{FloorsInTime, WaitingUnapplied, SealedRises}
use Rattle.safety.proofs.Lists.{if_there, cases, none_some, same_get, same_some, get_with, get_replicate, found_replicate, above_greater}
use Rattle.safety.proofs.Ghost.{Ghost, GoodGhost, GoodNode}
use Rattle.safety.proofs.Lead.{stamp_low}
use Rattle.safety.proofs.Seals.{waiting_either}
use Rattle.safety.proofs.World.{Good, Outset, happens_ok}
use Rattle.safety.proofs.Runs.{run_append, reached}
use Rattle.safety.proofs.Given.{nth_same}
use Rattle.safety.proofs.Moments.{nth_other}

-- none, or an instant
abbrev InTime : Option ℕ → Type 0
InTime o = above o ≤ TIME_LAST + 1

-- the log reaches commit, and its stamps are instants
pub record Sound (x : Node) : Type 0 where
  pub fits : x.commit ≤ length x.log
  pub stamps : (j : ℕ) (e : Entry) → slice_get x.log j ≡ Some e → e.stamp ≤ TIME_LAST

pub record Closes (x : Node) : Type 0 where
  pub floor : InTime x.floor
  pub told : InTime x.told
  pub apart : (s : SealedFloor) → x.waiting ≡ Some s → is_applied x s ≡ false

-- what a step leaves, where f was sealed
pub record Holds (f : ℕ) (a : After) : Type 0 where
  pub node : Closes a.node
  pub rises : f ≤ above a.node.sealed

abbrev pub EffectHolds : ℕ → Effect → Type 0
EffectHolds f Nothing = Unit {0}
EffectHolds f (Refuses refusal) = Unit {0}
EffectHolds f (Moves a) = Holds f a

-- ---- instants

greater_in_time : (a b : Option ℕ) → InTime a → InTime b → InTime (greater a b)
greater_in_time a b p q = let e = above_greater a b in omega arith

some_in_time : (t : ℕ) → nat_le t TIME_LAST ≡ true → InTime (Some t)
some_in_time t h = let l = leb-true t TIME_LAST h in omega arith

floor_in_time : (o : Option ℕ) → is_floor o ≡ true → InTime o
floor_in_time None h = omega arith
floor_in_time (Some t) h = some_in_time t h

instant_of : (o : Option ℕ) (t : ℕ) → InTime o → o ≡ Some t → t ≤ TIME_LAST
instant_of o t h e = let a = ap above e in omega arith

or_zero : (o : Option ℕ) → InTime o → unwrap_or o 0 ≤ TIME_LAST
or_zero None h = omega arith
or_zero (Some t) h = omega arith

closed_in_time : (x : Node) → Sound x → InTime (closed x.log)
closed_in_time x S = go (length x.log)
  where
    stamp_of : (o : Option Entry) → ((e : Entry) → o ≡ Some e → e.stamp ≤ TIME_LAST) → InTime (option_map (λ (e : Entry). e.stamp) o)
    stamp_of None h = omega arith
    stamp_of (Some e) h = let l = h e refl in omega arith

    go : (k : ℕ) → InTime (option_map (λ (e : Entry). e.stamp) (nth x.log k))
    go zero = omega arith
    go (suc j) = stamp_of (slice_get x.log j) (S.stamps j)

-- ---- seals that wait

unapplied_false : (x : Node) (o : Option SealedFloor) (z : SealedFloor) → unapplied x o ≡ Some z → is_applied x z ≡ false
unapplied_false x None z e = absurd (none_some None z refl e)
unapplied_false x (Some s) z e = cond_both (is_applied x s) None (Some s) (λ o. o ≡ Some z → is_applied x z ≡ false)
    (λ p q. absurd (none_some None z refl q))
    (λ p q. let same : s ≡ z = (cc) in subst (λ v. is_applied x v ≡ false) same p) e

-- what is added to a log is not applied
extended_apart : (x : Node) (more : List Entry) → x.commit ≤ length x.log → ((s : SealedFloor) → x.waiting ≡ Some s → is_applied x s ≡ false)
    → (s : SealedFloor) → x.waiting ≡ Some s → has_term (nth (take x.commit (x.log ++ more)) s.index) s.term ≡ false
extended_apart x more fits apart s e = subst (λ L. has_term (nth L s.index) s.term ≡ false) (sym (take-append-le x.commit x.log more fits)) (apart s e)

settles : (f : ℕ) (x : Node) (sent : List Message) → InTime x.floor → InTime x.told → f ≤ above x.sealed → Holds f (record { node = settled x; sent = sent })
settles f x sent floor told r = record {
  node = record { floor = floor; told = told; apart = λ s e. unapplied_false x x.waiting s e };
  rises = (let e = above_greater x.sealed (seal_floor x x.waiting) in omega arith);
}

learns : (f : ℕ) (s : SealedFloor) (x : Node) (sent : List Message) → Closes x → f ≤ above x.sealed → Holds f (record { node = learned s x; sent = sent })
learns f s x sent X r = record {
  node = record { floor = X.floor; told = X.told; apart = λ z e. cases (waiting_either x.waiting (unapplied x (Some s)) z e) (λ q. X.apart z q) (λ q. unapplied_false x (Some s) z q) };
  rises = (let e = above_greater x.sealed (seal_floor x (Some s)) in omega arith);
}

-- ---- each step

module _ (n m f : ℕ) (x : Node) (S : Sound x) (X : Closes x) (same : f ≤ above x.sealed) where
  times_out : EffectHolds f (time_out n m x)
  unfolding time_out
  times_out = cond_both (is_leader x.role) Nothing _ (EffectHolds f) (λ p. tt)
      (λ p. cond_both (nat_le TERM_LAST x.term) (Refuses TermFull) (Moves (record { node = stands_up n m x; sent = tell_all n (stands_up n m x) m (RequestVote (length x.log) (last_term x.log)) })) (EffectHolds f) (λ q. tt)
      (λ q. record { node = record { floor = X.floor; told = omega arith; apart = X.apart }; rises = same }))

  appends_own : (reading : ℤ) (request : Option Request) → EffectHolds f (append_own n m reading request x)
  unfolding append_own
  appends_own reading request =
      cond_both (not (is_leader x.role)) (Refuses (NotLeader x.known)) _ (EffectHolds f) (λ p. tt)
      (λ p. cond_both (is_time_full x.floor x.log) (Refuses TimeFull) _ (EffectHolds f) (λ q. tt)
      (λ q. cond_both (is_log_full x.log) (Refuses LogFull) (Moves (record { node = extended reading request x; sent = append_to_all n (extended reading request x) m })) (EffectHolds f) (λ s. tt)
      (λ s. record { node = record { floor = X.floor; told = X.told; apart = extended_apart x _ S.fits X.apart }; rises = same })))

  asks_floor : (reading : ℤ) → EffectHolds f (ask_floor n m reading x)
  unfolding ask_floor
  asks_floor reading = cond_both (is_leader x.role && has_term (last_entry x.log) x.term) (Moves (record { node = asking n m reading x; sent = tell_all n x m (Seek (length x.log) (next_floor reading x)) })) Nothing (EffectHolds f)
      (λ p. record { node = record { floor = low; told = X.told; apart = X.apart }; rises = same }) (λ p. tt)
    where
      low : InTime (Some (next_floor reading x))
      low = let l = stamp_low reading (unwrap_or (greater (closed x.log) x.floor) 0) (or_zero (greater (closed x.log) x.floor) (greater_in_time (closed x.log) x.floor (closed_in_time x S) X.floor)) in omega arith

  pub input_holds : (i : Input) → EffectHolds f (on_input n m i x)
  input_holds Timeout = times_out
  input_holds Beat = cond_both (is_leader x.role) (Moves (record { node = x; sent = append_to_all n x m })) Nothing (EffectHolds f) (λ p. record { node = X; rises = same }) (λ p. tt)
  input_holds (Close reading) = appends_own reading None
  input_holds (Floor reading) = asks_floor reading
  input_holds (Submit reading request) = appends_own reading (Some request)

  votes : (c T i t : ℕ) → Holds f (on_request_vote m c T i t x)
  unfolding on_request_vote
  votes c T i t = cond_both (grants c T i t x) _ _ (Holds f) (λ p. record { node = record { floor = X.floor; told = X.told; apart = X.apart }; rises = same }) (λ p. record { node = X; rises = same })

  vote_counted : (reading : ℤ) (sender T : ℕ) (given : Bool) (floor : Option ℕ) → InTime floor → Holds f (on_vote n m reading sender T given floor x)
  unfolding on_vote
  vote_counted reading sender T given floor F =
      cond_both (given && (T == x.term) && is_candidate x.role) _ (record { node = x; sent = [] }) (Holds f)
      (λ p. cond_both (is_majority n (is_in (counted sender floor x).votes)) _ (record { node = counted sender floor x; sent = [] }) (Holds f)
      (λ q. cond_both (is_time_full (crowned n (counted sender floor x)).floor x.log || is_log_full x.log) (crowned n (counted sender floor x)) (extended reading None (crowned n (counted sender floor x))) (λ z. Holds f (record { node = z; sent = append_to_all n z m }))
      (λ r. record { node = record { floor = crown; told = omega arith; apart = X.apart }; rises = same })
      (λ r. record { node = record { floor = crown; told = omega arith; apart = extended_apart x _ S.fits X.apart }; rises = same }))
      (λ q. record { node = record { floor = X.floor; told = told; apart = X.apart }; rises = same }))
      (λ p. record { node = X; rises = same })
    where
      told : InTime (greater x.told floor)
      told = greater_in_time x.told floor X.told F

      crown : InTime (greater x.floor (greater x.told floor))
      crown = greater_in_time x.floor (greater x.told floor) X.floor told

  appended : (sender T p t : ℕ) (es : List Entry) (c : ℕ) → EffectHolds f (on_append m sender T p t es c x)
  unfolding on_append
  appended sender T p t es c =
      cond_both (nat_lt T x.term) _ _ (EffectHolds f) (λ q. record { node = X; rises = same })
      (λ q. cond_both (is_leader x.role) Nothing _ (EffectHolds f) (λ r. tt)
      (λ r. cond_both (not (stands x.log p t)) _ _ (EffectHolds f) (λ s. record { node = record { floor = X.floor; told = omega arith; apart = X.apart }; rises = same })
      (λ s. cond_both (not (continues x.log p T es) || cuts_below x.commit x.log p es || nat_lt LOG_LIMIT (length (accepted x.log p es))) Nothing _ (EffectHolds f) (λ u. tt)
      (λ u. settles f (takes_entries p es c (follows sender x)) _ X.floor (omega arith) same))))

  replied_yes : (sender k : ℕ) → EffectHolds f (on_reply_yes n m sender k x)
  unfolding on_reply_yes
  replied_yes sender k = cond_both (nat_lt (length x.log) k) Nothing _ (EffectHolds f) (λ p. tt) (λ p. settles f (commits n m (noted sender k x)) _ X.floor X.told same)

  replied_no : (sender : ℕ) → EffectHolds f (on_reply_no m sender x)
  unfolding on_reply_no
  replied_no sender = record { node = record { floor = X.floor; told = X.told; apart = X.apart }; rises = same }

  replied : (sender T : ℕ) (ok : Bool) (k : ℕ) → EffectHolds f (on_reply n m sender T ok k x)
  replied sender T ok k = cond_both (is_leader x.role && (T == x.term)) _ _ (EffectHolds f)
      (λ p. cond_both ok _ _ (EffectHolds f) (λ o. replied_yes sender k) (λ o. replied_no sender))
      (λ p. record { node = X; rises = same })

  sought : (sender T k t : ℕ) → InTime (Some t) → EffectHolds f (on_seek m sender T k t x)
  unfolding on_seek
  sought sender T k t F = cond_both (nat_lt T x.term) _ _ (EffectHolds f) (λ p. record { node = X; rises = same })
      (λ p. cond_both (is_leader x.role) Nothing _ (EffectHolds f) (λ q. tt)
      (λ q. record { node = record { floor = greater_in_time x.floor (Some t) X.floor F; told = omega arith; apart = X.apart }; rises = same }))

  stored_told : (sender T k t : ℕ) → Holds f (on_stored n m sender T k t x)
  unfolding on_stored
  stored_told sender T k t = cond_both (is_leader x.role && (T == x.term) && asks_for x.asked k t) _ (record { node = x; sent = [] }) (Holds f)
      (λ p. cond_both (not (is_majority n (is_in x.stored)) && is_majority n (is_in (with_nth x.stored sender true))) _ (record { node = with_stored sender x; sent = [] }) (Holds f)
      (λ j. learns f (record { term = T; index = k; floor = t }) (with_stored sender x) _ noted_more same)
      (λ j. record { node = noted_more; rises = same }))
      (λ p. record { node = X; rises = same })
    where
      noted_more : Closes (with_stored sender x)
      noted_more = record { floor = X.floor; told = X.told; apart = X.apart }

  body_holds : (reading : ℤ) (from T : ℕ) (b : Body) → floor_fits b ≡ true → EffectHolds f (on_body n m reading from T b x)
  body_holds reading from T (RequestVote i t) h = votes from T i t
  body_holds reading from T (Vote given floor) h = vote_counted reading from T given floor (floor_in_time floor h)
  body_holds reading from T (Append p pt es c) h = appended from T p pt es c
  body_holds reading from T (Reply ok k) h = replied from T ok k
  body_holds reading from T (Seek k t) h = sought from T k t (some_in_time t (and_parts (nat_lt 0 k && nat_le k LOG_LIMIT) (nat_le t TIME_LAST) h).1)
  body_holds reading from T (Stored k t) h = stored_told from T k t
  body_holds reading from T (Seal k t) h = learns f (record { term = T; index = k; floor = t }) x _ X same

-- what is heard of first: a greater term
record Heard (x y : Node) : Type 0 where
  pub sound : Sound y
  pub closes : Closes y
  pub same : y.sealed ≡ x.sealed

heard : (t : ℕ) (x : Node) → Sound x → Closes x → Heard x (hears t x)
unfolding hears
heard t x S X = cond_both (nat_lt x.term t) (in_term t x) x (Heard x)
    (λ p. record { sound = record { fits = S.fits; stamps = S.stamps }; closes = record { floor = X.floor; told = omega arith; apart = X.apart }; same = refl })
    (λ p. record { sound = S; closes = X; same = refl })

pub message_holds : (language : Language) (n m : ℕ) (reading : ℤ) (p : Message) (x : Node) → Sound x → Closes x → EffectHolds (above x.sealed) (on_message language n m reading p x)
message_holds language n m reading p x S X = cond_both (is_honest language n m p) (on_body n m reading p.sender p.term p.body (hears p.term x)) Nothing (EffectHolds (above x.sealed))
    (λ h. let H = heard p.term x S X in
    body_holds n m (above x.sealed) (hears p.term x) H.sound H.closes (let q = ap above H.same in omega arith) reading p.sender p.term p.body (and_parts _ (floor_fits p.body) h).1)
    (λ h. tt)

-- ---- each event

pub record ClosingWorld (w : World) : Type 0 where
  pub node : (m : ℕ) (x : Node) → nth w.nodes m ≡ Some x → Closes x

-- what an event leads to: what a member that stays up has sealed does not fall
record Onward (w v : World) : Type 0 where
  pub closing : ClosingWorld v
  pub rises : (m : ℕ) (x : Node) → nth w.nodes m ≡ Some x → (y : Node) × (nth v.nodes m ≡ Some y) × (x.up ≡ true → y.up ≡ true → above x.sealed ≤ above y.sealed)

module _ (language : Language) (n : ℕ) (w : World) (W : ClosingWorld w) (sound : (m : ℕ) (x : Node) → nth w.nodes m ≡ Some x → Sound x) where
  stays : Onward w w
  stays = record { closing = W; rises = λ m x l. (x, l, (λ u v. omega arith)) }

  stepped : (m : ℕ) (x : Node) (a : After) → nth w.nodes m ≡ Some x → Closes a.node → (x.up ≡ true → a.node.up ≡ true → above x.sealed ≤ above a.node.sealed) → Onward w (with_node w m a.node a.sent)
  stepped m x a l X r = record {
    closing = record { node = get_with (λ k z. Closes z) w.nodes m a.node X (λ k z ne e. W.node k z e) };
    rises = λ k z e. cases (cases_Bool (k == m))
        (λ p. let q : k ≡ m = eqb-true k m p in
        let same : x ≡ z = same_some (nth w.nodes m) x z l (subst (λ i. nth w.nodes i ≡ Some z) q e) in
        (a.node, subst (λ i. nth (with_nth w.nodes m a.node) i ≡ Some a.node) (sym q) (nth_same w.nodes m x a.node l), subst (λ (v : Node). v.up ≡ true → a.node.up ≡ true → above v.sealed ≤ above a.node.sealed) same r))
        (λ p. (z, nth_other w.nodes m a.node k (eqb-false k m p) ∙ e, (λ u v. omega arith)));
  }

  -- a member that stopped
  stops_with : (m : ℕ) (x z : Node) → nth w.nodes m ≡ Some x → InTime z.floor → Onward w (with_node w m (stopped z) [])
  stops_with m x z l h = stepped m x (record { node = stopped z; sent = [] }) l (record { floor = h; told = omega arith; apart = λ s e. absurd (none_some None s refl e) }) (λ u v. absurd (let q : false ≡ true = v in cc))

  unless_holds : (f : ℕ) (r : Result (List Statement) Refusal) (e : Effect) → EffectHolds f e → EffectHolds f (elim (r) [ Ok ss ↦ e | Err refusal ↦ Refuses refusal ])
  unless_holds f (Ok ss) e h = h
  unless_holds f (Err refusal) e h = tt

  handed : (m : ℕ) (i : Input) (x : Node) → Sound x → Closes x → EffectHolds (above x.sealed) (hand language n m i x)
  handed m Timeout x S X = input_holds n m (above x.sealed) x S X (omega arith) Timeout
  handed m Beat x S X = input_holds n m (above x.sealed) x S X (omega arith) Beat
  handed m (Close reading) x S X = input_holds n m (above x.sealed) x S X (omega arith) (Close reading)
  handed m (Floor reading) x S X = input_holds n m (above x.sealed) x S X (omega arith) (Floor reading)
  handed m (Submit reading request) x S X = unless_holds (above x.sealed) (language.reads request.text) (on_input n m (Submit reading request) x) (input_holds n m (above x.sealed) x S X (omega arith) (Submit reading request))

  effect_holds : (m : ℕ) (j : Job) (x : Node) → Sound x → Closes x → EffectHolds (above x.sealed) (effect language n w m j x)
  effect_holds m (Local i) x S X = handed m i x S X
  effect_holds m (Delivery k reading) x S X = go (nth w.sent k)
    where
      go : (o : Option Message) → EffectHolds (above x.sealed) (option_map_or (λ (p : Message). on_message language n m reading p x) o Nothing)
      go None = tt
      go (Some p) = message_holds language n m reading p x S X

  done_onward : (m : ℕ) (x : Node) (o : Effect) → nth w.nodes m ≡ Some x → EffectHolds (above x.sealed) o → Onward w (done w m o)
  done_onward m x Nothing l h = stays
  done_onward m x (Refuses refusal) l h = stays
  done_onward m x (Moves a) l h = stepped m x a l h.node (λ u v. h.rises)

  torn_onward : (m : ℕ) (x : Node) (o : Effect) (left : Left) → nth w.nodes m ≡ Some x → EffectHolds (above x.sealed) o → Onward w (with_node w m (stopped (node_left left x o)) [])
  torn_onward m x o Old l h = stops_with m x x l (W.node m x l).floor
  torn_onward m x (Moves a) New l h = stops_with m x a.node l h.node.floor
  torn_onward m x (Refuses refusal) New l h = stops_with m x x l (W.node m x l).floor
  torn_onward m x Nothing New l h = stops_with m x x l (W.node m x l).floor

  does_onward : (m : ℕ) (j : Job) → Onward w (does language n w m j (nth w.nodes m))
  does_onward m j = if_there (nth w.nodes m) _ w (Onward w) (λ x e. cond_both x.up _ w (Onward w) (λ p. done_onward m x (effect language n w m j x) e (effect_holds m j x (sound m x e) (W.node m x e))) (λ p. stays)) stays

  onward : (e : Event) → Onward w (happens language n w e)
  onward (Hand m i) = does_onward m (Local i)
  onward (Deliver k reading) = if_there (nth w.sent k) _ w (Onward w) (λ p e. does_onward p.addressee (Delivery k reading)) stays
  onward (Stop m) = if_there (nth w.nodes m) _ w (Onward w) (λ x e. cond_both x.up _ w (Onward w) (λ p. stops_with m x x e (W.node m x e).floor) (λ p. stays)) stays
  onward (Start m) = if_there (nth w.nodes m) _ w (Onward w) (λ x e. cond_both x.up w _ (Onward w) (λ p. stays)
      (λ p. stepped m x (record { node = started x; sent = [] }) e (record { floor = (W.node m x e).floor; told = omega arith; apart = λ s q. absurd (none_some None s refl q) }) (λ u v. absurd (let z = p in cc)))) stays
  onward (Torn m j left) = if_there (nth w.nodes m) _ w (Onward w) (λ x e. cond_both (x.up && is_for w m j) _ w (Onward w)
      (λ p. torn_onward m x (effect language n w m j x) left e (effect_holds m j x (sound m x e) (W.node m x e))) (λ p. stays)) stays
  onward (Ask m q) = stays

-- ---- runs

good_sound : (n m : ℕ) (g : Ghost) (x : Node) → GoodGhost n g → GoodNode n g m x → Sound x
good_sound n m g x G X = record {
  fits = X.fits;
  stamps = λ j e p. ((G.reign e.term).rising).within j e (same_get j e (X.known.at j e p) (omega arith) p);
}

module _ (language : Language) (n : ℕ) where
  event_onward : (g : Ghost) (w : World) → Good n g w → ClosingWorld w → (e : Event) → Onward w (happens language n w e)
  event_onward g w G W e = onward language n w W (λ m x l. good_sound n m g x G.ghost (G.node m x l)) e

  run_closing : (es : List Event) (g : Ghost) (w : World) → Good n g w → ClosingWorld w → ClosingWorld (run language n w es)
  run_closing [] g w G W = W
  run_closing (e ∷ es) g w G W = let N = happens_ok language n g w e G in run_closing es N.ghost (happens language n w e) N.good (event_onward g w G W e).closing

  rises_along : (es : List Event) (g : Ghost) (w : World) → Good n g w → ClosingWorld w → (m : ℕ) (x : Node) → nth w.nodes m ≡ Some x
      → ((mid rest : List Event) (z : Node) → mid ++ rest ≡ es → nth (run language n w mid).nodes m ≡ Some z → z.up ≡ true)
      → (y : Node) × (nth (run language n w es).nodes m ≡ Some y) × (above x.sealed ≤ above y.sealed)
  rises_along [] g w G W m x l U = (x, l, omega arith)
  rises_along (e ∷ es) g w G W m x l U =
      let N = happens_ok language n g w e G in
      let O = event_onward g w G W e in
      let R = O.rises m x l in
      let r = R.2 (U [] (e ∷ es) x refl l) (U (e ∷ []) es R.0 refl R.1) in
      let H = rises_along es N.ghost (happens language n w e) N.good O.closing m R.0 R.1 (λ mid rest z s q. U (e ∷ mid) rest z (ap (λ v. e ∷ v) s) q) in
      (H.0, H.1, (let h = H.2 in omega arith))

module _ (language : Language) (n : ℕ) (outset : World) (O : Outset n outset) (start : ClosingWorld outset) where
  closing : (events : List Event) → ClosingWorld (run language n outset events)
  closing events = run_closing language n events O.ghost outset O.good start

  pub floors_in_time : FloorsInTime language n outset
  floors_in_time events m t x l e = instant_of x.floor t ((closing events).node m x l).floor e

  pub waiting_unapplied : WaitingUnapplied language n outset
  waiting_unapplied events m s x l e = ((closing events).node m x l).apart s e

  pub sealed_rises : SealedRises language n outset
  sealed_rises early late m t x y l k U s =
      let N = reached language n outset O early in
      let joined : (es : List Event) → run language n outset (early ++ es) ≡ run language n (run language n outset early) es = λ es. run_append language n early es outset in
      let H = rises_along language n late N.ghost (run language n outset early) N.good (closing early) m x l (λ mid rest z e q. U mid rest z e (subst (λ v. nth v.nodes m ≡ Some z) (sym (joined mid)) q)) in
      let same : H.0 ≡ y = same_some (nth (run language n outset (early ++ late)).nodes m) H.0 y (subst (λ v. nth v.nodes m ≡ Some H.0) (sym (joined late)) H.1) k in
      at y.sealed refl (subst (λ (v : Node). above x.sealed ≤ above v.sealed) same H.2)
    where
      at : (o : Option ℕ) → y.sealed ≡ o → above x.sealed ≤ above y.sealed → (u : ℕ) × (y.sealed ≡ Some u) × (t ≤ u)
      at None e h = absurd (let a = ap above e in let b = ap above s in omega arith)
      at (Some u) e h = (u, e, (let a = ap above e in let b = ap above s in omega arith))

-- ---- the outsets

fresh_closes : (term : ℕ) (vote : Option ℕ) → Closes (fresh term vote)
fresh_closes term vote = record { floor = omega arith; told = omega arith; apart = λ s e. absurd (none_some None s refl e) }

pub new_closing : (n : ℕ) → ClosingWorld (new_world n)
new_closing n = record { node = λ m. get_replicate Closes n (fresh 0 None) (fresh_closes 0 None) m }

led_node : (more m : ℕ) (x : Node) → nth (led_nodes (suc more)) m ≡ Some x → Closes x
led_node more zero x e = absurd (none_some (nth (led_nodes (suc more)) 0) x refl e)
led_node more (suc zero) x e = let q : first_leader more ≡ x = (cc) in subst Closes q (record { floor = omega arith; told = omega arith; apart = λ s h. absurd (none_some None s refl h) })
led_node more (suc (suc m)) x e = found_replicate Closes more (fresh 1 (Some 1)) (fresh_closes 1 (Some 1)) m x e

no_node : {A : Type 0} (m : ℕ) (x : Node) → nth [] m ≡ Some x → A
no_node zero x e = absurd (none_some (nth {A = Node} [] 0) x refl e)
no_node (suc m) x e = absurd (none_some (nth {A = Node} [] (suc m)) x refl e)

pub led_closing : (n : ℕ) → ClosingWorld (led_world n)
led_closing zero = record { node = λ m x e. no_node m x e }
led_closing (suc more) = record { node = led_node more }
