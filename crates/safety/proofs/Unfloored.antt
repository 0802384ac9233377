-- Where no event asks for a floor, nobody has one, and no message tells of one.
use Rattle.std.proofs.Common.{◌≡◌, ◌+◌, ℕ, zero, suc, ◌&&◌, ◌||◌, Bool, true, false, not, Option, Some, None, is_some, Result, Ok, Err, List, [], ◌∷◌, ◌++◌, map, length, slice_get, refl, ap, ◌∙◌, subst}
use Rattle.std.specs.Prelude.{nat_lt, nat_le, ◌==◌, ℤ}
use Rattle.std.specs.List.{list_all}
use Rattle.std.proofs.lemmas.Bool.{cond_both, and_parts}
use Rattle.std.specs.Option.{option_map_or}
use Rattle.model.specs.Lists.{nth, nth_or}
use Rattle.model.specs.Stamps.{above, greater}
use Rattle.model.specs.Logs.{closed}
use Rattle.fault.specs.declared.refusal.Refusal.{Refusal}
use Rattle.fault.specs.declared.refusal.Refusal.TheVariants.{NotLeader, TimeFull, LogFull, TermFull}
use Rattle.model.specs.Transactions.{Language, Statement}
use Rattle.model.specs.declared.entry.Entry.{Entry}
use Rattle.model.specs.declared.entry.Request.{Request}
use Rattle.model.specs.declared.member.SealedFloor.{SealedFloor}
use Rattle.model.specs.declared.message.Message.{Message}
use Rattle.model.specs.declared.message.Body.{Body}
use Rattle.model.specs.declared.message.Body.TheVariants.{RequestVote, Vote, Append, Reply, Seek, Stored, Seal}
use Rattle.model.specs.declared.message.Input.{Input}
use Rattle.model.specs.declared.message.Input.TheVariants.{Timeout, Beat, Close, Submit, Floor}
use Rattle.model.specs.Members.{Node, last_term, applied, is_leader, is_candidate, is_majority, is_in, stands, others}
use Rattle.model.specs.Steps.{Effect, Moves, Refuses, Nothing, After, append_to, append_to_all, in_term, hears, tell_all, stands_up, time_out, is_time_full, is_log_full, extended, append_own, on_input, grants, on_request_vote, counted, crowned, on_vote, seal_floor, unapplied, settled, accepted, cuts_below, continues, follows, takes_entries, on_append, noted, commits, on_reply_yes, on_reply_no, on_reply, on_body, on_message, is_honest, TERM_LAST, LOG_LIMIT}
use Rattle.model.specs.Worlds.{World, Event, Hand, Deliver, Stop, Start, Torn, Ask, hand, effect, with_node, stopped, started, done, node_left, does, is_for, happens, fresh, new_world, led_world, led_nodes, first_leader, run}
use Rattle.model.specs.declared.event.Job.{Job}
use Rattle.model.specs.declared.event.Job.TheVariants.{Local, Delivery}
use Rattle.model.specs.declared.event.Left.{Left}
use Rattle.model.specs.declared.event.Left.TheVariants.{Old, New}
use Rattle.safety.specs.Floors.{is_floor_input, is_floor_job, is_floor_event, is_floorless, IsFloorless, NoFloors}
use Rattle.safety.proofs.Lists.{if_there, none_some, get_with, get_replicate, found_replicate}

-- a member that has and knows of no floor
pub record Unfloored (x : Node) : Type 0 where
  pub floor : x.floor ≡ None
  pub told : x.told ≡ None
  pub sealed : x.sealed ≡ None
  pub waiting : x.waiting ≡ None

pub record Floorless (p : Message) : Type 0 where
  pub body : is_floorless p.body ≡ true

pub data AllFloorless : List Message → Type 0 where
  none : AllFloorless []
  one : {x : Message} {xs : List Message} → Floorless x → AllFloorless xs → AllFloorless (x ∷ xs)

pub record Spares (a : After) : Type 0 where
  pub node : Unfloored a.node
  pub sent : AllFloorless a.sent

abbrev pub EffectSpares : Effect → Type 0
EffectSpares Nothing = Unit {0}
EffectSpares (Refuses refusal) = Unit {0}
EffectSpares (Moves a) = Spares a

all_map : (f : ℕ → Message) → ((y : ℕ) → Floorless (f y)) → (L : List ℕ) → AllFloorless (map f L)
all_map f h [] = none
all_map f h (y ∷ ys) = one (h y) (all_map f h ys)

appends : (n : ℕ) (x : Node) (m : ℕ) → AllFloorless (append_to_all n x m)
appends n x m = all_map (append_to x m) (λ y. record { body = refl }) (others n m)

none_greater : (a b : Option ℕ) → a ≡ None → b ≡ None → greater a b ≡ None
none_greater a b p q = rw (p, q) refl

no_floor_counts : (x : Node) (o : Option SealedFloor) → o ≡ None → (seal_floor x o ≡ None) × (unapplied x o ≡ None)
no_floor_counts x None e = (refl, refl)
no_floor_counts x (Some s) e = absurd (cc)

settles : (x : Node) → Unfloored x → Unfloored (settled x)
settles x X = let c = no_floor_counts x x.waiting X.waiting in
    record { floor = X.floor; told = X.told; sealed = none_greater x.sealed (seal_floor x x.waiting) X.sealed c.0; waiting = c.1 }

no_some : (o : Option ℕ) → not (is_some o) ≡ true → o ≡ None
no_some None e = refl
no_some (Some t) e = absurd (let z : false ≡ true = e in cc)

none_told : (o : Option ℕ) → o ≡ None → not (is_some o) ≡ true
none_told o e = rw e refl

heard : (t : ℕ) (x : Node) → Unfloored x → Unfloored (hears t x)
unfolding hears
heard t x X = cond_both (nat_lt x.term t) (in_term t x) x Unfloored (λ p. record { floor = X.floor; told = refl; sealed = X.sealed; waiting = X.waiting }) (λ p. X)

module _ (n m : ℕ) (x : Node) (X : Unfloored x) where
  -- the same floors as before
  alike : (y : Node) → y.floor ≡ x.floor → y.told ≡ x.told → y.sealed ≡ x.sealed → y.waiting ≡ x.waiting → Unfloored y
  alike y a b c d = record { floor = a ∙ X.floor; told = b ∙ X.told; sealed = c ∙ X.sealed; waiting = d ∙ X.waiting }

  untold : (y : Node) → y.floor ≡ x.floor → y.told ≡ None → y.sealed ≡ x.sealed → y.waiting ≡ x.waiting → Unfloored y
  untold y a b c d = record { floor = a ∙ X.floor; told = b; sealed = c ∙ X.sealed; waiting = d ∙ X.waiting }

  times_out : EffectSpares (time_out n m x)
  unfolding time_out
  times_out = cond_both (is_leader x.role) Nothing _ EffectSpares (λ p. tt)
      (λ p. cond_both (nat_le TERM_LAST x.term) (Refuses TermFull) (Moves (record { node = stands_up n m x; sent = tell_all n (stands_up n m x) m (RequestVote (length x.log) (last_term x.log)) })) EffectSpares (λ q. tt)
      (λ q. record { node = untold (stands_up n m x) refl refl refl refl; sent = all_map (λ to. record { sender = m; addressee = to; term = x.term + 1; body = RequestVote (length x.log) (last_term x.log) }) (λ y. record { body = refl }) (others n m) }))

  appends_own : (reading : ℤ) (request : Option Request) → EffectSpares (append_own n m reading request x)
  unfolding append_own
  appends_own reading request =
      cond_both (not (is_leader x.role)) (Refuses (NotLeader x.known)) _ EffectSpares (λ p. tt)
      (λ p. cond_both (is_time_full x.floor x.log) (Refuses TimeFull) _ EffectSpares (λ q. tt)
      (λ q. cond_both (is_log_full x.log) (Refuses LogFull) (Moves (record { node = extended reading request x; sent = append_to_all n (extended reading request x) m })) EffectSpares (λ s. tt)
      (λ s. record { node = alike (extended reading request x) refl refl refl refl; sent = appends n (extended reading request x) m })))

  pub input_spares : (i : Input) → is_floor_input i ≡ false → EffectSpares (on_input n m i x)
  input_spares Timeout e = times_out
  input_spares Beat e = cond_both (is_leader x.role) (Moves (record { node = x; sent = append_to_all n x m })) Nothing EffectSpares (λ p. record { node = X; sent = appends n x m }) (λ p. tt)
  input_spares (Close reading) e = appends_own reading None
  input_spares (Floor reading) e = absurd (let z : true ≡ false = e in cc)
  input_spares (Submit reading request) e = appends_own reading (Some request)

  votes : (c T i t : ℕ) → Spares (on_request_vote m c T i t x)
  unfolding on_request_vote
  votes c T i t = cond_both (grants c T i t x) _ _ Spares
      (λ p. record { node = alike (record x { vote = Some c }) refl refl refl refl; sent = one (record { body = none_told x.floor X.floor }) none })
      (λ p. record { node = X; sent = one (record { body = none_told x.floor X.floor }) none })

  vote_counted : (reading : ℤ) (sender T : ℕ) (given : Bool) (floor : Option ℕ) → floor ≡ None → Spares (on_vote n m reading sender T given floor x)
  unfolding on_vote
  vote_counted reading sender T given floor e =
      cond_both (given && (T == x.term) && is_candidate x.role) _ (record { node = x; sent = [] }) Spares
      (λ p. cond_both (is_majority n (is_in (counted sender floor x).votes)) _ (record { node = counted sender floor x; sent = [] }) Spares
      (λ q. cond_both (is_time_full (crowned n (counted sender floor x)).floor x.log || is_log_full x.log) (crowned n (counted sender floor x)) (extended reading None (crowned n (counted sender floor x))) (λ z. Spares (record { node = z; sent = append_to_all n z m }))
      (λ r. record { node = leads (crowned n (counted sender floor x)) refl refl refl refl; sent = appends n (crowned n (counted sender floor x)) m })
      (λ r. record { node = leads (extended reading None (crowned n (counted sender floor x))) refl refl refl refl; sent = appends n (extended reading None (crowned n (counted sender floor x))) m }))
      (λ q. record { node = record { floor = X.floor; told = all_told; sealed = X.sealed; waiting = X.waiting }; sent = none }))
      (λ p. record { node = X; sent = none })
    where
      all_told : greater x.told floor ≡ None
      all_told = none_greater x.told floor X.told e

      leads : (y : Node) → y.floor ≡ greater x.floor (greater x.told floor) → y.told ≡ None → y.sealed ≡ x.sealed → y.waiting ≡ x.waiting → Unfloored y
      leads y a b c d = record { floor = a ∙ none_greater x.floor (greater x.told floor) X.floor all_told; told = b; sealed = c ∙ X.sealed; waiting = d ∙ X.waiting }

  appended : (sender T p t : ℕ) (es : List Entry) (c : ℕ) → EffectSpares (on_append m sender T p t es c x)
  unfolding on_append
  appended sender T p t es c =
      cond_both (nat_lt T x.term) _ _ EffectSpares (λ q. record { node = X; sent = one (record { body = refl }) none })
      (λ q. cond_both (is_leader x.role) Nothing _ EffectSpares (λ r. tt)
      (λ r. cond_both (not (stands x.log p t)) _ _ EffectSpares (λ s. record { node = untold (follows sender x) refl refl refl refl; sent = one (record { body = refl }) none })
      (λ s. cond_both (not (continues x.log p T es) || cuts_below x.commit x.log p es || nat_lt LOG_LIMIT (length (accepted x.log p es))) Nothing _ EffectSpares (λ u. tt)
      (λ u. record { node = settles (takes_entries p es c (follows sender x)) (untold (takes_entries p es c (follows sender x)) refl refl refl refl); sent = one (record { body = refl }) none }))))

  replied_yes : (sender k : ℕ) → EffectSpares (on_reply_yes n m sender k x)
  unfolding on_reply_yes
  replied_yes sender k = cond_both (nat_lt (length x.log) k) Nothing _ EffectSpares (λ p. tt)
      (λ p. record {
        node = settles (commits n m (noted sender k x)) (alike (commits n m (noted sender k x)) refl refl refl refl);
        sent = cond_both (nat_lt x.commit (settled (commits n m (noted sender k x))).commit) _ _ AllFloorless (λ q. appends n (settled (commits n m (noted sender k x))) m)
            (λ q. cond_both (nat_le (nth_or (settled (commits n m (noted sender k x))).next sender 0) (length x.log)) _ [] AllFloorless (λ r. one (record { body = refl }) none) (λ r. none));
      })

  replied_no : (sender : ℕ) → EffectSpares (on_reply_no m sender x)
  unfolding on_reply_no
  replied_no sender = record { node = alike _ refl refl refl refl; sent = one (record { body = refl }) none }

  replied : (sender T : ℕ) (ok : Bool) (k : ℕ) → EffectSpares (on_reply n m sender T ok k x)
  replied sender T ok k = cond_both (is_leader x.role && (T == x.term)) _ _ EffectSpares
      (λ p. cond_both ok _ _ EffectSpares (λ o. replied_yes sender k) (λ o. replied_no sender))
      (λ p. record { node = X; sent = none })

  body_spares : (reading : ℤ) (from T : ℕ) (b : Body) → is_floorless b ≡ true → EffectSpares (on_body n m reading from T b x)
  body_spares reading from T (RequestVote i t) e = votes from T i t
  body_spares reading from T (Vote given floor) e = vote_counted reading from T given floor (no_some floor e)
  body_spares reading from T (Append p pt es c) e = appended from T p pt es c
  body_spares reading from T (Reply ok k) e = replied from T ok k
  body_spares reading from T (Seek k t) e = absurd (let z : false ≡ true = e in cc)
  body_spares reading from T (Stored k t) e = absurd (let z : false ≡ true = e in cc)
  body_spares reading from T (Seal k t) e = absurd (let z : false ≡ true = e in cc)

message_spares : (language : Language) (n m : ℕ) (reading : ℤ) (p : Message) (x : Node) → Unfloored x → Floorless p → EffectSpares (on_message language n m reading p x)
message_spares language n m reading p x X P = cond_both (is_honest language n m p) (on_body n m reading p.sender p.term p.body (hears p.term x)) Nothing EffectSpares
    (λ h. body_spares n m (hears p.term x) (heard p.term x X) reading p.sender p.term p.body P.body) (λ h. tt)

-- ---- worlds

pub record UnflooredWorld (w : World) : Type 0 where
  pub node : (m : ℕ) (x : Node) → nth w.nodes m ≡ Some x → Unfloored x
  pub sent : AllFloorless w.sent

all_append : (xs ys : List Message) → AllFloorless xs → AllFloorless ys → AllFloorless (xs ++ ys)
all_append [] ys none h = h
all_append (x ∷ xs) ys (one p t) h = one p (all_append xs ys t h)

all_get : (xs : List Message) (k : ℕ) (x : Message) → AllFloorless xs → slice_get xs k ≡ Some x → Floorless x
all_get [] k x none e = absurd (none_some (slice_get {X = Message} [] k) x refl e)
all_get (y ∷ ys) zero x (one p t) e = let q : y ≡ x = (cc) in subst Floorless q p
all_get (y ∷ ys) (suc k) x (one p t) e = all_get ys k x t e

all_nth : (xs : List Message) (k : ℕ) (x : Message) → AllFloorless xs → nth xs k ≡ Some x → Floorless x
all_nth xs zero x A e = absurd (none_some (nth xs 0) x refl e)
all_nth xs (suc k) x A e = all_get xs k x A e

unfloored_stopped : (x : Node) → Unfloored x → Unfloored (stopped x)
unfloored_stopped x X = record { floor = X.floor; told = refl; sealed = refl; waiting = refl }

module _ (language : Language) (n : ℕ) (w : World) (W : UnflooredWorld w) where
  stepped : (m : ℕ) (a : After) → Spares a → UnflooredWorld (with_node w m a.node a.sent)
  stepped m a S = record { node = get_with (λ k z. Unfloored z) w.nodes m a.node S.node (λ k z ne e. W.node k z e); sent = all_append w.sent a.sent W.sent S.sent }

  changed : (m : ℕ) (z : Node) → Unfloored z → UnflooredWorld (with_node w m z [])
  changed m z Z = stepped m (record { node = z; sent = [] }) (record { node = Z; sent = none })

  unless_spares : (r : Result (List Statement) Refusal) (e : Effect) → EffectSpares e → EffectSpares (elim (r) [ Ok ss ↦ e | Err refusal ↦ Refuses refusal ])
  unless_spares (Ok ss) e h = h
  unless_spares (Err refusal) e h = tt

  handed : (m : ℕ) (i : Input) (x : Node) → Unfloored x → is_floor_input i ≡ false → EffectSpares (hand language n m i x)
  handed m Timeout x X e = input_spares n m x X Timeout e
  handed m Beat x X e = input_spares n m x X Beat e
  handed m (Close reading) x X e = input_spares n m x X (Close reading) e
  handed m (Floor reading) x X e = input_spares n m x X (Floor reading) e
  handed m (Submit reading request) x X e = unless_spares (language.reads request.text) (on_input n m (Submit reading request) x) (input_spares n m x X (Submit reading request) e)

  effect_spares : (m : ℕ) (j : Job) (x : Node) → Unfloored x → is_floor_job j ≡ false → EffectSpares (effect language n w m j x)
  effect_spares m (Local i) x X e = handed m i x X e
  effect_spares m (Delivery k reading) x X e = go (nth w.sent k) refl
    where
      go : (o : Option Message) → nth w.sent k ≡ o → EffectSpares (option_map_or (λ (p : Message). on_message language n m reading p x) o Nothing)
      go None q = tt
      go (Some p) q = message_spares language n m reading p x X (all_nth w.sent k p W.sent q)

  done_unfloored : (m : ℕ) (o : Effect) → EffectSpares o → UnflooredWorld (done w m o)
  done_unfloored m Nothing S = W
  done_unfloored m (Refuses refusal) S = W
  done_unfloored m (Moves a) S = stepped m a S

  torn_unfloored : (m : ℕ) (x : Node) (o : Effect) (left : Left) → Unfloored x → EffectSpares o → UnflooredWorld (with_node w m (stopped (node_left left x o)) [])
  torn_unfloored m x o Old X S = changed m (stopped x) (unfloored_stopped x X)
  torn_unfloored m x (Moves a) New X S = changed m (stopped a.node) (unfloored_stopped a.node S.node)
  torn_unfloored m x (Refuses refusal) New X S = changed m (stopped x) (unfloored_stopped x X)
  torn_unfloored m x Nothing New X S = changed m (stopped x) (unfloored_stopped x X)

  does_unfloored : (m : ℕ) (j : Job) → is_floor_job j ≡ false → UnflooredWorld (does language n w m j (nth w.nodes m))
  does_unfloored m j f = if_there (nth w.nodes m) _ w UnflooredWorld (λ x e. cond_both x.up _ w UnflooredWorld (λ p. done_unfloored m (effect language n w m j x) (effect_spares m j x (W.node m x e) f)) (λ p. W)) W

  happens_unfloored : (e : Event) → is_floor_event e ≡ false → UnflooredWorld (happens language n w e)
  happens_unfloored (Hand m i) f = does_unfloored m (Local i) f
  happens_unfloored (Deliver k reading) f = if_there (nth w.sent k) _ w UnflooredWorld (λ p e. does_unfloored p.addressee (Delivery k reading) f) W
  happens_unfloored (Stop m) f = if_there (nth w.nodes m) _ w UnflooredWorld (λ x e. cond_both x.up _ w UnflooredWorld (λ p. changed m (stopped x) (unfloored_stopped x (W.node m x e))) (λ p. W)) W
  happens_unfloored (Start m) f = if_there (nth w.nodes m) _ w UnflooredWorld (λ x e. cond_both x.up w _ UnflooredWorld (λ p. W)
      (λ p. let S = unfloored_stopped x (W.node m x e) in changed m (started x) (record { floor = S.floor; told = S.told; sealed = S.sealed; waiting = S.waiting }))) W
  happens_unfloored (Torn m j left) f = if_there (nth w.nodes m) _ w UnflooredWorld (λ x e. cond_both (x.up && is_for w m j) _ w UnflooredWorld
      (λ p. torn_unfloored m x (effect language n w m j x) left (W.node m x e) (effect_spares m j x (W.node m x e) f)) (λ p. W)) W
  happens_unfloored (Ask m q) f = W

not_true : (b : Bool) → not b ≡ true → b ≡ false
not_true true e = absurd (let z : false ≡ true = e in cc)
not_true false e = refl

run_unfloored : (language : Language) (n : ℕ) (es : List Event) (w : World) → UnflooredWorld w → list_all (λ e. not (is_floor_event e)) es ≡ true → UnflooredWorld (run language n w es)
run_unfloored language n [] w W f = W
run_unfloored language n (e ∷ es) w W f = let q = and_parts (not (is_floor_event e)) (list_all (λ v. not (is_floor_event v)) es) f in
    run_unfloored language n es (happens language n w e) (happens_unfloored language n w W e (not_true (is_floor_event e) q.0)) q.1

-- the words of the claim
greater_none : (a b : Option ℕ) → b ≡ None → greater a b ≡ a
greater_none None b e = e
greater_none (Some t) b e = ap (greater (Some t)) e

floorless : (x : Node) → Unfloored x → IsFloorless x
floorless x X = record {
  floor = X.floor;
  closed_by = greater_none (closed (applied x)) x.sealed X.sealed;
  stamps = ap above (greater_none (closed x.log) x.floor X.floor);
}

pub no_floors : (language : Language) (n : ℕ) (outset : World) → UnflooredWorld outset → NoFloors language n outset
no_floors language n outset O events f = let W = run_unfloored language n events outset O f in
    ((λ m x l. floorless x (W.node m x l)), (λ k p l. (all_nth (run language n outset events).sent k p W.sent l).body))

unfloored_fresh : (term : ℕ) (vote : Option ℕ) → Unfloored (fresh term vote)
unfloored_fresh term vote = record { floor = refl; told = refl; sealed = refl; waiting = refl }

pub new_unfloored : (n : ℕ) → UnflooredWorld (new_world n)
new_unfloored n = record { node = λ m. get_replicate Unfloored n (fresh 0 None) (unfloored_fresh 0 None) m; sent = none }

led_node : (more m : ℕ) (x : Node) → nth (led_nodes (suc more)) m ≡ Some x → Unfloored x
led_node more zero x e = absurd (none_some (nth (led_nodes (suc more)) 0) x refl e)
led_node more (suc zero) x e = let q : first_leader more ≡ x = (cc) in subst Unfloored q (record { floor = refl; told = refl; sealed = refl; waiting = refl })
led_node more (suc (suc m)) x e = found_replicate Unfloored more (fresh 1 (Some 1)) (unfloored_fresh 1 (Some 1)) m x e

no_node : {A : Type 0} (m : ℕ) (x : Node) → nth [] m ≡ Some x → A
no_node zero x e = absurd (none_some (nth {A = Node} [] 0) x refl e)
no_node (suc m) x e = absurd (none_some (nth {A = Node} [] (suc m)) x refl e)

pub led_unfloored : (n : ℕ) → UnflooredWorld (led_world n)
led_unfloored zero = record { node = λ m x e. no_node m x e; sent = none }
led_unfloored (suc more) = record { node = led_node more; sent = none }
