-- Floors only rise, and what is sealed is the floor of a seal that exists: what each step adds to the moments of a run.
use Rattle.std.proofs.Common.{◌≡◌, ℕ, suc, ◌+◌, ◌-◌, ◌<◌, ◌≤◌, ◌&&◌, ◌||◌, Bool, true, false, cond, not, max, min, Option, Some, None, List, [], ◌∷◌, ◌++◌, map, length, take, drop, replicate, slice_get, refl, sym, ap, ◌∙◌, subst, arith, eqb-true, ltb-false, length-take}
use Rattle.std.specs.Prelude.{nat_lt, nat_le, ◌==◌, ℤ}
use Rattle.std.proofs.lemmas.Bool.{cond_both, and_parts, and_cases, or_parts, eq-eqb, eqb-false}
use Rattle.model.specs.Lists.{nth, nth_or, with_nth}
use Rattle.model.specs.Stamps.{above, greater}
use Rattle.model.specs.Logs.{last_entry, closed}
use Rattle.fault.specs.declared.refusal.Refusal.TheVariants.{NotLeader, TimeFull, LogFull, TermFull}
use Rattle.model.specs.declared.entry.Entry.{Entry}
use Rattle.model.specs.declared.entry.Request.{Request}
use Rattle.model.specs.declared.member.AskedFloor.{AskedFloor}
use Rattle.model.specs.declared.member.SealedFloor.{SealedFloor}
use Rattle.model.specs.declared.message.Message.{Message}
use Rattle.model.specs.declared.message.Body.{Body}
use Rattle.model.specs.declared.message.Body.TheVariants.{RequestVote, Vote, Append, Reply, Seek, Stored, Seal}
use Rattle.model.specs.declared.message.Input.{Input}
use Rattle.model.specs.declared.message.Input.TheVariants.{Timeout, Beat, Close, Submit, Floor}
use Rattle.model.specs.Transactions.{Language}
use Rattle.model.specs.Members.{Node, last_term, is_leader, is_candidate, is_majority, is_in, has_term, stands, agreed, others}
use Rattle.model.specs.Steps.{Effect, Moves, Refuses, Nothing, After, append_to, append_to_all, tell_all, in_term, hears, stands_up, time_out, is_time_full, is_log_full, extended, append_own, next_floor, asking, ask_floor, on_input, grants, on_request_vote, counted, crowned, on_vote, is_applied, seal_floor, unapplied, learned, settled, accepted, cuts_below, continues, follows, takes_entries, on_append, noted, commits, on_reply_yes, on_reply_no, on_reply, stores, on_seek, asks_for, with_stored, on_stored, on_body, on_message, is_honest, TERM_LAST, LOG_LIMIT}
use Rattle.safety.specs.Floors.{HadFloor, AskedFor, SealExists, IsSealedIn}
use Rattle.safety.proofs.Lists.{cases, none_some, get_within, get_append, get_take, at_with, at_replicate, above_greater, greater_either}
use Rattle.safety.proofs.Seals.{HasEntry, has_entry, unapplied_is, waiting_either}
use Rattle.safety.proofs.Lead.{leader_role}
use Rattle.safety.proofs.Storing.{asked_is, floor_high}

-- what is said of a member's floors
pub record Traced (Was : ℕ → Node → Type 0) (n term : ℕ) (asks : Option AskedFloor) (holders : List Bool) (L : List Entry) (c : ℕ) (seals : Option ℕ) (waits : Option SealedFloor) : Type 0 where
  pub asked : (a : AskedFloor) → asks ≡ Some a → AskedFor Was term a.index a.floor
  pub stored : (a : AskedFloor) (y : ℕ) → asks ≡ Some a → is_in holders y ≡ true → HadFloor Was y term a.floor
  pub sealed : (t : ℕ) → seals ≡ Some t → IsSealedIn Was n (take c L) t
  pub waiting : (s : SealedFloor) → waits ≡ Some s → SealExists Was n s.term s.index s.floor

abbrev pub TracedNode : (ℕ → Node → Type 0) → ℕ → Node → Type 0
TracedNode Was n x = Traced Was n x.term x.asked x.stored x.log x.commit x.sealed x.waiting

abbrev pub TracedBody : (ℕ → Node → Type 0) → ℕ → ℕ → ℕ → Body → Type 0
TracedBody Was n from T (RequestVote i t) = Unit {0}
TracedBody Was n from T (Vote given floor) = Unit {0}
TracedBody Was n from T (Append p pt es c) = Unit {0}
TracedBody Was n from T (Reply ok k) = Unit {0}
TracedBody Was n from T (Seek k t) = Unit {0}
TracedBody Was n from T (Stored k t) = HadFloor Was from T t
TracedBody Was n from T (Seal k t) = SealExists Was n T k t

pub record TracedMessage (Was : ℕ → Node → Type 0) (n : ℕ) (p : Message) : Type 0 where
  pub body : TracedBody Was n p.sender p.term p.body

pub data AllTraced (Was : ℕ → Node → Type 0) (n : ℕ) : List Message → Type 0 where
  none : AllTraced Was n []
  one : {x : Message} {xs : List Message} → TracedMessage Was n x → AllTraced Was n xs → AllTraced Was n (x ∷ xs)

-- what a step of member m leaves, once that is a moment of the run; the floor was f
pub record Traces (Was : ℕ → Node → Type 0) (n m f : ℕ) (a : After) : Type 0 where
  pub rises : f ≤ above a.node.floor
  pub node : Was m a.node → TracedNode Was n a.node
  pub sent : Was m a.node → AllTraced Was n a.sent

abbrev pub EffectTraces : (ℕ → Node → Type 0) → ℕ → ℕ → ℕ → Effect → Type 0
EffectTraces Was n m f Nothing = Unit {0}
EffectTraces Was n m f (Refuses refusal) = Unit {0}
EffectTraces Was n m f (Moves a) = Traces Was n m f a

-- ---- logs: what is applied stays there

abbrev pub Keeps : ℕ → List Entry → List Entry → Type 0
Keeps c L M = (i : ℕ) (e : Entry) → i < c → slice_get L i ≡ Some e → slice_get M i ≡ Some e

there_still : (c d : ℕ) (L M : List Entry) (k T : ℕ) → Keeps c L M → c ≤ d → HasEntry (take c L) k T → has_term (nth (take d M) k) T ≡ true
there_still c d L M k T keep l E =
    let w = get_within (take c L) E.place E.entry E.there in
    let i : E.place < c = omega (arith, length-take c L) in
    let h : slice_get (take d M) E.place ≡ Some E.entry = get_take d M E.place (omega arith) ∙ keep E.place E.entry i (sym (get_take c L E.place i) ∙ E.there) in
    subst (λ z. has_term (nth (take d M) z) T ≡ true) (sym E.size) (subst (λ o. has_term o T ≡ true) (sym h) (eq-eqb E.entry.term T E.own))

agreed_high : (L : List Entry) (i : ℕ) (es : List Entry) → agreed L i es ≤ i + length es
agreed_high L i [] = omega arith
agreed_high L i (e ∷ es) = cond_both (has_term (nth L (suc i)) e.term) (agreed L (i + 1) es) i (λ j. j ≤ i + length (e ∷ es)) (λ p. (let a = agreed_high L (i + 1) es in omega arith)) (λ p. omega arith)

-- an accepted Append cuts nothing that is applied
accepted_keeps : (c : ℕ) (L : List Entry) (p : ℕ) (es : List Entry) → cuts_below c L p es ≡ false → Keeps c L (accepted L p es)
accepted_keeps c L p es b = go (agreed L p es) (agreed_high L p es) b
  where
    go : (j : ℕ) → j ≤ p + length es → (nat_lt j (p + length es) && nat_lt j c) ≡ false → Keeps c L (cond (j == (p + length es)) L (take j L ++ drop (j - p) es))
    go j h q i e l s = cond_both (j == (p + length es)) L (take j L ++ drop (j - p) es) (λ M. slice_get M i ≡ Some e) (λ u. s)
        (λ u. let ne = eqb-false j (p + length es) u in
        let k : c ≤ j = cases (and_cases _ _ q) (λ v. absurd (ne (let z = ltb-false j (p + length es) v in omega arith))) (λ v. ltb-false j c v) in
        let w = get_within L i e s in
        get_append (take j L) (drop (j - p) es) i (omega (arith, length-take j L)) ∙ get_take j L i (omega arith) ∙ s)

-- ---- what stays

module _ (Was : ℕ → Node → Type 0) (n : ℕ) where
  all_map : (f : ℕ → Message) → ((y : ℕ) → TracedMessage Was n (f y)) → (L : List ℕ) → AllTraced Was n (map f L)
  all_map f h [] = none
  all_map f h (y ∷ ys) = one (h y) (all_map f h ys)

  appends : (x : Node) (m : ℕ) → AllTraced Was n (append_to_all n x m)
  appends x m = all_map (append_to x m) (λ y. record { body = tt }) (others n m)

  -- a member that asks for nothing
  silent : (term other : ℕ) (asks : Option AskedFloor) (S : List Bool) (L : List Entry) (c : ℕ) (seals : Option ℕ) (waits : Option SealedFloor) → Traced Was n term asks S L c seals waits → Traced Was n other None [] L c seals waits
  silent term other asks S L c seals waits X = record { asked = λ a e. absurd (none_some None a refl e); stored = λ a y e i. absurd (none_some None a refl e); sealed = X.sealed; waiting = X.waiting }

  -- more of a log that keeps what was applied
  longer : (term : ℕ) (asks : Option AskedFloor) (S : List Bool) (L M : List Entry) (c d : ℕ) (seals : Option ℕ) (waits : Option SealedFloor) → Keeps c L M → c ≤ d → Traced Was n term asks S L c seals waits → Traced Was n term asks S M d seals waits
  longer term asks S L M c d seals waits keep l X = record {
    asked = X.asked;
    stored = X.stored;
    sealed = λ t e. (let Z = X.sealed t e in record { term = Z.term; index = Z.index; seal = Z.seal; there = there_still c d L M Z.index Z.term keep l (has_entry (take c L) Z.index Z.term Z.there) });
    waiting = X.waiting;
  }

  floor_counts : (x : Node) (o : Option SealedFloor) → ((s : SealedFloor) → o ≡ Some s → SealExists Was n s.term s.index s.floor) → (t : ℕ) → seal_floor x o ≡ Some t → IsSealedIn Was n (take x.commit x.log) t
  floor_counts x None Z t e = absurd (none_some None t refl e)
  floor_counts x (Some s) Z t e = cond_both (is_applied x s) (Some s.floor) None (λ o. o ≡ Some t → IsSealedIn Was n (take x.commit x.log) t)
      (λ p q. let u : s.floor ≡ t = (cc) in subst (IsSealedIn Was n (take x.commit x.log)) u (record { term = s.term; index = s.index; seal = Z s refl; there = p }))
      (λ p q. absurd (none_some None t refl q)) e

  learns : (x : Node) (s : SealedFloor) → SealExists Was n s.term s.index s.floor → TracedNode Was n x → TracedNode Was n (learned s x)
  learns x s Z X =
      let only : (z : SealedFloor) → Some s ≡ Some z → SealExists Was n z.term z.index z.floor = λ z e. (let q : s ≡ z = (cc) in subst (λ v. SealExists Was n v.term v.index v.floor) q Z) in
      record {
        asked = X.asked;
        stored = X.stored;
        sealed = λ t e. cases (greater_either x.sealed (seal_floor x (Some s)) t e) (λ q. X.sealed t q) (λ q. floor_counts x (Some s) only t q);
        waiting = λ z e. cases (waiting_either x.waiting (unapplied x (Some s)) z e) (λ q. X.waiting z q) (λ q. only z (unapplied_is x (Some s) z q));
      }

  settles : (x : Node) → TracedNode Was n x → TracedNode Was n (settled x)
  settles x X = record {
    asked = X.asked;
    stored = X.stored;
    sealed = λ t e. cases (greater_either x.sealed (seal_floor x x.waiting) t e) (λ q. X.sealed t q) (λ q. floor_counts x x.waiting X.waiting t q);
    waiting = λ z e. X.waiting z (unapplied_is x x.waiting z e);
  }

  push_keeps : (c : ℕ) (L : List Entry) (e : Entry) → Keeps c L (L ++ e ∷ [])
  push_keeps c L e i d l p = get_append L (e ∷ []) i (get_within L i d p) ∙ p

  extends : (reading : ℤ) (request : Option Request) (x : Node) → TracedNode Was n x → TracedNode Was n (extended reading request x)
  extends reading request x X = longer x.term x.asked x.stored x.log (extended reading request x).log x.commit x.commit x.sealed x.waiting (push_keeps x.commit x.log _) (omega arith) X

  heard : (t : ℕ) (x : Node) → TracedNode Was n x → TracedNode Was n (hears t x) × ((hears t x).floor ≡ x.floor)
  unfolding hears
  heard t x X = cond_both (nat_lt x.term t) (in_term t x) x (λ y. TracedNode Was n y × (y.floor ≡ x.floor)) (λ p. (silent x.term t x.asked x.stored x.log x.commit x.sealed x.waiting X, refl)) (λ p. (X, refl))

-- ---- each step

module _ (Was : ℕ → Node → Type 0) (n m f : ℕ) (x : Node) (X : TracedNode Was n x) (same : f ≤ above x.floor) where
  -- nothing is said of floors
  calm : (a : After) → f ≤ above a.node.floor → TracedNode Was n a.node → AllTraced Was n a.sent → Traces Was n m f a
  calm a r node sent = record { rises = r; node = λ w. node; sent = λ w. sent }

  quiet : TracedNode Was n (record x { asked = None; stored = [] })
  quiet = silent Was n x.term x.term x.asked x.stored x.log x.commit x.sealed x.waiting X

  times_out : EffectTraces Was n m f (time_out n m x)
  unfolding time_out
  times_out = cond_both (is_leader x.role) Nothing _ (EffectTraces Was n m f) (λ p. tt)
      (λ p. cond_both (nat_le TERM_LAST x.term) (Refuses TermFull) (Moves (record { node = stands_up n m x; sent = tell_all n (stands_up n m x) m (RequestVote (length x.log) (last_term x.log)) })) (EffectTraces Was n m f) (λ q. tt)
      (λ q. calm _ same (silent Was n x.term (x.term + 1) x.asked x.stored x.log x.commit x.sealed x.waiting X) (all_map Was n (λ to. record { sender = m; addressee = to; term = x.term + 1; body = RequestVote (length x.log) (last_term x.log) }) (λ y. record { body = tt }) (others n m))))

  appends_own : (reading : ℤ) (request : Option Request) → EffectTraces Was n m f (append_own n m reading request x)
  unfolding append_own
  appends_own reading request =
      cond_both (not (is_leader x.role)) (Refuses (NotLeader x.known)) _ (EffectTraces Was n m f) (λ p. tt)
      (λ p. cond_both (is_time_full x.floor x.log) (Refuses TimeFull) _ (EffectTraces Was n m f) (λ q. tt)
      (λ q. cond_both (is_log_full x.log) (Refuses LogFull) (Moves (record { node = extended reading request x; sent = append_to_all n (extended reading request x) m })) (EffectTraces Was n m f) (λ s. tt)
      (λ s. calm _ same (extends Was n reading request x X) (appends Was n (extended reading request x) m))))

  asks_floor : (reading : ℤ) → EffectTraces Was n m f (ask_floor n m reading x)
  unfolding ask_floor
  asks_floor reading = cond_both (is_leader x.role && has_term (last_entry x.log) x.term) (Moves (record { node = asking n m reading x; sent = tell_all n x m (Seek (length x.log) (next_floor reading x)) })) Nothing (EffectTraces Was n m f)
      (λ p. let q = and_parts (is_leader x.role) (has_term (last_entry x.log) x.term) p in record {
        rises = (let a = floor_high reading (greater (closed x.log) x.floor) in let b = above_greater (closed x.log) x.floor in omega arith);
        node = λ w. record {
          asked = λ a e. (let s : record { index = length x.log; floor = next_floor reading x } ≡ a = (cc) in subst (λ z. AskedFor Was x.term z.index z.floor) s
              (record { member = m; node = asking n m reading x; was = w; leads = leader_role x.role q.0; in_term = refl; asks = refl; last = refl; own = q.1 }));
          stored = λ a y e i. (let s : record { index = length x.log; floor = next_floor reading x } ≡ a = (cc) in subst (λ z. HadFloor Was y x.term z.floor) s (mine w y i));
          sealed = X.sealed;
          waiting = X.waiting;
        };
        sent = λ w. all_map Was n (λ to. record { sender = m; addressee = to; term = x.term; body = Seek (length x.log) (next_floor reading x) }) (λ y. record { body = tt }) (others n m);
      })
      (λ p. tt)
    where
      mine : Was m (asking n m reading x) → (y : ℕ) → is_in (with_nth (replicate n false) m true) y ≡ true → HadFloor Was y x.term (next_floor reading x)
      mine w y = at_with (λ b. b ≡ true → HadFloor Was y x.term (next_floor reading x)) (replicate n false) m true y false
          (λ e p. subst (λ z. HadFloor Was z x.term (next_floor reading x)) (sym e) (record { node = asking n m reading x; was = w; in_term = refl; floor = next_floor reading x; has = refl; high = omega arith }))
          (at_replicate (λ b. b ≡ true → HadFloor Was y x.term (next_floor reading x)) n false y false (λ p. absurd (cc)) (λ p. absurd (cc)))

  pub input_traced : (i : Input) → EffectTraces Was n m f (on_input n m i x)
  input_traced Timeout = times_out
  input_traced Beat = cond_both (is_leader x.role) (Moves (record { node = x; sent = append_to_all n x m })) Nothing (EffectTraces Was n m f) (λ p. calm _ same X (appends Was n x m)) (λ p. tt)
  input_traced (Close reading) = appends_own reading None
  input_traced (Floor reading) = asks_floor reading
  input_traced (Submit reading request) = appends_own reading (Some request)

  votes : (c T i t : ℕ) → Traces Was n m f (on_request_vote m c T i t x)
  unfolding on_request_vote
  votes c T i t = cond_both (grants c T i t x) _ _ (Traces Was n m f) (λ p. calm _ same X (one (record { body = tt }) none)) (λ p. calm _ same X (one (record { body = tt }) none))

  vote_counted : (reading : ℤ) (sender T : ℕ) (given : Bool) (floor : Option ℕ) → Traces Was n m f (on_vote n m reading sender T given floor x)
  unfolding on_vote
  vote_counted reading sender T given floor =
      cond_both (given && (T == x.term) && is_candidate x.role) _ (record { node = x; sent = [] }) (Traces Was n m f)
      (λ p. cond_both (is_majority n (is_in (counted sender floor x).votes)) _ (record { node = counted sender floor x; sent = [] }) (Traces Was n m f)
      (λ q. cond_both (is_time_full (crowned n (counted sender floor x)).floor (crowned n (counted sender floor x)).log || is_log_full (crowned n (counted sender floor x)).log) (crowned n (counted sender floor x)) (extended reading None (crowned n (counted sender floor x))) (λ z. Traces Was n m f (record { node = z; sent = append_to_all n z m }))
      (λ r. calm _ up quiet (appends Was n (crowned n (counted sender floor x)) m)) (λ r. calm _ up (extends Was n reading None (crowned n (counted sender floor x)) quiet) (appends Was n (extended reading None (crowned n (counted sender floor x))) m)))
      (λ q. calm _ same X none))
      (λ p. calm _ same X none)
    where
      up : f ≤ above (crowned n (counted sender floor x)).floor
      up = let a = above_greater x.floor (greater x.told floor) in omega arith

  appended : (sender T p t : ℕ) (es : List Entry) (c : ℕ) → EffectTraces Was n m f (on_append m sender T p t es c x)
  unfolding on_append
  appended sender T p t es c =
      cond_both (nat_lt T x.term) _ _ (EffectTraces Was n m f) (λ q. calm _ same X (one (record { body = tt }) none))
      (λ q. cond_both (is_leader x.role) Nothing _ (EffectTraces Was n m f) (λ r. tt)
      (λ r. cond_both (not (stands x.log p t)) _ _ (EffectTraces Was n m f) (λ s. calm _ same quiet (one (record { body = tt }) none))
      (λ s. cond_both (not (continues x.log p T es) || cuts_below x.commit x.log p es || nat_lt LOG_LIMIT (length (accepted x.log p es))) Nothing _ (EffectTraces Was n m f) (λ u. tt)
      (λ u. let v = or_parts (not (continues x.log p T es) || cuts_below x.commit x.log p es) (nat_lt LOG_LIMIT (length (accepted x.log p es))) u in
      let w = or_parts (not (continues x.log p T es)) (cuts_below x.commit x.log p es) v.0 in
      calm _ same (settles Was n (takes_entries p es c (follows sender x))
      (longer Was n x.term None [] x.log (accepted x.log p es) x.commit (max x.commit (min c (p + length es))) x.sealed x.waiting (accepted_keeps x.commit x.log p es w.1) (omega arith) quiet)) (one (record { body = tt }) none)))))

  replied_yes : (sender k : ℕ) → EffectTraces Was n m f (on_reply_yes n m sender k x)
  unfolding on_reply_yes
  replied_yes sender k = cond_both (nat_lt (length x.log) k) Nothing _ (EffectTraces Was n m f) (λ p. tt)
      (λ p. calm _ same (settles Was n (commits n m (noted sender k x))
      (longer Was n x.term x.asked x.stored x.log x.log x.commit (commits n m (noted sender k x)).commit x.sealed x.waiting (λ i e l q. q) (omega arith) X))
      (cond_both (nat_lt x.commit (settled (commits n m (noted sender k x))).commit) _ _ (AllTraced Was n) (λ q. appends Was n (settled (commits n m (noted sender k x))) m)
      (λ q. cond_both (nat_le (nth_or (settled (commits n m (noted sender k x))).next sender 0) (length x.log)) _ [] (AllTraced Was n) (λ r. one (record { body = tt }) none) (λ r. none))))

  replied_no : (sender : ℕ) → EffectTraces Was n m f (on_reply_no m sender x)
  unfolding on_reply_no
  replied_no sender = calm _ same X (one (record { body = tt }) none)

  replied : (sender T : ℕ) (ok : Bool) (k : ℕ) → EffectTraces Was n m f (on_reply n m sender T ok k x)
  replied sender T ok k = cond_both (is_leader x.role && (T == x.term)) _ _ (EffectTraces Was n m f)
      (λ p. cond_both ok _ _ (EffectTraces Was n m f) (λ o. replied_yes sender k) (λ o. replied_no sender))
      (λ p. calm _ same X none)

  sought : (sender T k t : ℕ) → EffectTraces Was n m f (on_seek m sender T k t x)
  unfolding on_seek
  sought sender T k t = cond_both (nat_lt T x.term) _ _ (EffectTraces Was n m f) (λ p. calm _ same X none)
      (λ p. cond_both (is_leader x.role) Nothing _ (EffectTraces Was n m f) (λ q. tt)
      (λ q. record {
        rises = (let a = above_greater x.floor (Some t) in omega arith);
        node = λ w. quiet;
        sent = λ w. one (record { body = (let h = some_greater x.floor t in record { node = stores sender t x; was = w; in_term = refl; floor = h.0; has = h.1; high = h.2 }) }) none;
      }))
    where
      some_greater : (o : Option ℕ) (t : ℕ) → (s : ℕ) × (greater o (Some t) ≡ Some s) × (t ≤ s)
      some_greater None t = (t, refl, omega arith)
      some_greater (Some s) t = (max s t, refl, omega arith)

  stored_told : (sender T k t : ℕ) → HadFloor Was sender T t → Traces Was n m f (on_stored n m sender T k t x)
  unfolding on_stored
  stored_told sender T k t H = cond_both (is_leader x.role && (T == x.term) && asks_for x.asked k t) _ (record { node = x; sent = [] }) (Traces Was n m f)
      (λ p. let q = and_parts (is_leader x.role && (T == x.term)) (asks_for x.asked k t) p in let w = and_parts (is_leader x.role) (T == x.term) q.0 in
      let s : T ≡ x.term = eqb-true T x.term w.1 in
      let e : x.asked ≡ Some (record { index = k; floor = t }) = asked_is x.asked k t q.1 in
      let u : HadFloor Was sender x.term t = subst (λ z. HadFloor Was sender z t) s H in
      cond_both (not (is_majority n (is_in x.stored)) && is_majority n (is_in (with_nth x.stored sender true))) _ (record { node = with_stored sender x; sent = [] }) (Traces Was n m f)
      (λ j. let b = and_parts (not (is_majority n (is_in x.stored))) (is_majority n (is_in (with_nth x.stored sender true))) j in
      let Z : SealExists Was n x.term k t = record { asked = X.asked (record { index = k; floor = t }) e; set = is_in (with_nth x.stored sender true); majority = b.1; stored = more e u } in
      calm _ same (learns Was n (with_stored sender x) (record { term = T; index = k; floor = t }) (subst (λ z. SealExists Was n z k t) (sym s) Z) (noted_more e u))
      (all_map Was n (λ to. record { sender = m; addressee = to; term = x.term; body = Seal k t }) (λ y. record { body = Z }) (others n m)))
      (λ j. calm _ same (noted_more e u) none))
      (λ p. calm _ same X none)
    where
      more : x.asked ≡ Some (record { index = k; floor = t }) → HadFloor Was sender x.term t → (y : ℕ) → is_in (with_nth x.stored sender true) y ≡ true → HadFloor Was y x.term t
      more e u y = at_with (λ b. b ≡ true → HadFloor Was y x.term t) x.stored sender true y false (λ i p. subst (λ z. HadFloor Was z x.term t) (sym i) u) (X.stored (record { index = k; floor = t }) y e)

      noted_more : x.asked ≡ Some (record { index = k; floor = t }) → HadFloor Was sender x.term t → TracedNode Was n (with_stored sender x)
      noted_more e u = record {
        asked = X.asked;
        stored = λ a y i p. (let o : Some (record { index = k; floor = t }) ≡ Some a = sym e ∙ i in let s : record { index = k; floor = t } ≡ a = (cc) in subst (λ z. HadFloor Was y x.term z.floor) s (more e u y p));
        sealed = X.sealed;
        waiting = X.waiting;
      }

  body_traced : (reading : ℤ) (from T : ℕ) (b : Body) → TracedBody Was n from T b → EffectTraces Was n m f (on_body n m reading from T b x)
  body_traced reading from T (RequestVote i t) B = votes from T i t
  body_traced reading from T (Vote given floor) B = vote_counted reading from T given floor
  body_traced reading from T (Append p pt es c) B = appended from T p pt es c
  body_traced reading from T (Reply ok k) B = replied from T ok k
  body_traced reading from T (Seek k t) B = sought from T k t
  body_traced reading from T (Stored k t) B = stored_told from T k t B
  body_traced reading from T (Seal k t) B = calm _ same (learns Was n x (record { term = T; index = k; floor = t }) B X) none

pub message_traced : (Was : ℕ → Node → Type 0) (language : Language) (n m : ℕ) (reading : ℤ) (p : Message) (x : Node) → TracedNode Was n x → TracedMessage Was n p → EffectTraces Was n m (above x.floor) (on_message language n m reading p x)
message_traced Was language n m reading p x X P = cond_both (is_honest language n m p) (on_body n m reading p.sender p.term p.body (hears p.term x)) Nothing (EffectTraces Was n m (above x.floor))
    (λ h. let H = heard Was n p.term x X in body_traced Was n m (above x.floor) (hears p.term x) H.0 (let q = ap above H.1 in omega arith) reading p.sender p.term p.body P.body)
    (λ h. tt)
