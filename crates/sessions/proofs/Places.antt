-- Where an event of a session stands in the one run, and who told there.
use Rattle.std.proofs.Common.{◌≡◌, ℕ, zero, suc, ◌+◌, ◌<◌, ◌≤◌, ◌⊎◌, inl, inr, Some, List, [], ◌∷◌, ◌++◌, map, length, replicate, slice_get, refl, sym, ap, ◌∙◌, subst, arith, Contains, length-append}
use Rattle.std.proofs.lemmas.Bool.{cases_lt}
use Rattle.std.proofs.lemmas.List.{length-map, length-replicate}
use Rattle.model.specs.Lists.{nth}
use Rattle.model.specs.Transactions.{Language}
use Rattle.model.specs.declared.entry.Request.{Request}
use Rattle.model.specs.declared.entry.Told.{Told}
use Rattle.model.specs.declared.event.Job.{Job}
use Rattle.model.specs.declared.event.Job.TheVariants.{Local, Delivery}
use Rattle.model.specs.declared.event.Left.{Left}
use Rattle.model.specs.Members.{Node}
use Rattle.model.specs.Worlds.{World, Event, Hand, Deliver, Stop, Start, Torn, Ask, Output, happens, run, Gives, GivesAll}
use Rattle.model.specs.Worlds.Output.{Sent, Applied, Answered, Refused}
use Rattle.onelist.specs.Order.{Brings}
use Rattle.onelist.specs.Explained.{Stops, CutShort}
use Rattle.onelist.proofs.Telling.{teller_before}
use Rattle.safety.proofs.Lists.{cases, none_some, same_some}
use Rattle.sessions.specs.Kills.{stop_all, opened}
use Rattle.sessions.specs.Sessions.{Session, events_of, AreSessions, later_job, later, later_output, in_run, joined, joined_gave}
use Rattle.sessions.proofs.Lists.{further, in_front, in_either, get_map, of_map, nth_short}
use Rattle.sessions.proofs.Kills.{run_length}

-- ---- an event, counted on

pub brings_later : (c m : ℕ) (r : Request) (e : Event) → Brings r m (later c e) → Brings r m e
brings_later c m r (Hand k i) b = b
brings_later c m r (Deliver k reading) b = elim b [ ]
brings_later c m r (Stop k) b = b
brings_later c m r (Start k) b = b
brings_later c m r (Torn k (Local i) left) b = b
brings_later c m r (Torn k (Delivery j reading) left) b = elim b [ ]
brings_later c m r (Ask k q) b = b

torn_by : (m k : ℕ) (i j : Job) (left : Left) → Stops m (Torn k i left) → Stops m (Torn k j left)
torn_by m k i j left (CutShort job left') = CutShort j left

pub stops_later : (c m : ℕ) (e : Event) → Stops m (later c e) → Stops m e
stops_later c m (Hand k i) s = s
stops_later c m (Deliver k reading) s = elim s [ ]
stops_later c m (Stop k) s = s
stops_later c m (Start k) s = s
stops_later c m (Torn k (Local i) left) s = s
stops_later c m (Torn k (Delivery j reading) left) s = torn_by m k (later_job c (Delivery j reading)) (Delivery j reading) left s
stops_later c m (Ask k q) s = s

pub stop_brings_none : (m k : ℕ) (r : Request) → Brings r m (Stop k) → ⊥
stop_brings_none m k r b = elim b [ ]

-- ---- who tells

own_told : (c m : ℕ) (told : Told) (o : Output) → later_output c o ≡ Applied m told → o ≡ Applied m told
own_told c m told (Sent k p) q = absurd (cc)
own_told c m told (Applied k t) q = q
own_told c m told (Refused k r) q = q
own_told c m told (Answered k a) q = q

pub own_tells : (c m : ℕ) (told : Told) (os : List Output) →
    Contains (map (later_output c) os) (Applied m told) → Contains os (Applied m told)
own_tells c m told [] (i, l, q) = absurd (omega (arith, l))
own_tells c m told (o ∷ os) (zero, l, q) = (0, omega arith, own_told c m told o q)
own_tells c m told (o ∷ os) (suc i, l, q) =
    let r = own_tells c m told os (i, omega (arith, l), q) in (suc r.0, (let h = r.1 in omega (arith, h)), r.2)

nth_first : {A : Type 0} (xs : List A) (m : ℕ) (x : A) → nth xs m ≡ Some x → 1 ≤ m
nth_first xs zero x p = absurd (none_some (nth xs 0) x refl p)
nth_first xs (suc m) x p = omega arith

-- the member is one of so many, and told at this event, which is no stop
pub record Teller (m count : ℕ) (es : List Event) (p : ℕ) : Type 0 where
  pub event : Event
  pub at : slice_get es p ≡ Some event
  pub no_stop : (k : ℕ) → event ≡ Stop k → ⊥
  pub first : 1 ≤ m
  pub last : m ≤ count

module _ (language : Language) (n m : ℕ) (told : Told) where
  no_stop_tells : (w : World) (e : Event) (out : List Output) → Gives language n w e out → Contains out (Applied m told) →
      (k : ℕ) → e ≡ Stop k → ⊥
  no_stop_tells w e out g c k is =
      let none : out ≡ [] = subst (λ z. Gives language n w z out) is g in
      let z = ap length none in
      let l = c.1 in omega (arith, z, l)

  pub teller_at : (es : List Event) (w : World) (outs : List (List Output)) → GivesAll language n w es outs →
      (p : ℕ) (out : List Output) → slice_get outs p ≡ Some out → Contains out (Applied m told) →
      Teller m (length w.nodes) es p
  teller_at [] w outs G p out q c = absurd (none_some (slice_get outs p) out (ap (λ z. slice_get z p) G) q)
  teller_at (e ∷ es) w outs (o, rest, r, g, more) zero out q c =
      let same : o ≡ out = same_some (slice_get outs 0) o out (ap (λ z. slice_get z 0) r) q in
      let own : Gives language n w e out = subst (λ z. Gives language n w e z) same g in
      let L = teller_before language n w m told e out own c in
      record {
        event = e;
        at = refl;
        no_stop = no_stop_tells w e out own c;
        first = nth_first w.nodes m L.0 L.1;
        last = nth_short w.nodes m L.0 L.1;
      }
  teller_at (e ∷ es) w outs (o, rest, r, g, more) (suc p) out q c =
      let next : slice_get rest p ≡ Some out = sym (ap (λ z. slice_get z (suc p)) r) ∙ q in
      let T = teller_at es (happens language n w e) rest more p out next c in
      record {
        event = T.event;
        at = T.at;
        no_stop = T.no_stop;
        first = T.first;
        last = subst (λ z. m ≤ z) (run_length language n (e ∷ []) w) T.last;
      }

-- ---- where an event stands

stop_length : (n : ℕ) → length (stop_all n) ≡ n
stop_length zero = refl
stop_length (suc n) = ap suc (stop_length n)

stop_only : (n p : ℕ) (e : Event) → slice_get (stop_all n) p ≡ Some e → (m : ℕ) × (e ≡ Stop m)
stop_only zero p e h = absurd (none_some (slice_get {X = Event} [] p) e refl h)
stop_only (suc n) zero e h = (suc n, same_some (Some e) e (Stop (suc n)) refl (sym h))
stop_only (suc n) (suc p) e h = stop_only n p e h

stop_there : (n m : ℕ) → 1 ≤ m → m ≤ n → (d : ℕ) × (d < n) × (slice_get (stop_all n) d ≡ Some (Stop m))
stop_there zero m a b = absurd (omega (arith, a, b))
stop_there (suc n) m a b = cases (cases_lt n m)
    (λ u. let e : suc n ≡ m = omega (arith, u, b) in (0, omega arith, ap (λ z. Some (Stop z)) e))
    (λ u. let r = stop_there n m a (omega (arith, u)) in (suc r.0, (let h = r.1 in omega (arith, h)), r.2))

pub gives_length : (language : Language) (n : ℕ) (es : List Event) (w : World) (outs : List (List Output)) → GivesAll language n w es outs → length outs ≡ length es
gives_length language n [] w outs p = ap length p
gives_length language n (e ∷ es) w outs (out, rest, p, g, more) = ap length p ∙ ap suc (gives_length language n es (happens language n w e) rest more)

module _ (language : Language) (n : ℕ) where
  -- where the event of number k of the session of number i stands, all counted from 0
  abbrev pub spot : List Session → ℕ → ℕ → ℕ
  spot [] i k = 0
  spot (s ∷ ss) zero k = n + k
  spot (s ∷ ss) (suc i) k = n + length (events_of s) + spot ss i k

  run_long : (w : World) (s : Session) → length (in_run n w s) ≡ n + length (events_of s)
  run_long w s =
      let a = length-append (stop_all n) (map (later (length w.sent)) (events_of s)) in
      let b = length-map (events_of s) (later (length w.sent)) in
      let c = stop_length n in omega arith

  pub event_at : (ss : List Session) (w : World) (i k : ℕ) (s : Session) (e : Event) → slice_get ss i ≡ Some s → slice_get (events_of s) k ≡ Some e → (c : ℕ) × (slice_get (joined language n w ss) (spot ss i k) ≡ Some (later c e))
  event_at [] w i k s e p q = absurd (none_some (slice_get {X = Session} [] i) s refl p)
  event_at (t ∷ ts) w zero k s e p q =
      let c = length w.sent in
      let rest = joined language n (run language n w (in_run n w t)) ts in
      let h : slice_get (events_of t) k ≡ Some e = subst (λ z. slice_get (events_of z) k ≡ Some e) (same_some (Some t) s t p refl) q in
      (c, in_front (in_run n w t) rest (n + k) (later c e) (ap (λ z. slice_get (in_run n w t) (z + k)) (sym (stop_length n)) ∙ further (stop_all n) (map (later c) (events_of t)) k ∙ get_map (later c) (events_of t) k e h))
  event_at (t ∷ ts) w (suc i) k s e p q =
      let v = run language n w (in_run n w t) in
      let r = event_at ts v i k s e p q in
      (r.0, ap (λ z. slice_get (joined language n w (t ∷ ts)) (z + spot ts i k)) (sym (run_long w t)) ∙ further (in_run n w t) (joined language n v ts) (spot ts i k) ∙ r.1)

  pub gave_at : (ss : List Session) (found : List Node) (w : World) → AreSessions language n found ss → (i k : ℕ) (s : Session) (out : List Output) → slice_get ss i ≡ Some s → slice_get s.gave k ≡ Some out →
      (c : ℕ) × (slice_get (joined_gave language n w ss) (spot ss i k) ≡ Some (map (later_output c) out))
  gave_at [] found w A i k s out p q = absurd (none_some (slice_get {X = Session} [] i) s refl p)
  gave_at (t ∷ ts) found w (T, A) zero k s out p q =
      let c = length w.sent in
      let rest = joined_gave language n (run language n w (in_run n w t)) ts in
      let mine = map (map (later_output c)) t.gave in
      let none : List (List Output) = replicate n [] in
      let h : slice_get t.gave k ≡ Some out = subst (λ z. slice_get z.gave k ≡ Some out) (same_some (Some t) s t p refl) q in
      (c, in_front (none ++ mine) rest (n + k) (map (later_output c) out) (ap (λ z. slice_get (none ++ mine) (z + k)) (sym (length-replicate n [])) ∙ further none mine k ∙ get_map (map (later_output c)) t.gave k out h))
  gave_at (t ∷ ts) found w (T, A) (suc i) k s out p q =
      let c = length w.sent in
      let v = run language n w (in_run n w t) in
      let mine = map (map (later_output c)) t.gave in
      let none : List (List Output) = replicate n [] in
      let r = gave_at ts t.left v A i k s out p q in
      let long : length (none ++ mine) ≡ n + length (events_of t) =
      length-append none mine ∙ ap (λ z. z + length mine) (length-replicate n []) ∙ ap (λ z. n + z) (length-map t.gave (map (later_output c)) ∙ gives_length language n (events_of t) (opened found) t.gave T.gives) in
      (r.0, ap (λ z. slice_get (joined_gave language n w (t ∷ ts)) (z + spot ts i k)) (sym long) ∙ further (none ++ mine) (joined_gave language n v ts) (spot ts i k) ∙ r.1)

  -- an event of the run that is one of a session
  pub record Located (ss : List Session) (p : ℕ) (e : Event) : Type 0 where
    pub i : ℕ
    pub k : ℕ
    pub session : Session
    pub at : slice_get ss i ≡ Some session
    pub event : Event
    pub here : slice_get (events_of session) k ≡ Some event
    pub sent : ℕ
    pub same : later sent event ≡ e
    pub place : spot ss i k ≡ p

  abbrev pub Found : List Session → ℕ → Event → Type 0
  Found ss p e = ((m : ℕ) × (e ≡ Stop m)) ⊎ Located ss p e

  pub locate : (ss : List Session) (w : World) (p : ℕ) (e : Event) → slice_get (joined language n w ss) p ≡ Some e → Found ss p e
  locate [] w p e h = absurd (none_some (slice_get {X = Event} [] p) e refl h)
  locate (t ∷ ts) w p e h = go (λ q s. locate ts (run language n w (in_run n w t)) q e s) (in_either (in_run n w t) (joined language n (run language n w (in_run n w t)) ts) p e h)
    where
      v : World
      v = run language n w (in_run n w t)

      c : ℕ
      c = length w.sent

      mine : (slice_get (stop_all n) p ≡ Some e) ⊎ ((q : ℕ) × (length (stop_all n) + q ≡ p) × (slice_get (map (later c) (events_of t)) q ≡ Some e)) → Found (t ∷ ts) p e
      mine (inl s) = inl (stop_only n p e s)
      mine (inr (q, l, s)) =
          let x = of_map (later c) (events_of t) q e s in
          inr (record { i = 0; k = q; session = t; at = refl; event = x.0; here = x.1; sent = c; same = x.2; place = ap (λ z. z + q) (sym (stop_length n)) ∙ l })

      next : (q : ℕ) → length (in_run n w t) + q ≡ p → Found ts q e → Found (t ∷ ts) p e
      next q l (inl s) = inl s
      next q l (inr L) = inr (record {
        i = suc L.i;
        k = L.k;
        session = L.session;
        at = L.at;
        event = L.event;
        here = L.here;
        sent = L.sent;
        same = L.same;
        place = ap (λ z. n + length (events_of t) + z) L.place ∙ ap (λ z. z + q) (sym (run_long w t)) ∙ l;
      })

      go : ((q : ℕ) → slice_get (joined language n v ts) q ≡ Some e → Found ts q e) → (slice_get (in_run n w t) p ≡ Some e) ⊎ ((q : ℕ) × (length (in_run n w t) + q ≡ p) × (slice_get (joined language n v ts) q ≡ Some e)) → Found (t ∷ ts) p e
      go more (inl s) = mine (in_either (stop_all n) (map (later c) (events_of t)) p e s)
      go more (inr (q, l, s)) = next q l (more q s)

  pub spot_before : (ss : List Session) (i k h j : ℕ) (s : Session) → slice_get ss i ≡ Some s → k ≤ length (events_of s) → spot ss h j < spot ss i k → (h < i) ⊎ ((h ≡ i) × (j < k))
  spot_before [] i k h j s p l q = absurd (none_some (slice_get {X = Session} [] i) s refl p)
  spot_before (t ∷ ts) zero k zero j s p l q = inr (refl, omega (arith, q))
  spot_before (t ∷ ts) zero k (suc h) j s p l q = let e = ap (λ z. length (events_of z)) (same_some (Some t) s t p refl) in absurd (omega (arith, q, l, e))
  spot_before (t ∷ ts) (suc i) k zero j s p l q = inl (omega arith)
  spot_before (t ∷ ts) (suc i) k (suc h) j s p l q = go (spot_before ts i k h j s p l (omega (arith, q)))
    where
      go : (h < i) ⊎ ((h ≡ i) × (j < k)) → (suc h < suc i) ⊎ ((suc h ≡ suc i) × (j < k))
      go (inl a) = inl (omega (arith, a))
      go (inr (a, b)) = inr (ap suc a, b)

  pub spot_from : (ss : List Session) (i k : ℕ) (s : Session) → slice_get ss i ≡ Some s → spot ss i k ≡ spot ss i 0 + k
  spot_from [] i k s p = absurd (none_some (slice_get {X = Session} [] i) s refl p)
  spot_from (t ∷ ts) zero k s p = omega arith
  spot_from (t ∷ ts) (suc i) k s p = let h = spot_from ts i k s p in omega (arith, h)

  -- what stands in the run of the others stands further on in the run of all
  past_first : (t : Session) (ts : List Session) (w : World) (q : ℕ) (e : Event) →
      slice_get (joined language n (run language n w (in_run n w t)) ts) q ≡ Some e →
      slice_get (joined language n w (t ∷ ts)) (n + length (events_of t) + q) ≡ Some e
  past_first t ts w q e h =
      let others = joined language n (run language n w (in_run n w t)) ts in
      let long = sym (run_long w t) in
      ap (λ z. slice_get (joined language n w (t ∷ ts)) (z + q)) long ∙ further (in_run n w t) others q ∙ h

  -- a stop of the member stands before each session
  stop_at : (ss : List Session) (w : World) (i m : ℕ) (s : Session) → slice_get ss i ≡ Some s → 1 ≤ m → m ≤ n →
      (q : ℕ) × (q < spot ss i 0) × (slice_get (joined language n w ss) q ≡ Some (Stop m))
  stop_at [] w i m s p a b = absurd (none_some (slice_get {X = Session} [] i) s refl p)
  stop_at (t ∷ ts) w zero m s p a b =
      let c = length w.sent in
      let rest = joined language n (run language n w (in_run n w t)) ts in
      let (d, l, h) = stop_there n m a b in
      let mine = in_front (stop_all n) (map (later c) (events_of t)) d (Stop m) h in
      (d, omega (arith, l), in_front (in_run n w t) rest d (Stop m) mine)
  stop_at (t ∷ ts) w (suc i) m s p a b =
      let (q, l, h) = stop_at ts (run language n w (in_run n w t)) i m s p a b in
      (n + length (events_of t) + q, omega (arith, l), past_first t ts w q (Stop m) h)

  -- and so between an event of a session and the beginning of a later one
  pub stop_between : (ss : List Session) (w : World) (h j i m : ℕ) (t s : Session) →
      slice_get ss h ≡ Some t → j < length (events_of t) → slice_get ss i ≡ Some s → h < i → 1 ≤ m → m ≤ n →
      (q : ℕ) × (spot ss h j < q) × (q < spot ss i 0) × (slice_get (joined language n w ss) q ≡ Some (Stop m))
  stop_between [] w h j i m t s o k p l a b = absurd (none_some (slice_get {X = Session} [] i) s refl p)
  stop_between (x ∷ xs) w h j zero m t s o k p l a b = absurd (omega (arith, l))
  stop_between (x ∷ xs) w zero j (suc i) m t s o k p l a b =
      let (q, u, e) = stop_at xs (run language n w (in_run n w x)) i m s p a b in
      let same = ap (λ z. length (events_of z)) (same_some (Some x) t x o refl) in
      (n + length (events_of x) + q, omega (arith, k, same), omega (arith, u), past_first x xs w q (Stop m) e)
  stop_between (x ∷ xs) w (suc h) j (suc i) m t s o k p l a b =
      let (q, y, u, e) = stop_between xs (run language n w (in_run n w x)) h j i m t s o k p (omega (arith, l)) a b in
      (n + length (events_of x) + q, omega (arith, y), omega (arith, u), past_first x xs w q (Stop m) e)
