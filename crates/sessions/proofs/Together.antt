-- What the one run's events say of the sessions' own.
use Rattle.std.proofs.Common.{◌≡◌, ℕ, zero, suc, ◌+◌, ◌-◌, ◌<◌, ◌≤◌, ◌⊎◌, inl, inr, Some, None, List, [], ◌∷◌, map, length, slice_get, refl, sym, ap, ◌∙◌, subst, arith, Contains}
use Rattle.std.proofs.lemmas.List.{length-replicate}
use Rattle.model.specs.Lists.{nth}
use Rattle.model.specs.Transactions.{Language}
use Rattle.model.specs.declared.entry.Entry.{Entry}
use Rattle.model.specs.declared.entry.Request.{Request}
use Rattle.model.specs.declared.entry.Told.{Told}
use Rattle.model.specs.Answers.{Select, Answer}
use Rattle.model.specs.Members.{Node}
use Rattle.model.specs.Worlds.{Event, Stop, Ask, Output, new_world, fresh, GivesAll}
use Rattle.model.specs.Worlds.Output.{Applied, Answered, Refused}
use Rattle.fault.specs.declared.refusal.Refusal.{Refusal}
use Rattle.fault.specs.declared.refusal.Refusal.TheVariants.{NotClosed}
use Rattle.onelist.specs.Order.{HasRequest, Brings}
use Rattle.onelist.specs.Explained.{Gave, IsAnswered, IsPutOff, IsSubmitted, IsNew, Stops, IsUnstopped, HasTold, Explains, IsInOrder}
use Rattle.safety.proofs.Lists.{cases, none_some, same_some}
use Rattle.sessions.specs.Kills.{opened}
use Rattle.sessions.specs.Sessions.{Session, events_of, AreSessions, new_databases, later, later_output, joined, joined_gave}
use Rattle.sessions.specs.Together.{TellsAt, AnswersAt, PutsOffAt, RefusesAt, SubmitsAt, IsBefore, IsNewAt, StaysUpAt, ExplainsSessions, OneListExplainsSessions}
use Rattle.sessions.proofs.Lists.{get_there, contains_map, get_short}
use Rattle.sessions.proofs.Places.{own_tells, Teller, teller_at, brings_later, stops_later, stop_brings_none, gives_length, spot, event_at, gave_at, Found, locate, spot_before, spot_from, stop_between}
use Rattle.sessions.proofs.Joined.{new_ended, all_give, one_list_explains_all}

-- ---- what the run's list says of the sessions

module _ (language : Language) (n : ℕ) (sessions : List Session) (A : AreSessions language n (new_databases n) sessions) (list : List Entry)
    (X : Explains language (joined language n (new_world n) sessions) (joined_gave language n (new_world n) sessions) list)
    (O : IsInOrder language (joined language n (new_world n) sessions) (joined_gave language n (new_world n) sessions) list) where
  abbrev events : List Event
  events = joined language n (new_world n) sessions

  abbrev outs : List (List Output)
  outs = joined_gave language n (new_world n) sessions

  -- the place of an event, all counted from 1
  abbrev place : ℕ → ℕ → ℕ
  place zero k = 0
  place (suc i) zero = 0
  place (suc i) (suc k) = suc (spot language n sessions i k)

  gave_in : (i k : ℕ) (s : Session) (o : Output) → nth sessions i ≡ Some s → Gave s.gave k o → (c : ℕ) × Gave outs (place i k) (later_output c o)
  gave_in zero k s o p g = absurd (none_some (nth sessions 0) s refl p)
  gave_in (suc i) zero s o p (out, q, h) = absurd (none_some (nth s.gave 0) out refl q)
  gave_in (suc i) (suc k) s o p (out, q, h) =
      let G = gave_at language n sessions (new_databases n) (new_world n) A i k s out p q in
      (G.0, (map (later_output G.0) out, G.1, contains_map (later_output G.0) out o h))

  event_in : (i k : ℕ) (s : Session) (e : Event) → nth sessions i ≡ Some s → nth (events_of s) k ≡ Some e → (c : ℕ) × (nth events (place i k) ≡ Some (later c e))
  event_in zero k s e p q = absurd (none_some (nth sessions 0) s refl p)
  event_in (suc i) zero s e p q = absurd (none_some (nth (events_of s) 0) e refl q)
  event_in (suc i) (suc k) s e p q = event_at language n sessions (new_world n) i k s e p q

  tells_in : (i k m : ℕ) (told : Told) → TellsAt sessions i k m told → Gave outs (place i k) (Applied m told)
  tells_in i k m told (s, p, g) = (gave_in i k s (Applied m told) p g).1

  answers_in : (i k m : ℕ) (q : Select) (a : Answer) → AnswersAt sessions i k m q a → IsAnswered events outs (place i k) m q a
  answers_in i k m q a (s, p, (e, g)) = ((event_in i k s (Ask m q) p e).1, (gave_in i k s (Answered m a) p g).1)

  puts_off_in : (i k m : ℕ) (q : Select) → PutsOffAt sessions i k m q → IsPutOff events outs (place i k) m q
  puts_off_in i k m q (s, p, (e, (closed, g))) =
      let refused = Refused m (NotClosed closed) in
      ((event_in i k s (Ask m q) p e).1, (closed, (gave_in i k s refused p g).1))

  -- who submitted
  record Submitted (p : ℕ) (r : Request) : Type 0 where
    pub i : ℕ
    pub k : ℕ
    pub submits : SubmitsAt sessions (suc i) (suc k) r
    pub there : place (suc i) (suc k) ≡ p

  submitted_in : (p : ℕ) (r : Request) → IsSubmitted events p r → Submitted p r
  submitted_in zero r (m, e, q, b) = absurd (none_some (nth events 0) e refl q)
  submitted_in (suc p) r (m, e, q, b) = go (locate language n sessions (new_world n) p e q)
    where
      go : Found language n sessions p e → Submitted (suc p) r
      go (inl (k, s)) = absurd (stop_brings_none m k r (subst (Brings r m) s b))
      go (inr L) = record { i = L.i; k = L.k; submits = (L.session, L.at, (m, L.event, L.here, brings_later L.sent m r L.event (subst (Brings r m) (sym L.same) b))); there = ap suc L.place }

  -- how many events a session has
  as_many : (ss : List Session) (found : List Node) → AreSessions language n found ss → (i : ℕ) (s : Session) →
      slice_get ss i ≡ Some s → length s.gave ≡ length (events_of s)
  as_many [] found B i s p = absurd (none_some (slice_get {X = Session} [] i) s refl p)
  as_many (t ∷ ts) found (T, B) zero s p =
      let same : t ≡ s = same_some (Some t) t s refl p in
      let many = gives_length language n (events_of t) (opened found) t.gave T.gives in
      subst (λ z. length z.gave ≡ length (events_of z)) same many
  as_many (t ∷ ts) found (T, B) (suc i) s p = as_many ts t.left B i s p

  gave_short : (i k : ℕ) (s : Session) (out : List Output) → slice_get sessions i ≡ Some s → slice_get s.gave k ≡ Some out →
      k < length (events_of s)
  gave_short i k s out p q =
      let h = get_short s.gave k out q in
      let l = as_many sessions (new_databases n) A i s p in omega (arith, h, l)

  new_in : (i k : ℕ) (s : Session) (o : Output) (r : Request) → nth sessions i ≡ Some s → Gave s.gave k o → IsNewAt sessions i k r → IsNew events (place i k) r
  new_in zero k s o r p g new = absurd (none_some (nth sessions 0) s refl p)
  new_in (suc i) zero s o r p (out, q, h) new = absurd (none_some (nth s.gave 0) out refl q)
  new_in (suc i) (suc k) s o r p (out, q, h) new = λ j l S.
      let L = submitted_in j r S in
      new (suc L.i) (suc L.k) (go L.i L.k (spot_before language n sessions i k L.i L.k s p (let h = gave_short i k s out p q in omega (arith, h)) (let e = L.there in omega (arith, e, l)))) L.submits
    where
      go : (a b : ℕ) → (a < i) ⊎ ((a ≡ i) × (b < k)) → IsBefore (suc a) (suc b) (suc i) (suc k)
      go a b (inl x) = inl (omega (arith, x))
      go a b (inr (x, y)) = inr (ap suc x, omega (arith, y))

  unstopped_in : (i m j k : ℕ) (s : Session) (o u : Output) → nth sessions i ≡ Some s → j < k → Gave s.gave j o → Gave s.gave k u → IsUnstopped (events_of s) m j k → (place i j < place i k) × IsUnstopped events m (place i j) (place i k)
  unstopped_in zero m j k s o u p l g h U = absurd (none_some (nth sessions 0) s refl p)
  unstopped_in (suc i) m zero k s o u p l (out, q, c) h U = absurd (none_some (nth s.gave 0) out refl q)
  unstopped_in (suc i) m (suc j) zero s o u p l g h U = absurd (omega (arith, l))
  unstopped_in (suc i) m (suc j) (suc k) s o u p l g (out, q, c) U =
      let a = spot_from language n sessions i j s p in
      let b = spot_from language n sessions i k s p in
      (omega (arith, a, b, l), go)
    where
      go : IsUnstopped events m (suc (spot language n sessions i j)) (suc (spot language n sessions i k))
      go zero e x y z stops = absurd (omega (arith, x))
      go (suc t) e x y z stops =
          let a = spot_from language n sessions i j s p in
          let b = spot_from language n sessions i k s p in
          let d = t - spot language n sessions i 0 in
          let f : spot language n sessions i 0 + d ≡ t = omega (arith, a, x) in
          let at : spot language n sessions i d ≡ t = spot_from language n sessions i d s p ∙ f in
          let short = gave_short i k s out p q in
          let E = get_there (events_of s) d (omega (arith, f, b, y, short)) in
          let W = event_at language n sessions (new_world n) i d s E.0 p E.1 in
          let same : e ≡ later W.0 E.0 = same_some (slice_get events t) e (later W.0 E.0) z (subst (λ v. slice_get events v ≡ Some (later W.0 E.0)) {y = t} at W.1) in
          U (suc d) E.0 (omega (arith, f, a, x)) (omega (arith, f, b, y)) E.1 (stops_later W.0 m E.0 (subst (Stops m) {y = later W.0 E.0} same stops))

  -- at this event it was given
  abbrev GaveAt : ℕ → ℕ → Output → Type 0
  GaveAt i k o = (s : Session) × (nth sessions i ≡ Some s) × Gave s.gave k o

  -- a session is found once
  same_gave : (i k : ℕ) (s : Session) (o : Output) → nth sessions i ≡ Some s → GaveAt i k o → Gave s.gave k o
  same_gave i k s o p (t, q, g) = subst (λ z. Gave z.gave k o) (same_some (nth sessions i) t s q p) g

  stays_up_in : (i m j k : ℕ) (o u : Output) → j < k → GaveAt i j o → GaveAt i k u → StaysUpAt sessions i m j k →
      (place i j < place i k) × IsUnstopped events m (place i j) (place i k)
  stays_up_in i m j k o u l (s, p, g) h U = unstopped_in i m j k s o u p l g (same_gave i k s u p h) (U s p)

  -- a member that tells in the run, at an event of a session
  record Tells (p m : ℕ) (told : Told) : Type 0 where
    pub i : ℕ
    pub k : ℕ
    pub tells : TellsAt sessions (suc i) (suc k) m told
    pub there : place (suc i) (suc k) ≡ p
    pub first : 1 ≤ m
    pub last : m ≤ n

  tells_of : (p m : ℕ) (told : Told) → Gave outs p (Applied m told) → Tells p m told
  tells_of zero m told (out, q, c) = absurd (none_some (nth outs 0) out refl q)
  tells_of (suc p) m told (out, q, c) = go (locate language n sessions (new_world n) p T.event T.at)
    where
      G : GivesAll language n (new_world n) events outs
      G = all_give language n sessions (new_databases n) (new_world n) (new_ended language n) A

      T : Teller m (length (new_world n).nodes) events p
      T = teller_at language n m told events (new_world n) outs G p out q c

      go : Found language n sessions p T.event → Tells (suc p) m told
      go (inl (k, s)) = absurd (T.no_stop k s)
      go (inr L) =
          let many = as_many sessions (new_databases n) A L.i L.session L.at in
          let short = get_short (events_of L.session) L.k L.event L.here in
          let own = get_there L.session.gave L.k (omega (arith, many, short)) in
          let W = gave_at language n sessions (new_databases n) (new_world n) A L.i L.k L.session own.0 L.at own.1 in
          let these = map (later_output W.0) own.0 in
          let here : slice_get outs p ≡ Some these = subst (λ v. slice_get outs v ≡ Some these) L.place W.1 in
          let same : out ≡ these = same_some (slice_get outs p) out these q here in
          let d = own_tells W.0 m told own.0 (subst (λ z. Contains z (Applied m told)) same c) in
          record {
            i = L.i;
            k = L.k;
            tells = (L.session, L.at, (own.0, own.1, d));
            there = ap suc L.place;
            first = T.first;
            last = subst (λ z. m ≤ z) (length-replicate n (fresh 0 None)) T.last;
          }

  -- who has told in the run since it was last stopped has told so in the session: a stop of all stands before that
  told_in : (i k m index : ℕ) (s : Session) (o : Output) → nth sessions i ≡ Some s → Gave s.gave k o →
      HasTold events outs (place i k) m index → HasTold (events_of s) s.gave k m index
  told_in zero k m index s o p g H = absurd (none_some (nth sessions 0) s refl p)
  told_in (suc i) zero m index s o p (out, q, h) H = absurd (none_some (nth s.gave 0) out refl q)
  told_in (suc i) (suc k) m index s o p (out, q, h) (at, told, le, gave, is, up) =
      cases (spot_before language n sessions i (suc k) F.i F.k s p short before) earlier here
    where
      F : Tells at m told
      F = tells_of at m told gave

      short : suc k ≤ length (events_of s)
      short = gave_short i k s out p q

      from : (x : ℕ) → spot language n sessions i x ≡ spot language n sessions i 0 + x
      from x = spot_from language n sessions i x s p

      next : spot language n sessions i (suc k) ≡ suc (spot language n sessions i k)
      next = let a = from k in let b = from (suc k) in omega (arith, a, b)

      before : spot language n sessions F.i F.k < spot language n sessions i (suc k)
      before = let e = F.there in let z = next in omega (arith, e, le, z)

      earlier : F.i < i → HasTold (events_of s) s.gave (suc k) m index
      earlier l =
          let (t, r, (own, u, c)) = F.tells in
          let within = gave_short F.i F.k t own r u in
          let stops = stop_between language n sessions (new_world n) F.i F.k i m t s r within p l F.first F.last in
          let (x, a, b, e) = stops in
          let there = F.there in
          let z = from k in absurd (up (suc x) (omega (arith, there, a)) (omega (arith, z, b)) e)

      here : (F.i ≡ i) × (F.k < suc k) → HasTold (events_of s) s.gave (suc k) m index
      here (same, l) =
          (suc F.k, told, omega (arith, l), same_gave (suc i) (suc F.k) s (Applied m told) p mine, is, stays)
        where
          mine : TellsAt sessions (suc i) (suc F.k) m told
          mine = subst (λ z. TellsAt sessions (suc z) (suc F.k) m told) same F.tells

          stays : (x : ℕ) → suc F.k < x → x < suc k → nth (events_of s) x ≡ Some (Stop m) → ⊥
          stays zero a b e = omega (arith, a)
          stays (suc x) a b e =
              let W = event_in (suc i) (suc x) s (Stop m) p e in
              let moved = ap (λ z. spot language n sessions z F.k) same in
              let there = F.there in
              let c = from F.k in
              let d = from x in
              let z = from k in
              up (place (suc i) (suc x)) (omega (arith, moved, there, c, d, a)) (omega (arith, d, z, b)) W.1

  submitted : (r : Request) → HasRequest list r → (i : ℕ) × (k : ℕ) × SubmitsAt sessions i k r
  submitted r R = let S = X.brought.submitted r R in let L = submitted_in S.0 r S.1 in (suc L.i, suc L.k, L.submits)

  apart : (r s : Request) (R : HasRequest list r) (S : HasRequest list s) → (submitted r R).0 ≡ (submitted s S).0 → (submitted r R).1 ≡ (submitted s S).1 → R.index ≡ S.index
  unfolding submitted
  apart r s R S p q =
      let L = submitted_in (X.brought.submitted r R).0 r (X.brought.submitted r R).1 in
      let M = submitted_in (X.brought.submitted s S).0 s (X.brought.submitted s S).1 in
      X.brought.apart r s R S (sym L.there ∙ ap (λ z. place z (suc L.k)) p ∙ ap (place (suc M.i)) q ∙ M.there)

  unrefused : (r : Request) (R : HasRequest list r) (m : ℕ) (why : Refusal) →
      RefusesAt sessions (submitted r R).0 (submitted r R).1 m why → ⊥
  unfolding submitted
  unrefused r R m why (s, p, g) =
      let S = X.brought.submitted r R in
      let L = submitted_in S.0 r S.1 in
      let refused = (gave_in (suc L.i) (suc L.k) s (Refused m why) p g).1 in
      X.unrefused r R m why (subst (λ z. Gave outs z (Refused m why)) L.there refused)

  pub explains_sessions : ExplainsSessions language sessions list
  explains_sessions = record {
    stamped = X.stamped;
    told = λ i k m told T. X.told (place i k) m told (tells_in i k m told T);
    answered = λ i k m q a T. X.answered (place i k) m q a (answers_in i k m q a T);
    submitted = submitted;
    apart = apart;
    told_then_submitted = λ i k m told r R T new. O.told_then_submitted (place i k) m told r R (tells_in i k m told T) (new_in i k T.0 (Applied m told) r T.1 T.2 new);
    answered_then_submitted = λ i k m q a r R T new. O.answered_then_submitted (place i k) m q a r R (answers_in i k m q a T) (new_in i k T.0 (Answered m a) r T.1 T.2.1 new);
    unrefused = unrefused;
    reads = X.reads;
    told_whole = λ i k m told r R T low.
        let H = X.told_whole (place i k) m told r R (tells_in i k m told T) low in
        (T.0, T.1, told_in i k m R.index T.0 (Applied m told) T.1 T.2 H);
    answered_whole = λ i k m q a r R T low.
        let H = X.answered_whole (place i k) m q a r R (answers_in i k m q a T) low in
        (T.0, T.1, told_in i k m R.index T.0 (Answered m a) T.1 T.2.1 H);
    told_then_asked = λ i j k m told I q a l T S t U.
        let V = stays_up_in i m j k (Applied m told) (Answered m a) l T (S.0, S.1, S.2.1) U in
        let answers = answers_in i k m q a S in
        O.told_then_asked (place i j) (place i k) m told I q a V.0 (tells_in i j m told T) answers t V.1;
    answered_then_asked = λ i j k m q r a b l T S t U.
        let V = stays_up_in i m j k (Answered m a) (Answered m b) l (T.0, T.1, T.2.1) (S.0, S.1, S.2.1) U in
        let answers = answers_in i k m r b S in
        O.answered_then_asked (place i j) (place i k) m q r a b V.0 (answers_in i j m q a T) answers t V.1;
    told_then_put_off = λ i j k m told I q l T S U.
        let V = stays_up_in i m j k (Applied m told) (Refused m (NotClosed S.2.1.0)) l T (S.0, S.1, S.2.1.1) U in
        O.told_then_put_off (place i j) (place i k) m told I q V.0 (tells_in i j m told T) (puts_off_in i k m q S) V.1;
    answered_then_put_off = λ i j k m q r a l T S U.
        let refused = Refused m (NotClosed S.2.1.0) in
        let V = stays_up_in i m j k (Answered m a) refused l (T.0, T.1, T.2.1) (S.0, S.1, S.2.1.1) U in
        let put_off = puts_off_in i k m r S in
        O.answered_then_put_off (place i j) (place i k) m q r a V.0 (answers_in i j m q a T) put_off V.1;
    told_then_told = λ i j k m a b l T S U.
        let V = stays_up_in i m j k (Applied m a) (Applied m b) l T S U in
        O.told_then_told (place i j) (place i k) m a b V.0 (tells_in i j m a T) (tells_in i k m b S) V.1;
  }

pub one_list_explains_sessions : (language : Language) (n : ℕ) → OneListExplainsSessions language n
one_list_explains_sessions language n =
    let all = one_list_explains_all language n in
    record {
      list = all.list;
      explains = λ sessions A. explains_sessions language n sessions A (all.list sessions) (all.explains sessions A) (all.in_order sessions A);
      goes_on = all.goes_on;
      goes_on_within = all.goes_on_within;
    }
