-- What is decided explains all that a run gives.
use Rattle.std.proofs.Common.{◌≡◌, ℕ, zero, suc, ◌+◌, ◌<◌, ◌≤◌, Bool, true, false, Some, None, Result, Ok, Err, List, [], ◌∷◌, ◌++◌, length, slice_get, slice_index_or, refl, sym, ap, ◌∙◌, subst, arith, Contains, append_assoc, append-nil, length-append, length-take}
use Rattle.std.specs.Prelude.{IsOk}
use Rattle.std.proofs.lemmas.Bool.{cases_Bool, cases_lt}
use Rattle.std.proofs.lemmas.Option.{slice_get_within}
use Rattle.model.specs.Lists.{nth, IsBeginning}
use Rattle.model.specs.Logs.{told_at}
use Rattle.model.specs.Stamps.{above}
use Rattle.fault.specs.declared.refusal.Refusal.{Refusal}
use Rattle.fault.specs.declared.refusal.Refusal.TheVariants.{NodeDown}
use Rattle.model.specs.Transactions.{Language, Statement}
use Rattle.model.specs.declared.entry.Entry.{Entry}
use Rattle.model.specs.declared.entry.Request.{Request}
use Rattle.model.specs.declared.entry.Told.{Told}
use Rattle.model.specs.Answers.{Select, Answer, IsAnswer, read_at}
use Rattle.model.specs.Members.{Node, applied, closed_time}
use Rattle.model.specs.Worlds.{World, Event, Stop, Ask, Output, happens, run, Gives, GivesAll, IsGivenBy, IsGivenAt}
use Rattle.model.specs.Worlds.Output.{Applied, Refused, Answered}
use Rattle.model.specs.Agreement.{IsTold, decided}
use Rattle.safety.specs.Floors.{StaysUp, SealedRises}
use Rattle.onelist.specs.Order.{HasRequest, WasMade, IsNewAfter, IsToldAfter}
use Rattle.onelist.specs.Explained.{Gave, IsAnswered, IsPutOff, AsksPast, IsSubmitted, IsNew, IsUnstopped, HasTold, WereSubmitted, Explains, IsInOrder, IsExplainedBy, OneListExplains, IsExplained, IsDecidedInOrder}
use Rattle.safety.proofs.Lists.{cases, none_some, same_some}
use Rattle.safety.proofs.World.{Outset}
use Rattle.safety.proofs.Agreeing.{agrees}
use Rattle.safety.proofs.Runs.{run_append, reached, decided_rises, stamped_rising, applied_begins, past_closed_time}
use Rattle.safety.proofs.Given.{WasAnswered, was_answered}
use Rattle.onelist.proofs.Telling.{teller, teller_before}
use Rattle.onelist.proofs.Refusing.{refused_stays, unread_stays, was_put_off, WasPutOff, asks_past}
use Rattle.onelist.proofs.Brought.{Empty, each_was_made, none_made_two}
use Rattle.onelist.proofs.Upkeep.{IsIdle, stays_up, idle_run}
use Rattle.onelist.proofs.Whole.{told_of, told_alike, applied_alike, tells_in}
use Rattle.onelist.proofs.Order.{among, last_is, brought_before, in_real_order, closes_later, commits_later, told_closed}

-- ---- lists

at_end : {A : Type 0} (xs : List A) (y : A) (ys : List A) → slice_get (xs ++ y ∷ ys) (length xs) ≡ Some y
at_end [] y ys = refl
at_end (x ∷ xs) y ys = at_end xs y ys

at_index : {A : Type 0} (xs ys : List A) (j : ℕ) (e : A) → j < length xs → slice_index_or xs j e ≡ e → slice_get (xs ++ ys) j ≡ Some e
at_index [] ys j e l q = absurd (omega (arith, l))
at_index (x ∷ xs) ys zero e l q = ap Some q
at_index (x ∷ xs) ys (suc j) e l q = at_index xs ys j e (omega (arith, l)) q

further : {A : Type 0} (xs ys : List A) (i : ℕ) → slice_get (xs ++ ys) (length xs + i) ≡ slice_get ys i
further [] ys i = ap (slice_get ys) (omega arith)
further (x ∷ xs) ys i = ap (slice_get (x ∷ xs ++ ys)) (let e : suc (length xs) + i ≡ suc (length xs + i) = omega arith in e) ∙ further xs ys i

in_front : {A : Type 0} (xs ys : List A) (i : ℕ) (e : A) → slice_get xs i ≡ Some e → slice_get (xs ++ ys) i ≡ Some e
in_front {A} [] ys i e p = absurd (none_some (slice_get {X = A} [] i) e refl p)
in_front (x ∷ xs) ys zero e p = p
in_front (x ∷ xs) ys (suc i) e p = in_front xs ys i e p

-- the events between two
between : (early late before after : List Event) (d e : Event) → early ++ d ∷ late ≡ before ++ e ∷ after → length early < length before → (mid : List Event) × (early ++ d ∷ mid ≡ before)
between early late [] after d e s l = absurd (omega (arith, l))
between [] late (y ∷ ys) after d e s l = let h : d ≡ y = (cc) in (ys, ap (λ z. z ∷ ys) h)
between (x ∷ xs) late (y ∷ ys) after d e s l =
    let h : x ≡ y = (cc) in
    let t : xs ++ d ∷ late ≡ ys ++ e ∷ after = (cc) in
    let M = between xs late ys after d e t (omega (arith, l)) in (M.0, (let q = M.1 in cc))

only : {A : Type 0} (x y : A) → Contains (x ∷ []) y → y ≡ x
only x y h = let e : h.0 ≡ 0 = omega (arith, h.1) in sym (subst (λ k. slice_index_or (x ∷ []) k y ≡ y) e h.2)

-- ---- events and what they gave

-- the k-th event gave these
record Turn (language : Language) (n : ℕ) (w : World) (events : List Event) (k : ℕ) (out : List Output) : Type 0 where
  pub early : List Event
  pub event : Event
  pub late : List Event
  pub moment : early ++ event ∷ late ≡ events
  pub place : suc (length early) ≡ k
  pub gives : Gives language n (run language n w early) event out

module _ (language : Language) (n : ℕ) where
  -- what a run gives in two pieces
  pub gives_append : (es fs : List Event) (w : World) (outs more : List (List Output)) → GivesAll language n w es outs → GivesAll language n (run language n w es) fs more → GivesAll language n w (es ++ fs) (outs ++ more)
  gives_append [] fs w outs more p h = subst (GivesAll language n w fs) (ap (λ z. z ++ more) (sym p)) h
  gives_append (e ∷ es) fs w outs more (out, rest, p, g, t) h = (out, rest ++ more, ap (λ z. z ++ more) p, g, gives_append es fs (happens language n w e) rest more t h)

  turn : (events : List Event) (w : World) (outs : List (List Output)) (k : ℕ) (out : List Output) → GivesAll language n w events outs → slice_get outs k ≡ Some out → Turn language n w events (suc k) out
  turn [] w outs k out g p = absurd (none_some (slice_get outs k) out (ap (λ z. slice_get z k) g) p)
  turn (e ∷ es) w outs zero out (o, rest, q, g, more) p =
      let s : o ≡ out = same_some (slice_get outs 0) o out (ap (λ z. slice_get z 0) q) p in
      record { early = []; event = e; late = es; moment = refl; place = refl; gives = subst (λ z. Gives language n w e z) s g }
  turn (e ∷ es) w outs (suc k) out (o, rest, q, g, more) p =
      let T = turn es (happens language n w e) rest k out more (sym (ap (λ z. slice_get z (suc k)) q) ∙ p) in
      record { early = e ∷ T.early; event = T.event; late = T.late; moment = ap (λ z. e ∷ z) T.moment; place = ap suc T.place; gives = T.gives }

  turn_at : (events : List Event) (w : World) (outs : List (List Output)) (k : ℕ) (out : List Output) → GivesAll language n w events outs → nth outs k ≡ Some out → Turn language n w events k out
  turn_at events w outs zero out g p = absurd (none_some (nth outs 0) out refl p)
  turn_at events w outs (suc k) out g p = turn events w outs k out g p

there : (early late events : List Event) (event : Event) → early ++ event ∷ late ≡ events → nth events (suc (length early)) ≡ Some event
there early late events event s = subst (λ z. nth z (suc (length early)) ≡ Some event) s (at_end early event late)

-- what stands before the same place is the same
same_front : (early late before after : List Event) (d e : Event) → early ++ d ∷ late ≡ before ++ e ∷ after → length early ≡ length before → early ≡ before
same_front [] late [] after d e s l = refl
same_front [] late (y ∷ ys) after d e s l = absurd (omega (arith, l))
same_front (x ∷ xs) late [] after d e s l = absurd (omega (arith, l))
same_front (x ∷ xs) late (y ∷ ys) after d e s l =
    let h : x ≡ y = (cc) in
    let t : xs ++ d ∷ late ≡ ys ++ e ∷ after = (cc) in
    let q = same_front xs late ys after d e t (omega (arith, l)) in cc

-- what no event before the k-th brings is new after them
new_after : (early late events : List Event) (event : Event) (k : ℕ) (r : Request) → early ++ event ∷ late ≡ events → suc (length early) ≡ k → IsNew events k r → IsNewAfter early r
new_after early late events event k r s p new m e (j, l, q) b =
    new (suc j) (omega arith) (m, e, subst (λ z. nth z (suc j) ≡ Some e) s (at_index early (event ∷ late) j e l q), b)

-- who answers is up
answers_up : (language : Language) (n : ℕ) (w : World) (m : ℕ) (q : Select) (out : List Output) (a : Answer) (x : Node) → nth w.nodes m ≡ Some x → Gives language n w (Ask m q) out → Contains out (Answered m a) → x.up ≡ true
answers_up language n w m q out a x l g c = go x.up refl (subst (λ o. IsGivenAt language m q o out) l g)
  where
    go : (b : Bool) → x.up ≡ b → IsGivenBy language m q x b out → x.up ≡ true
    go true u h = u
    go false u h = let e : Answered m a ≡ Refused m NodeDown = only _ _ (subst (λ z. Contains z (Answered m a)) h c) in absurd (cc)

module _ (language : Language) (n : ℕ) (outset : World) (E : Empty outset) (events : List Event) where
  made : (r : Request) (R : HasRequest (decided language n outset events) r) → WasMade language n outset events R.index R.entry r
  made r R = each_was_made language n outset E events R.index R.entry r R.at R.asks

  is_submitted : (r : Request) → HasRequest (decided language n outset events) r → (k : ℕ) × IsSubmitted events k r
  is_submitted r R = let M = made r R in (suc (length M.early), (M.member, M.event, there M.early M.late events M.event M.moment, M.brings))

  are_apart : (r s : Request) (R : HasRequest (decided language n outset events) r) (S : HasRequest (decided language n outset events) s) → (is_submitted r R).0 ≡ (is_submitted s S).0 → R.index ≡ S.index
  unfolding is_submitted
  are_apart r s R S q =
      let h : suc (length (made r R).early) ≡ suc (length (made s S).early) = q in
      none_made_two language n outset E events R.index S.index R.entry S.entry r s (made r R) (made s S) (omega arith)

  -- before it was brought the entry stood in no log
  unless_kept : (r : Request) (R : HasRequest (decided language n outset events) r) (x : Node) → nth (run language n outset (made r R).early).nodes (made r R).member ≡ Some x → (made r R).node.log ≡ x.log → ⊥
  unless_kept r R x at same =
      let M = made r R in
      M.nowhere M.member x (record { early = M.early; late = []; moment = append-nil M.early; at = at }) (subst (λ z. nth z R.index ≡ Some R.entry) same M.stands)

  -- the event that brought it was not refused
  is_unrefused : (outs : List (List Output)) → GivesAll language n outset events outs → (r : Request) (R : HasRequest (decided language n outset events) r) (m : ℕ) (why : Refusal) → Gave outs (is_submitted r R).0 (Refused m why) → ⊥
  unfolding is_submitted
  is_unrefused outs G r R m why (out, p, c) =
      let M = made r R in
      let T = turn_at language n events outset outs (suc (length M.early)) out G p in
      let here : nth events (suc (length M.early)) ≡ Some M.event = there M.early M.late events M.event M.moment in
      let also : nth events (suc (length M.early)) ≡ Some T.event = subst (λ z. nth events z ≡ Some T.event) T.place (there T.early T.late events T.event T.moment) in
      let event : T.event ≡ M.event = same_some (nth events (suc (length M.early))) T.event M.event also here in
      let early : T.early ≡ M.early = same_front T.early T.late M.early M.late T.event M.event (T.moment ∙ sym M.moment) (let u = T.place in omega (arith, u)) in
      let gives : Gives language n (run language n outset M.early) M.event out = subst (λ z. Gives language n (run language n outset z) M.event out) early (subst (λ z. Gives language n (run language n outset T.early) z out) event T.gives) in
      let stays = refused_stays language n (run language n outset M.early) m why r M.member M.event out M.brings gives c in
      unless_kept r R M.node (subst (λ z. nth z.nodes M.member ≡ Some M.node) (run_append language n M.early (M.event ∷ []) outset ∙ stays) M.at) refl

  does_read : (r : Request) → HasRequest (decided language n outset events) r → IsOk (language.reads r.text)
  does_read r R = go (language.reads r.text) refl
    where
      go : (o : Result (List Statement) Refusal) → language.reads r.text ≡ o → IsOk o
      go (Ok ss) e = refl
      go (Err why) e =
          let M = made r R in
          let K = unread_stays language n (run language n outset M.early) r M.member why e M.event M.brings M.node (subst (λ z. nth z.nodes M.member ≡ Some M.node) (run_append language n M.early (M.event ∷ []) outset) M.at) in
          absurd (unless_kept r R K.0 K.1 K.2)

  pub were_submitted : WereSubmitted events (decided language n outset events)
  were_submitted = record { submitted = is_submitted; apart = are_apart }

module _ (language : Language) (n : ℕ) (outset : World) (O : Outset n outset) (E : Empty outset) (events : List Event) (outs : List (List Output)) (G : GivesAll language n outset events outs) where
  abbrev list : List Entry
  list = decided language n outset events

  is_told : (k m : ℕ) (told : Told) → Gave outs k (Applied m told) → IsTold language list told
  is_told k m told (out, p, c) =
      let T = turn_at language n events outset outs k out G p in
      (agrees language n outset O events).outcomes_agree T.early T.late T.event out m told T.moment T.gives c

  -- the event that asked gave this answer
  gives_asked : (k m : ℕ) (q : Select) (out : List Output) (T : Turn language n outset events k out) → nth events k ≡ Some (Ask m q) → (T.early ++ Ask m q ∷ T.late ≡ events) × Gives language n (run language n outset T.early) (Ask m q) out
  gives_asked k m q out T s =
      let same : T.event ≡ Ask m q = same_some (nth events k) T.event (Ask m q) (subst (λ z. nth events z ≡ Some T.event) T.place (there T.early T.late events T.event T.moment)) s in
      (subst (λ z. T.early ++ z ∷ T.late ≡ events) same T.moment, subst (λ z. Gives language n (run language n outset T.early) z out) same T.gives)

  is_answer : (k m : ℕ) (q : Select) (a : Answer) → IsAnswered events outs k m q a → IsAnswer language (read_at a.last q) list a
  is_answer k m q a (s, (out, p, c)) =
      let T = turn_at language n events outset outs k out G p in
      let g = gives_asked k m q out T s in
      (agrees language n outset O events).answers_agree T.early T.late m q out a g.0 g.1 c

  is_after_told : (k m : ℕ) (told : Told) (r : Request) (R : HasRequest list r) → Gave outs k (Applied m told) → IsNew events k r → told.index < R.index
  is_after_told k m told r R (out, p, c) new =
      let T = turn_at language n events outset outs k out G p in
      let I = is_told k m told (out, p, c) in
      let A : IsToldAfter language n outset T.early (T.event ∷ T.late) told = record { event = T.event; rest = T.late; next = refl; out = out; gives = T.gives; member = m; tells = c } in
      (in_real_order language n outset O E T.early (T.event ∷ T.late) told r R.index I.entry R.entry A (new_after T.early T.late events T.event k r T.moment T.place new)
      (subst (λ z. nth (decided language n outset z) told.index ≡ Some I.entry) (sym T.moment) I.at) (subst (λ z. nth (decided language n outset z) R.index ≡ Some R.entry) (sym T.moment) R.at) R.asks).0

  -- an answer was given at this moment
  record AnsweredAt (k m : ℕ) (q : Select) (a : Answer) : Type 0 where
    pub early : List Event
    pub late : List Event
    pub moment : early ++ Ask m q ∷ late ≡ events
    pub place : suc (length early) ≡ k
    pub was : WasAnswered language q (run language n outset early) m a
    pub up : was.node.up ≡ true

  answered_at : (k m : ℕ) (q : Select) (a : Answer) → IsAnswered events outs k m q a → AnsweredAt k m q a
  answered_at k m q a (s, (out, p, c)) =
      let T = turn_at language n events outset outs k out G p in
      let g = gives_asked k m q out T s in
      let A = was_answered language n (run language n outset T.early) m q out a g.1 c in
      record { early = T.early; late = T.late; moment = g.0; place = T.place; was = A; up = answers_up language n (run language n outset T.early) m q out a A.node A.at g.1 c }

  is_after_answer : (k m : ℕ) (q : Select) (a : Answer) (r : Request) (R : HasRequest list r) → IsAnswered events outs k m q a → IsNew events k r → a.last < R.entry.stamp
  is_after_answer k m q a r R h new =
      let T = answered_at k m q a h in
      let A = T.was in
      let at : nth (decided language n outset (T.early ++ Ask m q ∷ T.late)) R.index ≡ Some R.entry = subst (λ z. nth (decided language n outset z) R.index ≡ Some R.entry) (sym T.moment) R.at in
      let l : length (applied A.node) < R.index = cases (cases_lt (length (applied A.node)) R.index) (λ l. l) (λ l.
      let B = brought_before language n outset O E T.early (Ask m q ∷ T.late) m A.node r R.index R.entry A.at l at R.asks in
      absurd (new_after T.early T.late events (Ask m q) k r T.moment T.place new B.member B.event (among B.early B.late T.early B.event B.moment) B.brings)) in
      let h : A.instant < R.entry.stamp = past_closed_time language n outset O T.early (Ask m q ∷ T.late) m A.node A.at A.instant A.is_closed R.index R.entry l at in
      let i = A.within in
      let j = A.answers.last in omega arith

  -- what a member has applied it has told of
  applied_told : (early late : List Event) (m : ℕ) (x : Node) → early ++ late ≡ events → nth (run language n outset early).nodes m ≡ Some x →
      (r : Request) (R : HasRequest list r) → R.index ≤ x.commit → (k : ℕ) → length early ≤ k → k ≤ suc (length early) → HasTold events outs k m R.index
  applied_told early late m x moment at r R has k low high =
      let told = told_of language list R.index R.entry.stamp r in
      let first : 0 < R.index = begins R.index R.at in
      let idle : IsIdle outset = λ j y q d. none_yet j y q in
      let to_tell : (mid rest : List Event) (y : Node) → mid ++ rest ≡ early → nth (run language n outset mid).nodes m ≡ Some y → R.index ≤ y.commit → told_at language y.log R.index ≡ Some told = λ mid rest y s q c.
      let b = subst (λ z. IsBeginning (applied y) (decided language n outset z)) (sym (append_assoc mid rest late) ∙ ap (λ z. z ++ late) s ∙ moment) (applied_begins language n outset O mid (rest ++ late) m y q) in
      told_alike language y.log list R.index R.entry r (applied_alike y list b (((reached language n outset O mid).good.node m y q).fits) R.index c) R.at R.asks in
      cases (tells_in language n m R.index told first early late outset outs idle (subst (λ z. GivesAll language n outset z outs) (sym moment) G) to_tell x at has)
      (λ ((y, q, c), u). absurd (let z = none_yet m y q in omega (arith, first, c, z)))
      (λ (j, l, gave, u). (j, told, omega (arith, l, low), gave, refl, λ s a b h. u s a (omega (arith, b, high)) (subst (λ z. nth z s ≡ Some (Stop m)) (sym moment) h)))
    where
      begins : (i : ℕ) → nth list i ≡ Some R.entry → 0 < i
      begins zero p = absurd (none_some (nth list 0) R.entry refl p)
      begins (suc i) p = omega arith

      none_yet : (j : ℕ) (y : Node) → nth outset.nodes j ≡ Some y → y.commit ≡ 0
      none_yet j y q = let f = ((reached language n outset O []).good.node j y q).fits in let g = ap length (E.nodes j y q) in omega (arith, f, g)

  is_told_whole : (k m : ℕ) (told : Told) (r : Request) (R : HasRequest list r) → Gave outs k (Applied m told) → R.index < told.index → HasTold events outs k m R.index
  is_told_whole k m told r R (out, p, c) l =
      let T = turn_at language n events outset outs k out G p in
      let H = teller language n (run language n outset T.early) m told T.event out T.gives c in
      let at : nth (run language n outset (T.early ++ T.event ∷ [])).nodes m ≡ Some H.0 = subst (λ z. nth z.nodes m ≡ Some H.0) (sym (run_append language n T.early (T.event ∷ []) outset)) H.1 in
      let size = length-append T.early (T.event ∷ []) in
      let place = T.place in
      applied_told (T.early ++ T.event ∷ []) T.late m H.0 (append_assoc T.early (T.event ∷ []) T.late ∙ T.moment) at r R (let h = H.2 in omega (arith, h, l)) k (omega (arith, size, place)) (omega (arith, size, place))

  is_answered_whole : (k m : ℕ) (q : Select) (a : Answer) (r : Request) (R : HasRequest list r) → IsAnswered events outs k m q a → R.entry.stamp ≤ a.last → HasTold events outs k m R.index
  is_answered_whole k m q a r R h l =
      let T = answered_at k m q a h in
      let A = T.was in
      let at : nth (decided language n outset (T.early ++ Ask m q ∷ T.late)) R.index ≡ Some R.entry = subst (λ z. nth (decided language n outset z) R.index ≡ Some R.entry) (sym T.moment) R.at in
      let low : R.index ≤ length (applied A.node) = cases (cases_lt (length (applied A.node)) R.index)
      (λ u. absurd (let past = past_closed_time language n outset O T.early (Ask m q ∷ T.late) m A.node A.at A.instant A.is_closed R.index R.entry u at in
      let i = A.within in
      let j = A.answers.last in omega (arith, past, i, j, l))) (λ u. u) in
      let place = T.place in
      applied_told T.early (Ask m q ∷ T.late) m A.node T.moment A.at r R (omega (arith, low, length-take A.node.commit A.node.log)) k (omega (arith, place)) (omega (arith, place))

  explained : Explains language events outs list
  unfolding were_submitted
  explained = record { stamped = stamped_rising list (decided_rises language n outset O events); told = is_told; answered = is_answer; brought = were_submitted language n outset E events; unrefused = is_unrefused language n outset E events outs G; reads = does_read language n outset E events; told_whole = is_told_whole; answered_whole = is_answered_whole }

  module _ (sealed : SealedRises language n outset) where
    -- a member that was up after the first events stays so
    stays_on : (before mid late : List Event) (m j : ℕ) (x : Node) → (before ++ mid) ++ late ≡ events → j ≤ length before → IsUnstopped events m j (suc (length (before ++ mid))) →
        nth (run language n outset before).nodes m ≡ Some x → x.up ≡ true → StaysUp language n outset before mid m
    stays_on before mid late m j x s l U at up part rest z t q =
        stays_up language n part (run language n outset before) m x at up
        (λ i e p stops. let w = slice_get_within part i e p in
        let whole : before ++ (part ++ (rest ++ late)) ≡ events = ap (λ v. before ++ v) (sym (append_assoc part rest late) ∙ ap (λ v. v ++ late) t) ∙ sym (append_assoc before mid late) ∙ s in
        U (suc (length before + i)) e (omega arith) (let h = ap length t in omega (arith, length-append part rest, length-append before mid))
        (subst (λ v. nth v (suc (length before + i)) ≡ Some e) whole (further before (part ++ (rest ++ late)) i ∙ in_front part (rest ++ late) i e p)) stops)
        z (subst (λ v. nth v.nodes m ≡ Some z) (run_append language n before part outset) q)

    -- who is down has applied nothing
    applied_up : (es : List Event) (m i : ℕ) (x : Node) → nth (run language n outset es).nodes m ≡ Some x → i ≤ x.commit → (e : Entry) → nth list i ≡ Some e → x.up ≡ false → ⊥
    applied_up es m zero x at l e p u = none_some (nth list 0) e refl p
    applied_up es m (suc i) x at l e p u = let c = idle_run language n es outset idle m x at u in omega (arith, l)
      where
        idle : IsIdle outset
        idle k y q d = let f = ((reached language n outset O []).good.node k y q).fits in let g = ap length (E.nodes k y q) in omega arith

    -- what a member told of is closed there from then on, where it was not stopped in between
    closed_since_told : (j k m : ℕ) (told : Told) (T : IsTold language list told) → j < k → Gave outs j (Applied m told) → IsUnstopped events m j k →
        (early late : List Event) (e : Event) (y : Node) → early ++ e ∷ late ≡ events → suc (length early) ≡ k → nth (run language n outset early).nodes m ≡ Some y → T.entry.stamp + 1 ≤ above (closed_time y)
    closed_since_told j k m told I l (out, p, c) U early late e y moment place there_now =
        let T = turn_at language n events outset outs j out G p in
        let so_far = T.early ++ T.event ∷ [] in
        let M = between T.early T.late early late T.event e (T.moment ∙ sym moment) (let u = T.place in omega (arith, u, place, l)) in
        let split : so_far ++ M.0 ≡ early = append_assoc T.early (T.event ∷ []) M.0 ∙ M.1 in
        let whole : so_far ++ T.late ≡ events = append_assoc T.early (T.event ∷ []) T.late ∙ T.moment in
        let H = teller language n (run language n outset T.early) m told T.event out T.gives c in
        let at : nth (run language n outset so_far).nodes m ≡ Some H.0 = subst (λ z. nth z.nodes m ≡ Some H.0) (sym (run_append language n T.early (T.event ∷ []) outset)) H.1 in
        let up : H.0.up ≡ true = cases (cases_Bool H.0.up) (λ u. u) (λ u. absurd (applied_up so_far m told.index H.0 at H.2 I.entry I.at u)) in
        let V : StaysUp language n outset so_far M.0 m = stays_on so_far M.0 (e ∷ late) m j H.0 (ap (λ z. z ++ e ∷ late) split ∙ moment)
        (let u = T.place in omega (arith, length-append T.early (T.event ∷ []))) (subst (IsUnstopped events m j) (sym (ap (λ z. suc (length z)) split ∙ place)) U) at up in
        let f = ((reached language n outset O so_far).good.node m H.0 at).fits in
        let z = told_closed language n outset O sealed so_far T.late m told.index I.entry.stamp H.0 I.entry at (let i = H.2 in omega (arith, length-take H.0.commit H.0.log))
        (subst (λ v. nth (decided language n outset v) told.index ≡ Some I.entry) (sym whole) I.at) refl in
        let u = closes_later language n outset O sealed so_far M.0 m H.0 y at (subst (λ v. nth (run language n outset v).nodes m ≡ Some y) (sym split) there_now) V in omega (arith, z, u)

    -- and so is the instant that an answer names
    closed_since_answer : (j k m : ℕ) (q : Select) (a : Answer) → j < k → IsAnswered events outs j m q a → IsUnstopped events m j k →
        (early late : List Event) (e : Event) (y : Node) → early ++ e ∷ late ≡ events → suc (length early) ≡ k → nth (run language n outset early).nodes m ≡ Some y → a.last + 1 ≤ above (closed_time y)
    closed_since_answer j k m q a l h U early late e y moment place there_now =
        let T = answered_at j m q a h in
        let M = between T.early T.late early late (Ask m q) e (T.moment ∙ sym moment) (let u = T.place in omega (arith, u, place, l)) in
        let so_far = T.early ++ Ask m q ∷ [] in
        let split : so_far ++ M.0 ≡ early = append_assoc T.early (Ask m q ∷ []) M.0 ∙ M.1 in
        let at : nth (run language n outset so_far).nodes m ≡ Some T.was.node = subst (λ z. nth z.nodes m ≡ Some T.was.node) (sym (run_append language n T.early (Ask m q ∷ []) outset)) T.was.at in
        let V : StaysUp language n outset so_far M.0 m = stays_on so_far M.0 (e ∷ late) m j T.was.node (ap (λ z. z ++ e ∷ late) split ∙ moment)
        (let u = T.place in omega (arith, length-append T.early (Ask m q ∷ []))) (subst (IsUnstopped events m j) (sym (ap (λ z. suc (length z)) split ∙ place)) U) at T.up in
        let u = closes_later language n outset O sealed so_far M.0 m T.was.node y at (subst (λ v. nth (run language n outset v).nodes m ≡ Some y) (sym split) there_now) V in
        let w = ap above T.was.is_closed in
        let c = T.was.within in
        let d = T.was.answers.last in omega arith

    is_in_what_is_asked : (j k m : ℕ) (told : Told) (T : IsTold language list told) (q : Select) (a : Answer) → j < k → Gave outs j (Applied m told) → IsAnswered events outs k m q a → q.time ≡ None →
        IsUnstopped events m j k → T.entry.stamp ≤ a.last
    is_in_what_is_asked j k m told I q a l gave h t U =
        let S = answered_at k m q a h in
        let u = closed_since_told j k m told I l gave U S.early S.late (Ask m q) S.was.node S.moment S.place S.was.at in
        let y = last_is language q (run language n outset S.early) m a S.was t in
        let v = ap above S.was.is_closed in omega arith

    goes_forward : (j k m : ℕ) (q r : Select) (a b : Answer) → j < k → IsAnswered events outs j m q a → IsAnswered events outs k m r b → r.time ≡ None → IsUnstopped events m j k → a.last ≤ b.last
    goes_forward j k m q r a b l h i t U =
        let S = answered_at k m r b i in
        let u = closed_since_answer j k m q a l h U S.early S.late (Ask m r) S.was.node S.moment S.place S.was.at in
        let y = last_is language r (run language n outset S.early) m b S.was t in
        let v = ap above S.was.is_closed in omega arith

    -- a question was put off at this moment
    record PutOffAt (k m : ℕ) (q : Select) : Type 0 where
      pub early : List Event
      pub late : List Event
      pub moment : early ++ Ask m q ∷ late ≡ events
      pub place : suc (length early) ≡ k
      pub was : WasPutOff q (run language n outset early) m

    put_off_at : (k m : ℕ) (q : Select) → IsPutOff events outs k m q → PutOffAt k m q
    put_off_at k m q (s, (closed, (out, p, c))) =
        let T = turn_at language n events outset outs k out G p in
        let g = gives_asked k m q out T s in
        record { early = T.early; late = T.late; moment = g.0; place = T.place; was = was_put_off language n q (run language n outset T.early) m closed out g.1 c }

    is_past_told : (j k m : ℕ) (told : Told) (T : IsTold language list told) (q : Select) → j < k → Gave outs j (Applied m told) → IsPutOff events outs k m q → IsUnstopped events m j k → AsksPast T.entry.stamp q
    is_past_told j k m told I q l gave h U =
        let S = put_off_at k m q h in
        asks_past q (closed_time S.was.node) I.entry.stamp (closed_since_told j k m told I l gave U S.early S.late (Ask m q) S.was.node S.moment S.place S.was.at) S.was.unclosed

    is_past_answer : (j k m : ℕ) (q r : Select) (a : Answer) → j < k → IsAnswered events outs j m q a → IsPutOff events outs k m r → IsUnstopped events m j k → AsksPast a.last r
    is_past_answer j k m q r a l h i U =
        let S = put_off_at k m r i in
        asks_past r (closed_time S.was.node) a.last (closed_since_answer j k m q a l h U S.early S.late (Ask m r) S.was.node S.moment S.place S.was.at) S.was.unclosed

    tells_onward : (j k m : ℕ) (a b : Told) → j < k → Gave outs j (Applied m a) → Gave outs k (Applied m b) → IsUnstopped events m j k → a.index < b.index
    tells_onward j k m a b l gave (more, s, d) U =
        let I = is_told j m a gave in
        let T = turn_at language n events outset outs j gave.0 G gave.1 in
        let S = turn_at language n events outset outs k more G s in
        let so_far = T.early ++ T.event ∷ [] in
        let M = between T.early T.late S.early S.late T.event S.event (T.moment ∙ sym S.moment) (let u = T.place in let v = S.place in omega (arith, u, v, l)) in
        let split : so_far ++ M.0 ≡ S.early = append_assoc T.early (T.event ∷ []) M.0 ∙ M.1 in
        let H = teller language n (run language n outset T.early) m a T.event gave.0 T.gives gave.2 in
        let at : nth (run language n outset so_far).nodes m ≡ Some H.0 = subst (λ z. nth z.nodes m ≡ Some H.0) (sym (run_append language n T.early (T.event ∷ []) outset)) H.1 in
        let up : H.0.up ≡ true = cases (cases_Bool H.0.up) (λ u. u) (λ u. absurd (applied_up so_far m a.index H.0 at H.2 I.entry I.at u)) in
        let V : StaysUp language n outset so_far M.0 m = stays_on so_far M.0 (S.event ∷ S.late) m j H.0 (ap (λ z. z ++ S.event ∷ S.late) split ∙ S.moment)
        (let u = T.place in omega (arith, length-append T.early (T.event ∷ []))) (subst (IsUnstopped events m j) (sym (ap (λ z. suc (length z)) split ∙ S.place)) U) at up in
        let L = teller_before language n (run language n outset S.early) m b S.event more S.gives d in
        let p = H.2 in
        let q = commits_later language n outset O sealed so_far M.0 m H.0 L.0 at (subst (λ v. nth (run language n outset v).nodes m ≡ Some L.0) (sym split) L.1) V in
        let r = L.2 in omega (arith, p, q, r)

    ordered : IsInOrder language events outs list
    ordered = record {
      told_then_submitted = is_after_told;
      answered_then_submitted = is_after_answer;
      told_then_asked = is_in_what_is_asked;
      answered_then_asked = goes_forward;
      told_then_put_off = is_past_told;
      answered_then_put_off = is_past_answer;
      told_then_told = tells_onward;
    }

module _ (language : Language) (n : ℕ) (outset : World) (O : Outset n outset) (E : Empty outset) (sealed : SealedRises language n outset) where
  explained_by : (events : List Event) → IsExplainedBy language n outset events (decided language n outset events)
  explained_by events outs G = (explained language n outset O E events outs G, ordered language n outset O E events outs G sealed)

  grows : (early late : List Event) → IsBeginning (decided language n outset early) (decided language n outset (early ++ late))
  grows early late = (agrees language n outset O (early ++ late)).decided_grows early late refl

  pub one_list_explains : OneListExplains language n outset
  one_list_explains = record { list = decided language n outset; explains = explained_by; goes_on = grows }

  pub is_explained : (events : List Event) → IsExplained language n outset events
  is_explained events = record {
    list = decided language n outset events;
    explains = explained_by events;
    goes_on = λ early late s. (decided language n outset early, explained_by early, subst (λ z. IsBeginning (decided language n outset early) (decided language n outset z)) s (grows early late));
  }

  pub is_decided_in_order : (events : List Event) → IsDecidedInOrder language n outset events
  is_decided_in_order events outs G = ordered language n outset O E events outs G sealed
