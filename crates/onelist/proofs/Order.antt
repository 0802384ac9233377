-- What is submitted after an outcome was told, or after an answer, comes after it; and one member's answers go forward.
use Rattle.std.proofs.Common.{◌≡◌, ℕ, zero, suc, ◌+◌, ◌<◌, ◌≤◌, ◌⊎◌, true, Option, Some, None, unwrap_or, option_map, List, [], ◌∷◌, ◌++◌, length, slice_get, refl, sym, ap, ◌∙◌, subst, inl, inr, arith, Contains, append-nil, append_assoc, length-take}
use Rattle.std.proofs.lemmas.Bool.{cases_lt}
use Rattle.std.proofs.lemmas.List.Elements.{Contains-append_right}
use Rattle.model.specs.Lists.{nth, IsBeginning}
use Rattle.model.specs.Stamps.{above}
use Rattle.model.specs.Logs.{closed}
use Rattle.model.specs.Transactions.{Language}
use Rattle.model.specs.declared.entry.Entry.{Entry}
use Rattle.model.specs.declared.entry.Request.{Request}
use Rattle.model.specs.declared.entry.Told.{Told}
use Rattle.model.specs.declared.message.Message.{Message}
use Rattle.model.specs.Answers.{SystemTime, as_of, Select, Answer}
use Rattle.model.specs.Members.{Node, applied, closed_time}
use Rattle.model.specs.Worlds.{World, Event, Output, happens, run, Gives}
use Rattle.model.specs.Worlds.Output.{Applied}
use Rattle.model.specs.Agreement.{decided, IsTold}
use Rattle.safety.specs.Floors.{SealedRises, StaysUp}
use Rattle.onelist.specs.Order.{Brings, IsNowhere, WasBrought, IsNewAfter, InRealOrder, LoggedInOrder, AcceptedInOrder, StampedAfterAnswers, AnswersGoForward, AnswersHaveWhatWasTold}
use Rattle.safety.proofs.Lists.{cases, none_some, same_some, get_within, get_append, HasLast, last_entry, above_greater, Rising}
use Rattle.safety.proofs.World.{Outset}
use Rattle.safety.proofs.Runs.{run_append, reached, applied_begins, applied_rises, decided_rises, stamped_rising, past_closed_time}
use Rattle.safety.proofs.Given.{was_answered, WasAnswered, was_told, WasTold}
use Rattle.onelist.proofs.Requests.{nth_take, AllHeld, none, one}
use Rattle.onelist.proofs.Telling.{brings_tells_nothing, teller}
use Rattle.onelist.proofs.Instants.{accepted_entry}
use Rattle.safety.proofs.Agreeing.{agrees}
use Rattle.onelist.proofs.Brought.{Empty, Onward, onward, logged_now, logged_brought, was_brought}

-- ---- lists of events

pub among : (early late events : List Event) (e : Event) → early ++ e ∷ late ≡ events → Contains events e
among early late events e q = subst (λ z. Contains z e) q (Contains-append_right early (e ∷ late) e (0, omega arith, refl))

not_nothing : {A : Type 0} (xs ys : List A) (y : A) → xs ++ y ∷ ys ≡ [] → ⊥
not_nothing [] ys y q = absurd (cc)
not_nothing (x ∷ xs) ys y q = absurd (cc)

-- an event of more events by one is one of them, or that one
one_of : (early late before : List Event) (d e : Event) → early ++ d ∷ late ≡ before ++ e ∷ [] → ((rest : List Event) × (early ++ d ∷ rest ≡ before)) ⊎ (d ≡ e)
one_of [] late [] d e s = inr (cc)
one_of [] late (y ∷ ys) d e s = let h : d ≡ y = (cc) in inl (ys, ap (λ z. z ∷ ys) h)
one_of (x ∷ xs) late [] d e s = let h : xs ++ d ∷ late ≡ [] = (cc) in absurd (not_nothing xs late d h)
one_of (x ∷ xs) late (y ∷ ys) d e s =
    let h : x ≡ y = (cc) in
    let t : xs ++ d ∷ late ≡ ys ++ e ∷ [] = (cc) in
    cases (one_of xs late ys d e t) (λ (rest, u). inl (rest, (cc))) inr

-- ---- order

-- the instant that an answer to a question without system time names
same_instant : (t : ℕ) (o : Option SystemTime) → o ≡ None → (unwrap_or o (as_of t)).last ≡ t
same_instant t o q = ap (λ z. (unwrap_or z (as_of t)).last) q

pub last_is : (language : Language) (q : Select) (w : World) (m : ℕ) (a : Answer) (A : WasAnswered language q w m a) → q.time ≡ None → a.last ≡ A.instant
last_is language q w m a A t = A.answers.last ∙ same_instant A.instant q.time t

-- what stands in a list up to the length of its beginning stands in the beginning
begins_at : (xs list : List Entry) → IsBeginning xs list → (j : ℕ) (e : Entry) → j ≤ length xs → nth list j ≡ Some e → nth xs j ≡ Some e
begins_at xs list b zero e l p = absurd (none_some (nth list 0) e refl p)
begins_at xs list (rest, b) (suc j) e l p = sym (get_append xs rest j (omega (arith, l))) ∙ ap (λ z. slice_get z j) b ∙ p

index_within : (xs : List Entry) (i : ℕ) (e : Entry) → nth xs i ≡ Some e → i ≤ length xs
index_within xs zero e p = omega arith
index_within xs (suc i) e p = let w = get_within xs i e p in omega arith

in_order : (list : List Entry) → Rising list → (i j : ℕ) (d e : Entry) → i ≤ j → nth list i ≡ Some d → nth list j ≡ Some e → d.stamp ≤ e.stamp
in_order list R i j d e l p q = cases (cases_lt i j) (λ u. let r = (stamped_rising list R).rising i j d e u p q in omega arith)
    (λ u. let k : i ≡ j = omega arith in let same : d ≡ e = same_some (nth list j) d e (subst (λ z. nth list z ≡ Some d) k p) q in let z = ap (λ (v : Entry). v.stamp) same in omega arith)

module _ (language : Language) (n : ℕ) (outset : World) (O : Outset n outset) (E : Empty outset) where
  -- a request that is decided, and no later than what a member had applied, was brought before
  pub brought_before : (early late : List Event) (m : ℕ) (x : Node) (r : Request) (j : ℕ) (e : Entry) → nth (run language n outset early).nodes m ≡ Some x → j ≤ length (applied x) →
      nth (decided language n outset (early ++ late)) j ≡ Some e → e.request ≡ Some r → WasBrought language n outset early r
  brought_before early late m x r j e l s p q =
      let b = begins_at (applied x) (decided language n outset (early ++ late)) (applied_begins language n outset O early late m x l) j e s p in
      logged_brought language n outset E early j e r (logged_now language n outset E early m x l j e (nth_take x.commit x.log j e b)) q

  -- what is brought by one event more, and was in no log before, is brought by that one
  by_last : (early : List Event) (event : Event) (r : Request) → WasBrought language n outset (early ++ event ∷ []) r → IsNowhere language n outset early r → (k : ℕ) × Brings r k event
  by_last early event r B nowhere = cases (one_of B.early B.late early B.event event B.moment)
      (λ (rest, s). absurd (nowhere B.member B.node (record { early = B.early ++ B.event ∷ []; late = rest; moment = append_assoc B.early (B.event ∷ []) rest ∙ s; at = B.at }) B.stands))
      (λ h. (B.member, subst (Brings r B.member) h B.brings))

  -- what no event brought is in no log
  new_nowhere : (early : List Event) (r : Request) → IsNewAfter early r → IsNowhere language n outset early r
  new_nowhere early r new m x W H = let B = was_brought language n outset E early m x r W H in new B.member B.event (among B.early B.late early B.event B.moment) B.brings

  -- the member that told of it had applied it
  told_before : (early late rest : List Event) (event : Event) (m : ℕ) (out : List Output) (told : Told) (r : Request) (j : ℕ) (e : Entry) → event ∷ rest ≡ late → IsNowhere language n outset early r →
      Gives language n (run language n outset early) event out → Contains out (Applied m told) → nth (decided language n outset (early ++ late)) j ≡ Some e → e.request ≡ Some r → j ≤ told.index → ⊥
  told_before early late rest event m out told r j e next nowhere g c p q l =
      let T : WasTold language (happens language n (run language n outset early) event) told = was_told language n (run language n outset early) m told event out g c in
      let at : nth (run language n outset (early ++ event ∷ [])).nodes T.member ≡ Some T.node = subst (λ z. nth z.nodes T.member ≡ Some T.node) (sym (run_append language n early (event ∷ []) outset)) T.at in
      let all : (early ++ event ∷ []) ++ rest ≡ early ++ late = append_assoc early (event ∷ []) rest ∙ ap (λ z. early ++ z) next in
      let long : told.index ≤ length (applied T.node) = (let a = T.applied in let b = index_within T.node.log told.index T.is_told.entry T.is_told.at in omega (arith, length-take T.node.commit T.node.log)) in
      let i = brought_before (early ++ event ∷ []) rest T.member T.node r j e at (omega arith) (subst (λ z. nth (decided language n outset z) j ≡ Some e) (sym all) p) q in
      let b = by_last early event r i nowhere in
      brings_tells_nothing language n (run language n outset early) m told r b.0 event out b.1 g c

  pub logged_in_order : LoggedInOrder language n outset
  logged_in_order early late told r j d e T nowhere at p q =
      let l : told.index < j = cases (cases_lt told.index j) (λ l. l) (λ l. absurd (told_before early late T.rest T.event T.member T.out told r j e T.next nowhere T.gives T.tells p q l)) in
      (l, (stamped_rising _ (decided_rises language n outset O (early ++ late))).rising told.index j d e l at p)

  pub in_real_order : InRealOrder language n outset
  in_real_order early late told r j d e T new at p q = logged_in_order early late told r j d e T (new_nowhere early r new) at p q

  pub accepted_in_order : AcceptedInOrder language n outset
  accepted_in_order early late before after this other t u T S same new p q =
      let list = decided language n outset (early ++ late) in
      let G = agrees language n outset O (early ++ late) in
      let I : IsTold language list this = G.outcomes_agree early T.rest T.event T.out T.member this (ap (λ z. early ++ z) T.next) T.gives T.tells in
      let J : IsTold language list other = G.outcomes_agree before S.rest S.event S.out S.member other (ap (λ z. before ++ z) S.next ∙ same) S.gives S.tells in
      let A = accepted_entry language list this t I p in
      let B = accepted_entry language list other u J q in
      let l = in_real_order early late this B.request (suc B.place) I.entry B.entry T (new B.request B.client B.number) I.at B.at B.asks in
      let h : A.entry.stamp ≤ I.entry.stamp = in_order list (decided_rises language n outset O (early ++ late)) (suc A.place) this.index A.entry I.entry A.low A.at I.at in
      let i = A.stamp in
      let j = B.stamp in
      let k = l.1 in omega arith

  -- ---- answers

  pub stamped_after_answers : StampedAfterAnswers language n outset
  stamped_after_answers early late m q out a r j e g c new p s =
      let A = was_answered language n (run language n outset early) m q out a g c in
      let z = A.within in
      let y = A.answers.last in
      let l : length (applied A.node) < j = cases (cases_lt (length (applied A.node)) j) (λ l. l) (λ l.
      let B = brought_before early late m A.node r j e A.at l p s in
      absurd (new B.member B.event (among B.early B.late early B.event B.moment) B.brings)) in
      let h : A.instant < e.stamp = past_closed_time language n outset O early late m A.node A.at A.instant A.is_closed j e l p in omega arith

-- ---- one member's answers

abbrev Any : ℕ → Entry → Request → Type 0
Any i e r = Unit {0}

nothing_held : (ps : List Message) → AllHeld Any ps
nothing_held [] = none
nothing_held (p ∷ ps) = one (record { carried = λ k e r l q. tt }) (nothing_held ps)

module _ (language : Language) (n : ℕ) where
  event_onward : (w : World) (e : Event) → Onward Any Any w (happens language n w e) e
  event_onward w e = onward Any Any language n w (λ k x l i d r p q. tt) (nothing_held w.sent) e

  commit_along : (es : List Event) (w : World) (m : ℕ) (x : Node) → nth w.nodes m ≡ Some x
      → ((mid rest : List Event) (z : Node) → mid ++ rest ≡ es → nth (run language n w mid).nodes m ≡ Some z → z.up ≡ true)
      → (y : Node) × (nth (run language n w es).nodes m ≡ Some y) × (x.commit ≤ y.commit)
  commit_along [] w m x l U = (x, l, omega arith)
  commit_along (e ∷ es) w m x l U =
      let R = (event_onward w e).rises m x l in
      let c = R.2 (U [] (e ∷ es) x refl l) (U (e ∷ []) es R.0 refl R.1) in
      let H = commit_along es (happens language n w e) m R.0 R.1 (λ mid rest z s q. U (e ∷ mid) rest z (ap (λ v. e ∷ v) s) q) in
      (H.0, H.1, (let h = H.2 in omega arith))

closed_is : (L : List Entry) (j : ℕ) (e : Entry) → HasLast L j e → closed L ≡ Some e.stamp
closed_is L j e H = ap (λ k. option_map (λ (d : Entry). d.stamp) (nth L k)) H.size ∙ ap (option_map (λ (d : Entry). d.stamp)) H.there

-- a longer beginning of a list whose stamps rise closes no earlier
later_closed : (xs ys list : List Entry) → Rising list → IsBeginning xs list → IsBeginning ys list → length xs ≤ length ys → above (closed xs) ≤ above (closed ys)
later_closed [] ys list R a b l = omega arith
later_closed (x ∷ xs) [] list R a b l = absurd (omega arith)
later_closed (x ∷ xs) (y ∷ ys) list R (s, a) (t, b) l = go (last_entry (x ∷ xs) (omega arith)) (last_entry (y ∷ ys) (omega arith))
  where
    go : (j : ℕ) × (e : Entry) × HasLast (x ∷ xs) j e → (j : ℕ) × (e : Entry) × HasLast (y ∷ ys) j e → above (closed (x ∷ xs)) ≤ above (closed (y ∷ ys))
    go (i, d, D) (j, e, F) =
        let p : slice_get list i ≡ Some d = ap (λ z. slice_get z i) (sym a) ∙ get_append (x ∷ xs) s i (let z = D.size in omega arith) ∙ D.there in
        let q : slice_get list j ≡ Some e = ap (λ z. slice_get z j) (sym b) ∙ get_append (y ∷ ys) t j (let z = F.size in omega arith) ∙ F.there in
        let h = in_order list R (suc i) (suc j) d e (let z = D.size in let v = F.size in omega arith) p q in
        let u = ap above (closed_is (x ∷ xs) i d D) in
        let v = ap above (closed_is (y ∷ ys) j e F) in omega arith

-- each entry is stamped at most at the last stamp
closed_past : (xs : List Entry) → Rising xs → (i : ℕ) (e : Entry) → nth xs i ≡ Some e → e.stamp + 1 ≤ above (closed xs)
closed_past [] R i e p = absurd (let w = index_within [] i e p in at_none i w p)
  where
    at_none : (i : ℕ) → i ≤ 0 → nth [] i ≡ Some e → ⊥
    at_none zero w p = none_some (nth {A = Entry} [] 0) e refl p
    at_none (suc i) w p = omega (arith, w)
closed_past (x ∷ xs) R i e p = go (last_entry (x ∷ xs) (omega arith))
  where
    go : (j : ℕ) × (d : Entry) × HasLast (x ∷ xs) j d → e.stamp + 1 ≤ above (closed (x ∷ xs))
    go (j, d, D) =
        let h = in_order (x ∷ xs) R i (suc j) e d (let w = index_within (x ∷ xs) i e p in let z = D.size in omega arith) p D.there in
        let u = ap above (closed_is (x ∷ xs) j d D) in omega arith

module _ (language : Language) (n : ℕ) (outset : World) (O : Outset n outset) (sealed : SealedRises language n outset) where
  -- the commit index of a member that stays up does not fall
  pub commits_later : (early late : List Event) (m : ℕ) (x y : Node) → nth (run language n outset early).nodes m ≡ Some x → nth (run language n outset (early ++ late)).nodes m ≡ Some y →
      StaysUp language n outset early late m → x.commit ≤ y.commit
  commits_later early late m x y l k U =
      let joined : (es : List Event) → run language n outset (early ++ es) ≡ run language n (run language n outset early) es = λ es. run_append language n early es outset in
      let H = commit_along language n late (run language n outset early) m x l (λ mid rest z e q. U mid rest z e (subst (λ v. nth v.nodes m ≡ Some z) (sym (joined mid)) q)) in
      let same : H.0 ≡ y = same_some (nth (run language n outset (early ++ late)).nodes m) H.0 y (subst (λ v. nth v.nodes m ≡ Some H.0) (sym (joined late)) H.1) k in
      subst (λ (v : Node). x.commit ≤ v.commit) same H.2

  pub closes_later : (early late : List Event) (m : ℕ) (x y : Node) → nth (run language n outset early).nodes m ≡ Some x → nth (run language n outset (early ++ late)).nodes m ≡ Some y →
      StaysUp language n outset early late m → above (closed_time x) ≤ above (closed_time y)
  closes_later early late m x y l k U =
      let c = commits_later early late m x y l k U in
      let logs : above (closed (applied x)) ≤ above (closed (applied y)) = later_closed (applied x) (applied y) (decided language n outset (early ++ late)) (decided_rises language n outset O (early ++ late))
      (applied_begins language n outset O early late m x l) (subst (λ z. IsBeginning (applied y) (decided language n outset z)) (append-nil (early ++ late)) (applied_begins language n outset O (early ++ late) [] m y k))
      (let f = fits (early ++ late) m y k in omega (arith, length-take x.commit x.log, length-take y.commit y.log)) in
      let seals : above x.sealed ≤ above y.sealed = seals_rise x.sealed refl in
      let a = above_greater (closed (applied x)) x.sealed in
      let b = above_greater (closed (applied y)) y.sealed in omega arith
    where
      fits : (es : List Event) (j : ℕ) (z : Node) → nth (run language n outset es).nodes j ≡ Some z → z.commit ≤ length z.log
      fits es j z q = ((reached language n outset O es).good.node j z q).fits

      seals_rise : (o : Option ℕ) → x.sealed ≡ o → above o ≤ above y.sealed
      seals_rise None e = omega arith
      seals_rise (Some t) e = let r = sealed early late m t x y l k U e in let z = ap above r.1 in let h = r.2 in omega arith

  pub answers_go_forward : AnswersGoForward language n outset
  answers_go_forward early late m q r out more a b t g c h d U =
      let A = was_answered language n (run language n outset early) m q out a g c in
      let B = was_answered language n (run language n outset (early ++ late)) m r more b h d in
      let i = A.within in
      let k = A.answers.last in
      let j = last_is language r (run language n outset (early ++ late)) m b B t in
      let z = closes_later early late m A.node B.node A.at B.at U in
      let u = ap above A.is_closed in
      let v = ap above B.is_closed in omega arith

  -- what is told as accepted is stamped at most at the closed time
  pub told_closed : (early late : List Event) (m i t : ℕ) (x : Node) (e : Entry) → nth (run language n outset early).nodes m ≡ Some x → i ≤ length (applied x) → nth (decided language n outset (early ++ late)) i ≡ Some e → e.stamp ≡ t →
      t + 1 ≤ above (closed_time x)
  told_closed early late m i t x e l s p q =
      let list = decided language n outset (early ++ late) in
      let b = applied_begins language n outset O early late m x l in
      let h = closed_past (applied x) (applied_rises language n outset O early m x l) i e (begins_at (applied x) list b i e s p) in
      let z = above_greater (closed (applied x)) x.sealed in omega arith

  pub answers_have_what_was_told : AnswersHaveWhatWasTold language n outset
  answers_have_what_was_told early late event m t told q out more a p s g c h d U =
      let so_far = early ++ event ∷ [] in
      let split : (early ++ event ∷ []) ++ late ≡ early ++ event ∷ late = append_assoc early (event ∷ []) late in
      let H = teller language n (run language n outset early) m told event out g c in
      let at : nth (run language n outset (early ++ event ∷ [])).nodes m ≡ Some H.0 = subst (λ z. nth z.nodes m ≡ Some H.0) (sym (run_append language n early (event ∷ []) outset)) H.1 in
      let list = decided language n outset (early ++ event ∷ late) in
      let I = (agrees language n outset O (early ++ event ∷ late)).outcomes_agree early late event out m told refl g c in
      let A = accepted_entry language list told t I p in
      let f = ((reached language n outset O so_far).good.node m H.0 at).fits in
      let z = told_closed so_far late m (suc A.place) t H.0 A.entry at (let i = H.2 in let j = A.low in omega (arith, length-take H.0.commit H.0.log))
      (subst (λ v. nth (decided language n outset v) (suc A.place) ≡ Some A.entry) (sym split) A.at) A.stamp in
      let B = was_answered language n (run language n outset (early ++ event ∷ late)) m q more a h d in
      let j = last_is language q (run language n outset (early ++ event ∷ late)) m a B s in
      let u = closes_later so_far late m H.0 B.node at (subst (λ v. nth (run language n outset v).nodes m ≡ Some B.node) (sym split) B.at) U in
      let v = ap above B.is_closed in omega arith
