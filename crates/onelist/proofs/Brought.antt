-- Each request in a log was brought by an event of the run.
use Rattle.std.proofs.Common.{◌≡◌, ℕ, zero, suc, ◌≤◌, ◌⊎◌, ◌&&◌, true, false, Option, Some, None, Result, Ok, Err, List, [], ◌∷◌, ◌++◌, length, slice_get, refl, sym, ap, ◌∙◌, subst, inl, inr, arith, eqb-true, append-nil, append_assoc, ◌+◌}
use Rattle.std.specs.Prelude.{nat_lt, ◌==◌, ℤ}
use Rattle.std.proofs.lemmas.Bool.{cases_Bool, cond_both, eqb-false}
use Rattle.std.specs.Option.{option_map_or}
use Rattle.model.specs.Lists.{nth, with_nth}
use Rattle.fault.specs.declared.refusal.Refusal.{Refusal}
use Rattle.model.specs.Transactions.{Language, Statement}
use Rattle.model.specs.declared.entry.Entry.{Entry}
use Rattle.model.specs.declared.entry.Request.{Request}
use Rattle.model.specs.declared.message.Message.{Message}
use Rattle.model.specs.declared.message.Input.{Input}
use Rattle.model.specs.declared.message.Input.TheVariants.{Timeout, Beat, Close, Submit, Floor}
use Rattle.model.specs.Members.{Node, applied}
use Rattle.model.specs.Steps.{Effect, Moves, Refuses, Nothing, After, on_input, on_message}
use Rattle.model.specs.Worlds.{World, Event, Hand, Deliver, Stop, Start, Torn, Ask, hand, effect, with_node, stopped, started, done, node_left, does, is_for, happens, fresh, new_world, led_world, led_nodes, first_leader, run}
use Rattle.model.specs.declared.event.Job.{Job}
use Rattle.model.specs.declared.event.Job.TheVariants.{Local, Delivery}
use Rattle.model.specs.declared.event.Left.{Left}
use Rattle.model.specs.declared.event.Left.TheVariants.{Old, New}
use Rattle.model.specs.Agreement.{longer, longest, decided_from, decided}
use Rattle.safety.specs.Floors.{WasAt}
use Rattle.onelist.specs.Order.{HasRequest, Brings, Whole, CutShort, WasBrought, NothingInvented, NoLogInvented, NothingSentInvented, WasMade, EachWasMade, NoneMadeTwo}
use Rattle.safety.proofs.Lists.{if_there, cases, none_some, same_some, get_with, get_replicate, found_replicate}
use Rattle.safety.proofs.Runs.{run_append}
use Rattle.safety.proofs.Given.{nth_same}
use Rattle.safety.proofs.Moments.{nth_other}
use Rattle.onelist.proofs.Requests.{nth_within, nth_take, prev_of, AllHeld, none, all_weaker, all_append, all_nth, At, Grown, EffectTakes, input_takes, message_takes}

-- ---- one event

-- what an event leads to: what stands in a log stood in one before, or was brought to that member by the event; what is sent
-- stands in a log; and a member that stays up has committed no less
pub record Onward (P Q : ℕ → Entry → Request → Type 0) (w v : World) (e : Event) : Type 0 where
  pub node : (k : ℕ) (y : Node) → nth v.nodes k ≡ Some y → Grown P (λ r. Brings r k e) y.log
  pub sent : ((k : ℕ) (y : Node) → nth v.nodes k ≡ Some y → (i : ℕ) (d : Entry) → nth y.log i ≡ Some d → (r : Request) → Q i d r) → AllHeld Q w.sent → AllHeld Q v.sent
  pub rises : (k : ℕ) (x : Node) → nth w.nodes k ≡ Some x → (y : Node) × (nth v.nodes k ≡ Some y) × (x.up ≡ true → y.up ≡ true → x.commit ≤ y.commit)

module _ (P : ℕ → Entry → Request → Type 0) (New : Request → Type 0) (language : Language) (n : ℕ) (w : World) (sent : AllHeld P w.sent) where
  unless_takes : (c : ℕ) (r : Result (List Statement) Refusal) (e : Effect) → EffectTakes P New c e → EffectTakes P New c (elim (r) [ Ok ss ↦ e | Err refusal ↦ Refuses refusal ])
  unless_takes c (Ok ss) e h = h
  unless_takes c (Err refusal) e h = tt

  abbrev Stands : Node → Type 0
  Stands x = (i : ℕ) (e : Entry) (r : Request) → nth x.log i ≡ Some e → e.request ≡ Some r → P i e r

  handed : (m : ℕ) (i : Input) (x : Node) → Stands x → ((reading : ℤ) (r : Request) → i ≡ Submit reading r → New r) → EffectTakes P New x.commit (hand language n m i x)
  handed m Timeout x X new = input_takes P New n m x.commit x X (omega arith) Timeout new
  handed m Beat x X new = input_takes P New n m x.commit x X (omega arith) Beat new
  handed m (Close reading) x X new = input_takes P New n m x.commit x X (omega arith) (Close reading) new
  handed m (Floor reading) x X new = input_takes P New n m x.commit x X (omega arith) (Floor reading) new
  handed m (Submit reading request) x X new = unless_takes x.commit (language.reads request.text) (on_input n m (Submit reading request) x) (input_takes P New n m x.commit x X (omega arith) (Submit reading request) new)

  effect_takes : (m : ℕ) (j : Job) (x : Node) → Stands x → ((reading : ℤ) (r : Request) → j ≡ Local (Submit reading r) → New r) → EffectTakes P New x.commit (effect language n w m j x)
  effect_takes m (Local i) x X new = handed m i x X (λ reading r q. new reading r (ap Local q))
  effect_takes m (Delivery k reading) x X new = go (nth w.sent k) refl
    where
      go : (o : Option Message) → nth w.sent k ≡ o → EffectTakes P New x.commit (option_map_or (λ (p : Message). on_message language n m reading p x) o Nothing)
      go None e = tt
      go (Some p) e = message_takes P New language n m reading p x X (all_nth P w.sent k p sent e)

module _ (P Q : ℕ → Entry → Request → Type 0) (language : Language) (n : ℕ) (w : World) (nodes : (k : ℕ) (x : Node) → nth w.nodes k ≡ Some x → (i : ℕ) (d : Entry) (r : Request) → nth x.log i ≡ Some d → d.request ≡ Some r → P i d r) (sent : AllHeld P w.sent) where
  abbrev By : ℕ → Event → Request → Type 0
  By m e r = Brings r m e

  old_in : (e : Event) (m : ℕ) (x : Node) → nth w.nodes m ≡ Some x → Grown P (λ r. Brings r m e) x.log
  old_in e m x l i d r p q = inl (nodes m x l i d r p q)

  stays : (e : Event) → Onward P Q w w e
  stays e = record { node = λ k y l. old_in e k y l; sent = λ now old. old; rises = λ k x l. (x, l, (λ u v. omega arith)) }

  stepped : (e : Event) (m : ℕ) (x : Node) (a : After) → nth w.nodes m ≡ Some x → Grown P (λ r. Brings r m e) a.node.log → AllHeld (At a.node.log) a.sent
      → (x.up ≡ true → a.node.up ≡ true → x.commit ≤ a.node.commit) → Onward P Q w (with_node w m a.node a.sent) e
  stepped e m x a l X s c = record {
    node = get_with (λ k z. Grown P (λ r. Brings r k e) z.log) w.nodes m a.node X (λ k z ne q. old_in e k z q);
    sent = λ now old. all_append Q w.sent a.sent old (all_weaker (At a.node.log) Q (λ i d r q h. now m a.node (nth_same w.nodes m x a.node l) i d h r) a.sent s);
    rises = λ k z q. cases (cases_Bool (k == m))
        (λ p. let t : k ≡ m = eqb-true k m p in
        let same : x ≡ z = same_some (nth w.nodes m) x z l (subst (λ i. nth w.nodes i ≡ Some z) t q) in
        (a.node, subst (λ i. nth (with_nth w.nodes m a.node) i ≡ Some a.node) (sym t) (nth_same w.nodes m x a.node l), subst (λ (v : Node). v.up ≡ true → a.node.up ≡ true → v.commit ≤ a.node.commit) same c))
        (λ p. (z, nth_other w.nodes m a.node k (eqb-false k m p) ∙ q, (λ u v. omega arith)));
  }

  -- a member that stopped
  stops_with : (e : Event) (m : ℕ) (x z : Node) → nth w.nodes m ≡ Some x → Grown P (λ r. Brings r m e) z.log → Onward P Q w (with_node w m (stopped z) []) e
  stops_with e m x z l X = stepped e m x (record { node = stopped z; sent = [] }) l X none (λ u v. absurd (let q : false ≡ true = v in cc))

  done_onward : (e : Event) (m : ℕ) (x : Node) (o : Effect) → nth w.nodes m ≡ Some x → EffectTakes P (By m e) x.commit o → Onward P Q w (done w m o) e
  done_onward e m x Nothing l S = stays e
  done_onward e m x (Refuses refusal) l S = stays e
  done_onward e m x (Moves a) l S = stepped e m x a l S.node S.sent (λ u v. S.rises)

  new_onward : (e : Event) (m : ℕ) (x : Node) (o : Effect) → nth w.nodes m ≡ Some x → EffectTakes P (By m e) x.commit o → Onward P Q w (with_node w m (stopped (node_left New x o)) []) e
  new_onward e m x Nothing l S = stops_with e m x x l (old_in e m x l)
  new_onward e m x (Refuses refusal) l S = stops_with e m x x l (old_in e m x l)
  new_onward e m x (Moves a) l S = stops_with e m x a.node l S.node

  takes : (e : Event) (m : ℕ) (j : Job) (x : Node) → nth w.nodes m ≡ Some x → ((reading : ℤ) (r : Request) → j ≡ Local (Submit reading r) → Brings r m e) → EffectTakes P (By m e) x.commit (effect language n w m j x)
  takes e m j x l new = effect_takes P (By m e) language n w sent m j x (nodes m x l) new

  torn_onward : (m : ℕ) (j : Job) (left : Left) (x : Node) → nth w.nodes m ≡ Some x → Onward P Q w (with_node w m (stopped (node_left left x (effect language n w m j x))) []) (Torn m j left)
  torn_onward m j Old x l = stops_with (Torn m j Old) m x x l (old_in (Torn m j Old) m x l)
  torn_onward m j New x l = new_onward (Torn m j New) m x (effect language n w m j x) l (takes (Torn m j New) m j x l (λ reading r q. subst (λ i. Brings r m (Torn m i New)) (sym q) (CutShort reading)))

  does_onward : (e : Event) (m : ℕ) (j : Job) → ((reading : ℤ) (r : Request) → j ≡ Local (Submit reading r) → Brings r m e) → Onward P Q w (does language n w m j (nth w.nodes m)) e
  does_onward e m j new = if_there (nth w.nodes m) _ w (λ v. Onward P Q w v e) (λ x l. cond_both x.up _ w (λ v. Onward P Q w v e) (λ p. done_onward e m x (effect language n w m j x) l (takes e m j x l new)) (λ p. stays e)) (stays e)

  pub onward : (e : Event) → Onward P Q w (happens language n w e) e
  onward (Hand m i) = does_onward (Hand m i) m (Local i) (λ reading r q. let s : i ≡ Submit reading r = (cc) in subst (λ h. Brings r m (Hand m h)) (sym s) (Whole reading))
  onward (Deliver k reading) = if_there (nth w.sent k) _ w (λ v. Onward P Q w v (Deliver k reading)) (λ p e. does_onward (Deliver k reading) p.addressee (Delivery k reading) (λ t r q. absurd (cc))) (stays (Deliver k reading))
  onward (Stop m) = if_there (nth w.nodes m) _ w (λ v. Onward P Q w v (Stop m)) (λ x l. cond_both x.up _ w (λ v. Onward P Q w v (Stop m)) (λ p. stops_with (Stop m) m x x l (old_in (Stop m) m x l)) (λ p. stays (Stop m))) (stays (Stop m))
  onward (Start m) = if_there (nth w.nodes m) _ w (λ v. Onward P Q w v (Start m)) (λ x l. cond_both x.up w _ (λ v. Onward P Q w v (Start m)) (λ p. stays (Start m))
      (λ p. stepped (Start m) m x (record { node = started x; sent = [] }) l (old_in (Start m) m x l) none (λ u v. absurd (let z = p in cc)))) (stays (Start m))
  onward (Torn m j left) = if_there (nth w.nodes m) _ w (λ v. Onward P Q w v (Torn m j left)) (λ x l. cond_both (x.up && is_for w m j) _ w (λ v. Onward P Q w v (Torn m j left))
      (λ p. torn_onward m j left x l) (λ p. stays (Torn m j left))) (stays (Torn m j left))
  onward (Ask m q) = stays (Ask m q)

-- ---- whether a request stands in a log

same_text : (a b : List ℕ) → (a ≡ b) ⊎ (a ≡ b → ⊥)
same_text [] [] = inl refl
same_text [] (y ∷ ys) = inr (λ e. absurd (cc))
same_text (x ∷ xs) [] = inr (λ e. absurd (cc))
same_text (x ∷ xs) (y ∷ ys) = cases (cases_Bool (x == y))
    (λ p. let q = eqb-true x y p in cases (same_text xs ys) (λ e. inl (cc)) (λ ne. inr (λ e. ne (cc))))
    (λ p. let q = eqb-false x y p in inr (λ e. q (cc)))

same_request : (a b : Request) → (a ≡ b) ⊎ (a ≡ b → ⊥)
same_request a b = cases (cases_Bool (a.client == b.client))
    (λ p. cases (cases_Bool (a.number == b.number))
    (λ q. cases (same_text a.text b.text)
    (λ t. inl (ap (λ c. record { client = c; number = a.number; text = a.text }) (eqb-true _ _ p) ∙ ap (λ k. record { client = b.client; number = k; text = a.text }) (eqb-true _ _ q) ∙ ap (λ s. record { client = b.client; number = b.number; text = s }) t))
    (λ ne. inr (λ e. ne (ap (λ (r : Request). r.text) e))))
    (λ q. inr (λ e. eqb-false _ _ q (ap (λ (r : Request). r.number) e))))
    (λ p. inr (λ e. eqb-false _ _ p (ap (λ (r : Request). r.client) e)))

asks_or_not : (r : Request) (o : Option Request) → (o ≡ Some r) ⊎ (o ≡ Some r → ⊥)
asks_or_not r None = inr (λ e. none_some None r refl e)
asks_or_not r (Some s) = cases (same_request s r) (λ e. inl (ap Some e)) (λ ne. inr (λ e. ne (cc)))

same_entry : (a b : Entry) → (a ≡ b) ⊎ (a ≡ b → ⊥)
same_entry a b = cases (cases_Bool (a.term == b.term))
    (λ p. cases (cases_Bool (a.stamp == b.stamp))
    (λ q. cases (same_asked a.request b.request)
    (λ t. inl (ap (λ c. record { term = c; stamp = a.stamp; request = a.request }) (eqb-true _ _ p) ∙ ap (λ k. record { term = b.term; stamp = k; request = a.request }) (eqb-true _ _ q) ∙ ap (λ s. record { term = b.term; stamp = b.stamp; request = s }) t))
    (λ ne. inr (λ e. ne (ap (λ (r : Entry). r.request) e))))
    (λ q. inr (λ e. eqb-false _ _ q (ap (λ (r : Entry). r.stamp) e))))
    (λ p. inr (λ e. eqb-false _ _ p (ap (λ (r : Entry). r.term) e)))
  where
    same_asked : (o u : Option Request) → (o ≡ u) ⊎ (o ≡ u → ⊥)
    same_asked None None = inl refl
    same_asked None (Some s) = inr (λ e. absurd (none_some None s refl e))
    same_asked (Some r) None = inr (λ e. absurd (none_some None r refl (sym e)))
    same_asked (Some r) (Some s) = cases (same_request r s) (λ e. inl (ap Some e)) (λ ne. inr (λ e. ne (cc)))

-- what can be told of a log
abbrev Decides : (List Entry → Type 0) → Type 0
Decides D = (L : List Entry) → D L ⊎ (D L → ⊥)

has_none : (r : Request) → HasRequest [] r → ⊥
has_none r H = let w = nth_within [] H.index H.entry H.at in omega (arith, w.0, w.1)

has_or_not : (r : Request) → Decides (λ L. HasRequest L r)
has_or_not r [] = inr (has_none r)
has_or_not r (x ∷ xs) = cases (asks_or_not r x.request) (λ q. inl (record { index = 1; entry = x; at = refl; asks = q }))
    (λ absent. cases (has_or_not r xs) (λ H. inl (longer H.index H.entry H.at H.asks)) (λ nowhere. inr (λ H. shorter absent nowhere H.index H.entry H.at H.asks)))
  where
    longer : (i : ℕ) (e : Entry) → nth xs i ≡ Some e → e.request ≡ Some r → HasRequest (x ∷ xs) r
    longer zero e p q = absurd (none_some (nth xs 0) e refl p)
    longer (suc i) e p q = record { index = suc (suc i); entry = e; at = p; asks = q }

    shorter : (x.request ≡ Some r → ⊥) → (HasRequest xs r → ⊥) → (i : ℕ) (e : Entry) → nth (x ∷ xs) i ≡ Some e → e.request ≡ Some r → ⊥
    shorter absent nowhere zero e p q = none_some (nth (x ∷ xs) 0) e refl p
    shorter absent nowhere (suc zero) e p q = let s : x ≡ e = (cc) in absent (ap (λ (v : Entry). v.request) s ∙ q)
    shorter absent nowhere (suc (suc i)) e p q = nowhere (record { index = suc i; entry = e; at = p; asks = q })

at_or_not : (i : ℕ) (e : Entry) → Decides (λ L. nth L i ≡ Some e)
at_or_not i e L = go (nth L i)
  where
    go : (o : Option Entry) → (o ≡ Some e) ⊎ (o ≡ Some e → ⊥)
    go None = inr (λ p. none_some None e refl p)
    go (Some d) = cases (same_entry d e) (λ p. inl (ap Some p)) (λ ne. inr (λ p. ne (cc)))

module _ (D : List Entry → Type 0) (decide : Decides D) where
  abbrev InSome : List Node → Type 0
  InSome xs = (k : ℕ) × (x : Node) × (slice_get xs k ≡ Some x) × D x.log

  some_or_not : (xs : List Node) → InSome xs ⊎ (InSome xs → ⊥)
  some_or_not [] = inr (λ (k, x, l, i). none_some (slice_get {X = Node} [] k) x refl l)
  some_or_not (y ∷ ys) = cases (decide y.log) (λ i. inl (0, y, refl, i)) (λ absent. cases (some_or_not ys) (λ (k, x, l, i). inl (suc k, x, l, i)) (λ nowhere. inr (λ (k, x, l, i). rest absent nowhere k x l i)))
    where
      rest : (D y.log → ⊥) → (InSome ys → ⊥) → (k : ℕ) (x : Node) → slice_get (y ∷ ys) k ≡ Some x → D x.log → ⊥
      rest absent nowhere zero x l i = let q : y ≡ x = (cc) in absent (subst (λ (v : Node). D v.log) (sym q) i)
      rest absent nowhere (suc k) x l i = nowhere (k, x, l, i)

-- so it is of some member's log
pub record InWorld (D : List Entry → Type 0) (w : World) : Type 0 where
  pub member : ℕ
  pub node : Node
  pub at : nth w.nodes member ≡ Some node
  pub stands : D node.log

in_world : (D : List Entry → Type 0) → Decides D → (w : World) → InWorld D w ⊎ (InWorld D w → ⊥)
in_world D decide w = cases (some_or_not D decide w.nodes) (λ (k, x, l, i). inl (record { member = suc k; node = x; at = l; stands = i })) (λ absent. inr (λ W. go absent W.member W.node W.at W.stands))
  where
    go : (InSome D decide w.nodes → ⊥) → (m : ℕ) (x : Node) → nth w.nodes m ≡ Some x → D x.log → ⊥
    go absent zero x l i = none_some (nth w.nodes 0) x refl l
    go absent (suc k) x l i = absent (k, x, l, i)

-- ---- the first moment

record First (language : Language) (n : ℕ) (D : List Entry → Type 0) (w : World) (es : List Event) : Type 0 where
  pub early : List Event
  pub event : Event
  pub late : List Event
  pub moment : early ++ event ∷ late ≡ es
  pub never : (p q : List Event) → p ++ q ≡ early → InWorld D (run language n w p) → ⊥
  pub now : InWorld D (run language n w (early ++ event ∷ []))

module _ (language : Language) (n : ℕ) (D : List Entry → Type 0) (decide : Decides D) where
  none_before : (w : World) → (InWorld D w → ⊥) → (p q : List Event) → p ++ q ≡ [] → InWorld D (run language n w p) → ⊥
  none_before w absent [] q s i = absent i
  none_before w absent (a ∷ p) q s i = absurd (cc)

  none_longer : (w : World) (e : Event) (early : List Event) → (InWorld D w → ⊥) → ((p q : List Event) → p ++ q ≡ early → InWorld D (run language n (happens language n w e) p) → ⊥)
      → (p q : List Event) → p ++ q ≡ e ∷ early → InWorld D (run language n w p) → ⊥
  none_longer w e early absent later [] q s i = absent i
  none_longer w e early absent later (a ∷ p) q s i =
      let h : a ≡ e = (cc) in
      let t : p ++ q ≡ early = (cc) in
      later p q t (subst (λ v. InWorld D (run language n (happens language n w v) p)) h i)

  first : (es : List Event) (w : World) → (InWorld D w → ⊥) → InWorld D (run language n w es) → First language n D w es
  first [] w absent i = absurd (absent i)
  first (e ∷ es) w absent i = cases (in_world D decide (happens language n w e))
      (λ now. record { early = []; event = e; late = es; moment = refl; never = none_before w absent; now = now })
      (λ not_yet. let F = first es (happens language n w e) not_yet i in
      record { early = e ∷ F.early; event = F.event; late = F.late; moment = ap (λ z. e ∷ z) F.moment; never = none_longer w e F.early absent F.never; now = F.now })

-- ---- runs

-- at a moment of the run the entry stood at this index of some member's log
pub record Logged (language : Language) (n : ℕ) (outset : World) (events : List Event) (i : ℕ) (e : Entry) : Type 0 where
  pub member : ℕ
  pub node : Node
  pub was : WasAt language n outset events member node
  pub stands : nth node.log i ≡ Some e

pub record Empty (w : World) : Type 0 where
  pub nodes : (m : ℕ) (x : Node) → nth w.nodes m ≡ Some x → x.log ≡ []
  pub sent : w.sent ≡ []

module _ (language : Language) (n : ℕ) (outset : World) (E : Empty outset) where
  abbrev logged : List Event → ℕ → Entry → Request → Type 0
  logged events i e r = Logged language n outset events i e

  pub logged_now : (events : List Event) (m : ℕ) (x : Node) → nth (run language n outset events).nodes m ≡ Some x → (i : ℕ) (e : Entry) → nth x.log i ≡ Some e → Logged language n outset events i e
  logged_now events m x l i e p = record { member = m; node = x; was = record { early = events; late = []; moment = append-nil events; at = l }; stands = p }

  logged_later : (before more : List Event) (i : ℕ) (e : Entry) → Logged language n outset before i e → Logged language n outset (before ++ more) i e
  logged_later before more i e L = let W = L.was in
      record { member = L.member; node = L.node; was = record { early = W.early; late = W.late ++ more; moment = sym (append_assoc W.early W.late more) ∙ ap (λ z. z ++ more) W.moment; at = W.at }; stands = L.stands }

  abbrev Sends : List Event → Type 0
  Sends events = AllHeld (logged events) (run language n outset events).sent

  one_event : (before : List Event) (e : Event) → run language n outset (before ++ e ∷ []) ≡ happens language n (run language n outset before) e
  one_event before e = run_append language n before (e ∷ []) outset

  onward_from : (before : List Event) (e : Event) → Sends before → Onward (logged before) (logged (before ++ e ∷ [])) (run language n outset before) (happens language n (run language n outset before) e) e
  onward_from before e S = onward (logged before) (logged (before ++ e ∷ [])) language n (run language n outset before) (λ k x l i d r p q. logged_now before k x l i d p) S e

  one_more : (before : List Event) (e : Event) → Sends before → Sends (before ++ e ∷ [])
  one_more before e S = subst (λ v. AllHeld (logged (before ++ e ∷ [])) v.sent) (sym (one_event before e))
      ((onward_from before e S).sent
      (λ k y l i d p r. logged_now (before ++ e ∷ []) k y (subst (λ v. nth v.nodes k ≡ Some y) (sym (one_event before e)) l) i d p)
      (all_weaker (logged before) (logged (before ++ e ∷ [])) (λ i d r q h. logged_later before (e ∷ []) i d h) (run language n outset before).sent S))

  all_events : (es before : List Event) → Sends before → Sends (before ++ es)
  all_events [] before S = subst Sends (sym (append-nil before)) S
  all_events (e ∷ es) before S = subst Sends (append_assoc before (e ∷ []) es) (all_events es (before ++ e ∷ []) (one_more before e S))

  sends : (events : List Event) → Sends events
  sends events = all_events events [] (subst (AllHeld (logged [])) (sym E.sent) none)

  -- ---- what stood in a log was brought

  module _ (D : List Entry → Type 0) (decide : Decides D) (nothing : D [] → ⊥) where
    -- the first moment of a log of which this is so
    first_of : (events : List Event) (m : ℕ) (x : Node) → WasAt language n outset events m x → D x.log → First language n D outset events
    first_of events m x W d =
        let F = first language n D decide W.early outset (λ V. nothing (subst D (E.nodes V.member V.node V.at) V.stands)) (record { member = m; node = x; at = W.at; stands = d }) in
        record { early = F.early; event = F.event; late = F.late ++ W.late; moment = sym (append_assoc F.early (F.event ∷ F.late) W.late) ∙ ap (λ z. z ++ W.late) F.moment ∙ W.moment; never = F.never; now = F.now }

    never_at : (events : List Event) (F : First language n D outset events) (m : ℕ) (x : Node) → WasAt language n outset F.early m x → D x.log → ⊥
    never_at events F m x W d = F.never W.early W.late W.moment (record { member = m; node = x; at = W.at; stands = d })

    -- what stands there stood there before, or was brought
    grown : (events : List Event) (F : First language n D outset events) → Grown (logged F.early) (λ r. Brings r F.now.member F.event) F.now.node.log
    grown events F = (onward_from F.early F.event (sends F.early)).node F.now.member F.now.node (subst (λ z. nth z.nodes F.now.member ≡ Some F.now.node) (one_event F.early F.event) F.now.at)

  pub was_brought : (events : List Event) (m : ℕ) (x : Node) (r : Request) → WasAt language n outset events m x → HasRequest x.log r → WasBrought language n outset events r
  was_brought events m x r W H =
      let F = first_of (λ L. HasRequest L r) (has_or_not r) (has_none r) events m x W H in
      let never = never_at (λ L. HasRequest L r) (has_or_not r) (has_none r) events F in
      let S = F.now.stands in
      record {
        early = F.early;
        late = F.late;
        event = F.event;
        moment = F.moment;
        member = F.now.member;
        brings = cases (grown (λ L. HasRequest L r) (has_or_not r) (has_none r) events F S.index S.entry r S.at S.asks)
            (λ M. absurd (never M.member M.node M.was (record { index = S.index; entry = S.entry; at = M.stands; asks = S.asks })))
            (λ b. b.0);
        nowhere = never;
        node = F.now.node;
        at = F.now.at;
        stands = S;
      }

  at_none : (i : ℕ) (e : Entry) → nth [] i ≡ Some e → ⊥
  at_none i e p = let w = nth_within [] i e p in omega (arith, w.0, w.1)

  pub was_made : (events : List Event) (m : ℕ) (x : Node) (i : ℕ) (e : Entry) (r : Request) → WasAt language n outset events m x → nth x.log i ≡ Some e → e.request ≡ Some r → WasMade language n outset events i e r
  was_made events m x i e r W p q =
      let F = first_of (λ L. nth L i ≡ Some e) (at_or_not i e) (at_none i e) events m x W p in
      let never = never_at (λ L. nth L i ≡ Some e) (at_or_not i e) (at_none i e) events F in
      let made : Brings r F.now.member F.event × (length F.now.node.log ≡ i) =
      cases (grown (λ L. nth L i ≡ Some e) (at_or_not i e) (at_none i e) events F i e r F.now.stands q) (λ M. absurd (never M.member M.node M.was M.stands)) (λ b. b) in
      record {
        early = F.early;
        late = F.late;
        event = F.event;
        moment = F.moment;
        member = F.now.member;
        brings = made.0;
        nowhere = never;
        node = F.now.node;
        at = F.now.at;
        last = made.1;
        stands = F.now.stands;
      }

  -- ---- what is decided stood in logs

  module _ (i : ℕ) (e : Entry) (Q : Type 0) where
    longest_from : (xs : List Node) (best : List Entry) → (nth best i ≡ Some e → Q) → ((k : ℕ) (x : Node) → slice_get xs k ≡ Some x → nth x.log i ≡ Some e → Q) → nth (longest best xs) i ≡ Some e → Q
    longest_from [] best b h p = b p
    longest_from (x ∷ xs) best b h p = longest_from xs (longer best (applied x))
        (cond_both (nat_lt (length best) (length (applied x))) (applied x) best (λ z. nth z i ≡ Some e → Q) (λ c q. h 0 x refl (nth_take x.commit x.log i e q)) (λ c. b))
        (λ k y l. h (suc k) y l) p

    decided_in : (es : List Event) (w : World) (best : List Entry) → (nth best i ≡ Some e → Q) → ((mid rest : List Event) (m : ℕ) (x : Node) → mid ++ rest ≡ es → nth (run language n w mid).nodes m ≡ Some x → nth x.log i ≡ Some e → Q)
        → nth (decided_from language n best w es) i ≡ Some e → Q
    decided_in [] w best b h p = longest_from w.nodes best b (λ k x l. h [] [] (suc k) x refl l) p
    decided_in (v ∷ es) w best b h p = decided_in es (happens language n w v) (longest best w.nodes)
        (longest_from w.nodes best b (λ k x l. h [] (v ∷ es) (suc k) x refl l))
        (λ mid rest m x s l. h (v ∷ mid) rest m x (ap (λ z. v ∷ z) s) l) p

  decided_logged : (events : List Event) (i : ℕ) (e : Entry) → nth (decided language n outset events) i ≡ Some e → Logged language n outset events i e
  decided_logged events i e p = decided_in i e (Logged language n outset events i e) events outset [] (λ q. absurd (at_none i e q))
      (λ mid rest m x s l q. record { member = m; node = x; was = record { early = mid; late = rest; moment = s; at = l }; stands = q }) p

  pub logged_brought : (events : List Event) (i : ℕ) (e : Entry) (r : Request) → Logged language n outset events i e → e.request ≡ Some r → WasBrought language n outset events r
  logged_brought events i e r L q = was_brought events L.member L.node r L.was (record { index = i; entry = e; at = L.stands; asks = q })

  pub nothing_invented : NothingInvented language n outset
  nothing_invented events r H = logged_brought events H.index H.entry r (decided_logged events H.index H.entry H.at) H.asks

  pub no_log_invented : NoLogInvented language n outset
  no_log_invented events m x r l H = logged_brought events H.index H.entry r (logged_now events m x l H.index H.entry H.at) H.asks

  pub nothing_sent_invented : NothingSentInvented language n outset
  nothing_sent_invented events k p r l H =
      logged_brought events (prev_of p.body + H.index) H.entry r ((all_nth (logged events) (run language n outset events).sent k p (sends events) l).carried H.index H.entry r H.at H.asks) H.asks

  pub each_was_made : EachWasMade language n outset
  each_was_made events i e r p q = let L = decided_logged events i e p in was_made events L.member L.node i e r L.was L.stands q

  -- ---- one event makes one entry

  same_split : (xs ys more rest : List Event) (a b : Event) → xs ++ a ∷ more ≡ ys ++ b ∷ rest → length xs ≡ length ys → (xs ≡ ys) × (a ≡ b)
  same_split [] [] more rest a b p l = (refl, (cc))
  same_split [] (y ∷ ys) more rest a b p l = absurd (omega (arith, l))
  same_split (x ∷ xs) [] more rest a b p l = absurd (omega (arith, l))
  same_split (x ∷ xs) (y ∷ ys) more rest a b p l =
      let h : x ≡ y = (cc) in
      let t : xs ++ a ∷ more ≡ ys ++ b ∷ rest = (cc) in
      let r = same_split xs ys more rest a b t (omega (arith, l)) in
      let u : xs ≡ ys = r.0 in ((cc), r.1)

  to_one : (r s : Request) (m k : ℕ) (a b : Event) → Brings r m a → Brings s k b → a ≡ b → m ≡ k
  to_one r s m k _ _ (Whole t) (Whole u) p = cc
  to_one r s m k _ _ (Whole t) (CutShort u) p = absurd (cc)
  to_one r s m k _ _ (CutShort t) (Whole u) p = absurd (cc)
  to_one r s m k _ _ (CutShort t) (CutShort u) p = cc

  pub none_made_two : NoneMadeTwo language n outset
  none_made_two events i j d e r s M N l =
      let S = same_split M.early N.early M.late N.late M.event N.event (M.moment ∙ sym N.moment) l in
      let who = to_one r s M.member N.member M.event N.event M.brings N.brings S.1 in
      let when : M.early ++ M.event ∷ [] ≡ N.early ++ N.event ∷ [] = ap (λ z. z ++ M.event ∷ []) S.0 ∙ ap (λ v. N.early ++ v ∷ []) S.1 in
      let at : nth (run language n outset (N.early ++ N.event ∷ [])).nodes N.member ≡ Some M.node = subst (λ z. nth (run language n outset z).nodes N.member ≡ Some M.node) when (subst (λ k. nth (run language n outset (M.early ++ M.event ∷ [])).nodes k ≡ Some M.node) who M.at) in
      let same : M.node ≡ N.node = same_some (nth (run language n outset (N.early ++ N.event ∷ [])).nodes N.member) M.node N.node at N.at in
      sym M.last ∙ ap (λ (x : Node). length x.log) same ∙ N.last

-- ---- the outsets

pub new_empty : (n : ℕ) → Empty (new_world n)
new_empty n = record { nodes = λ m. get_replicate (λ (x : Node). x.log ≡ []) n (fresh 0 None) refl m; sent = refl }

led_node : (more m : ℕ) (x : Node) → nth (led_nodes (suc more)) m ≡ Some x → x.log ≡ []
led_node more zero x e = absurd (none_some (nth (led_nodes (suc more)) 0) x refl e)
led_node more (suc zero) x e = let q : first_leader more ≡ x = (cc) in subst (λ (v : Node). v.log ≡ []) q refl
led_node more (suc (suc m)) x e = found_replicate (λ (v : Node). v.log ≡ []) more (fresh 1 (Some 1)) refl m x e

no_node : {A : Type 0} (m : ℕ) (x : Node) → nth [] m ≡ Some x → A
no_node zero x e = absurd (none_some (nth {A = Node} [] 0) x refl e)
no_node (suc m) x e = absurd (none_some (nth {A = Node} [] (suc m)) x refl e)

pub led_empty : (n : ℕ) → Empty (led_world n)
led_empty zero = record { nodes = λ m x e. no_node m x e; sent = refl }
led_empty (suc more) = record { nodes = led_node more; sent = refl }
