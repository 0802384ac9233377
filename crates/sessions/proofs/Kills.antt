-- One kill: what is lost stored nothing, and the file says what the databases hold.
use Rattle.std.proofs.Common.{◌≡◌, ℕ, zero, suc, ◌≤◌, ◌&&◌, Bool, true, false, Option, Some, None, List, [], ◌∷◌, ◌++◌, length, refl, sym, ap, ◌∙◌, subst, arith, append-nil, eqb-true, cond}
use Rattle.std.specs.Prelude.{◌==◌}
use Rattle.std.proofs.lemmas.Bool.{cases_Bool, cond_both, eqb-false}
use Rattle.std.specs.Option.{option_map_or}
use Rattle.model.specs.Lists.{nth, with_nth}
use Rattle.model.specs.Transactions.{Language}
use Rattle.model.specs.declared.message.Message.{Message}
use Rattle.model.specs.declared.event.Job.{Job}
use Rattle.model.specs.declared.event.Job.TheVariants.{Local, Delivery}
use Rattle.model.specs.declared.event.Left.{Left}
use Rattle.model.specs.declared.event.Left.TheVariants.{New}
use Rattle.model.specs.Members.{Node}
use Rattle.model.specs.Steps.{Effect, Moves, Refuses, Nothing}
use Rattle.model.specs.Worlds.{World, Event, Hand, Deliver, Stop, Start, Torn, Ask, effect, with_node, stopped, started, done, node_left, does, is_for, happens, run, stops, tears, delivers}
use Rattle.onelist.specs.Explained.{Stops}
use Rattle.safety.proofs.Lists.{if_there, cases, none_some, same_some, get_with}
use Rattle.safety.proofs.Given.{nth_same}
use Rattle.safety.proofs.Moments.{nth_other}
use Rattle.safety.proofs.Runs.{run_append}
use Rattle.onelist.proofs.Upkeep.{onward}
use Rattle.sessions.specs.Kills.{durable, StoreNothing, stop_all, Moment, Between, Saving, Saved, whole, Steps, Leaves, read_end, AreStopped, LostIsNothing, FileIsRight}
use Rattle.sessions.proofs.Lists.{with_map, with_same, nth_map, with_as_good, with_length, nth_short, map_same}

-- ---- who is down is as a stop leaves it

module _ (language : Language) (n : ℕ) (w : World) where
  -- the member m, which was up, is up afterwards
  abbrev StaysUp : ℕ → World → Type 0
  StaysUp m v = (x : Node) → nth w.nodes m ≡ Some x → x.up ≡ true → (y : Node) × (nth v.nodes m ≡ Some y) × (y.up ≡ true)

  abbrev Fine : World → Type 0
  Fine v = (AreStopped w → AreStopped v) × (length v.nodes ≡ length w.nodes)

  fine_same : Fine w
  fine_same = (λ h. h, refl)

  fine_with : (m : ℕ) (z : Node) (sent : List Message) → (z.up ≡ false → stopped z ≡ z) → Fine (with_node w m z sent)
  fine_with m z sent h = (λ A. get_with (λ k y. y.up ≡ false → stopped y ≡ y) w.nodes m z h (λ k y ne q. A k y q), with_length w.nodes m z)

  true_false : (b : Bool) → b ≡ true → b ≡ false → ⊥
  true_false true p q = absurd (cc)
  true_false false p q = absurd (cc)

  fine_done : (m : ℕ) (x : Node) (o : Effect) → nth w.nodes m ≡ Some x → x.up ≡ true → StaysUp m (done w m o) → Fine (done w m o)
  fine_done m x Nothing l u s = fine_same
  fine_done m x (Refuses refusal) l u s = fine_same
  fine_done m x (Moves a) l u s =
      let y = s x l u in
      let q : a.node ≡ y.0 = same_some (nth (with_nth w.nodes m a.node) m) a.node y.0 (nth_same w.nodes m x a.node l) y.1 in
      fine_with m a.node a.sent (λ d. absurd (true_false a.node.up (ap (λ z. z.up) q ∙ y.2) d))

  fine_does : (m : ℕ) (j : Job) → StaysUp m (does language n w m j (nth w.nodes m)) → Fine (does language n w m j (nth w.nodes m))
  fine_does m j = if_there (nth w.nodes m) _ w (λ v. StaysUp m v → Fine v)
      (λ x l. cond_both x.up _ w (λ v. StaysUp m v → Fine v) (λ p. fine_done m x (effect language n w m j x) l p) (λ p s. fine_same)) (λ s. fine_same)

  stays : (e : Event) (m : ℕ) → (Stops m e → ⊥) → StaysUp m (happens language n w e)
  stays e m h x l u = (onward language n w e).up m x l u h

  pub fine : (e : Event) → Fine (happens language n w e)
  fine (Hand m i) = fine_does m (Local i) (stays (Hand m i) m (λ s. elim s [ ]))
  fine (Deliver k reading) = if_there (nth w.sent k) _ w (λ v. ((m : ℕ) → StaysUp m v) → Fine v) (λ p e s. fine_does p.addressee (Delivery k reading) (s p.addressee)) (λ s. fine_same) (λ m. stays (Deliver k reading) m (λ s. elim s [ ]))
  fine (Stop m) = if_there (nth w.nodes m) _ w Fine (λ x l. cond_both x.up _ w Fine (λ p. fine_with m (stopped x) [] (λ d. refl)) (λ p. fine_same)) fine_same
  fine (Start m) = if_there (nth w.nodes m) _ w Fine (λ x l. cond_both x.up w _ Fine (λ p. fine_same) (λ p. fine_with m (started x) [] (λ d. absurd (cc)))) fine_same
  fine (Torn m j left) = if_there (nth w.nodes m) _ w Fine (λ x l. cond_both (x.up && is_for w m j) _ w Fine
      (λ p. fine_with m (stopped (node_left left x (effect language n w m j x))) [] (λ d. refl)) (λ p. fine_same)) fine_same
  fine (Ask m q) = fine_same

pub run_stopped : (language : Language) (n : ℕ) (es : List Event) (w : World) → AreStopped w → AreStopped (run language n w es)
run_stopped language n [] w A = A
run_stopped language n (e ∷ es) w A = run_stopped language n es (happens language n w e) ((fine language n w e).0 A)

pub run_length : (language : Language) (n : ℕ) (es : List Event) (w : World) → length (run language n w es).nodes ≡ length w.nodes
run_length language n [] w = refl
run_length language n (e ∷ es) w = run_length language n es (happens language n w e) ∙ (fine language n w e).1

-- ---- a stop of all

module _ (language : Language) (n : ℕ) where
  -- a stop stores nothing, sends nothing, and leaves who is down
  record Halts (m : ℕ) (w v : World) : Type 0 where
    pub keeps : durable v ≡ durable w
    pub sent : v.sent ≡ w.sent
    pub down : (k : ℕ) (y : Node) → nth v.nodes k ≡ Some y → ((x : Node) → nth w.nodes k ≡ Some x → x.up ≡ false) → y.up ≡ false
    pub this : (y : Node) → nth v.nodes m ≡ Some y → y.up ≡ false

  halts : (w : World) (m : ℕ) → Halts m w (happens language n w (Stop m))
  halts w m = go (nth w.nodes m) refl
    where
      leaves : (x : Node) → nth w.nodes m ≡ Some x → (b : Bool) → x.up ≡ b → Halts m w (cond b (with_node w m (stopped x) []) w)
      leaves x l true u = record {
        keeps = with_as_good stopped w.nodes m x (stopped x) l refl;
        sent = append-nil w.sent;
        down = λ k y q h. cases (cases_Bool (k == m))
            (λ p. let e : stopped x ≡ y = same_some (nth (with_nth w.nodes m (stopped x)) m) (stopped x) y (nth_same w.nodes m x (stopped x) l) (subst (λ i. nth (with_nth w.nodes m (stopped x)) i ≡ Some y) (eqb-true k m p) q) in sym (ap (λ z. z.up) e))
            (λ p. h y (sym (nth_other w.nodes m (stopped x) k (eqb-false k m p)) ∙ q));
        this = λ y q. let e : stopped x ≡ y = same_some (nth (with_nth w.nodes m (stopped x)) m) (stopped x) y (nth_same w.nodes m x (stopped x) l) q in sym (ap (λ z. z.up) e);
      }
      leaves x l false u = record { keeps = refl; sent = refl; down = λ k y q h. h y q; this = λ y q. ap (λ z. z.up) (same_some (nth w.nodes m) y x q l) ∙ u }

      go : (o : Option Node) → nth w.nodes m ≡ o → Halts m w (stops w m o)
      go None l = record { keeps = refl; sent = refl; down = λ k y q h. h y q; this = λ y q. absurd (none_some (nth w.nodes m) y l q) }
      go (Some x) l = leaves x l x.up refl

  pub halt_keeps : (k : ℕ) (w : World) → durable (run language n w (stop_all k)) ≡ durable w
  halt_keeps zero w = refl
  halt_keeps (suc k) w = halt_keeps k (happens language n w (Stop (suc k))) ∙ (halts w (suc k)).keeps

  pub halt_sent : (k : ℕ) (w : World) → (run language n w (stop_all k)).sent ≡ w.sent
  halt_sent zero w = refl
  halt_sent (suc k) w = halt_sent k (happens language n w (Stop (suc k))) ∙ (halts w (suc k)).sent

  -- who was down stays so
  halt_down : (k : ℕ) (w : World) (m : ℕ) (y : Node) → nth (run language n w (stop_all k)).nodes m ≡ Some y → ((x : Node) → nth w.nodes m ≡ Some x → x.up ≡ false) → y.up ≡ false
  halt_down zero w m y q h = h y q
  halt_down (suc k) w m y q h = halt_down k (happens language n w (Stop (suc k))) m y q (λ x l. (halts w (suc k)).down m x l h)

  halt_all : (k : ℕ) (w : World) (m : ℕ) (y : Node) → nth (run language n w (stop_all k)).nodes m ≡ Some y → m ≤ k → y.up ≡ false
  halt_all zero w m y q l = absurd (none_some (nth w.nodes 0) y refl (subst (λ i. nth w.nodes i ≡ Some y) (let e : m ≡ 0 = omega arith in e) q))
  halt_all (suc k) w m y q l = cases (cases_Bool (m == suc k))
      (λ p. halt_down k (happens language n w (Stop (suc k))) m y q (λ x h. (halts w (suc k)).this x (subst (λ i. nth (happens language n w (Stop (suc k))).nodes i ≡ Some x) (eqb-true m (suc k) p) h)))
      (λ p. let ne : m ≡ suc k → ⊥ = eqb-false m (suc k) p in halt_all k (happens language n w (Stop (suc k))) m y q (omega (arith, ne, l)))

  -- after a stop of all, each member is what its database holds
  pub halted : (w : World) → AreStopped w → length w.nodes ≡ n → (run language n w (stop_all n)).nodes ≡ durable w
  halted w A s =
      let v = run language n w (stop_all n) in
      let same : durable v ≡ v.nodes = map_same stopped v.nodes (λ i x q. run_stopped language n (stop_all n) w A (suc i) x q
      (halt_all n w (suc i) x q (let h = nth_short v.nodes (suc i) x q in let l = run_length language n (stop_all n) w in omega arith))) in
      sym same ∙ halt_keeps n w

-- ---- what is lost

pub lost_keeps : (language : Language) (n : ℕ) (es : List Event) (w : World) → StoreNothing language n w es → durable (run language n w es) ≡ durable w
lost_keeps language n [] w h = refl
lost_keeps language n (e ∷ es) w (p, h) = lost_keeps language n es (happens language n w e) h ∙ p

module _ (language : Language) (n : ℕ) (outset : World) (A : AreStopped outset) (L : length outset.nodes ≡ n) where
  -- a stop of all after these events
  pub halted_after : (es : List Event) → (run language n outset (es ++ stop_all n)).nodes ≡ durable (run language n outset es)
  halted_after es = ap (λ v. v.nodes) (run_append language n es (stop_all n) outset) ∙
      halted language n (run language n outset es) (run_stopped language n es outset A) (run_length language n es outset ∙ L)

  pub lost_is_nothing : LostIsNothing language n outset
  lost_is_nothing filed lost h =
      halted_after (filed ++ lost) ∙
      ap durable (run_append language n filed lost outset) ∙ lost_keeps language n lost (run language n outset filed) h ∙ sym (halted_after filed)

-- ---- a step that is cut short

module _ (language : Language) (n : ℕ) (w : World) (m : ℕ) (job : Job) (S : Steps w m job) where
  torn : (left : Left) → happens language n w (Torn m job left) ≡ with_node w m (stopped (node_left left S.node (effect language n w m job S.node))) []
  torn left = ap (tears language n w m job left) S.at ∙ ap (λ b. cond (b && is_for w m job) (with_node w m (stopped (node_left left S.node (effect language n w m job S.node))) []) w) S.up ∙
      ap (λ b. cond b (with_node w m (stopped (node_left left S.node (effect language n w m job S.node))) []) w) S.for

  pub torn_holds : (left : Left) → durable (happens language n w (Torn m job left)) ≡ with_nth (durable w) m (stopped (node_left left S.node (effect language n w m job S.node)))
  torn_holds left = ap durable (torn left) ∙ with_map stopped w.nodes m (stopped (node_left left S.node (effect language n w m job S.node)))

  does_it : does language n w m job (nth w.nodes m) ≡ done w m (effect language n w m job S.node)
  does_it = ap (does language n w m job) S.at ∙ ap (λ b. cond b (done w m (effect language n w m job S.node)) w) S.up

  done_holds : (o : Effect) → durable (done w m o) ≡ with_nth (durable w) m (stopped (node_left New S.node o))
  done_holds Nothing = sym (with_same (durable w) m (stopped S.node) (nth_map stopped w.nodes m S.node S.at))
  done_holds (Refuses refusal) = sym (with_same (durable w) m (stopped S.node) (nth_map stopped w.nodes m S.node S.at))
  done_holds (Moves a) = with_map stopped w.nodes m a.node

whole_does : (language : Language) (n : ℕ) (w : World) (m : ℕ) (job : Job) → is_for w m job ≡ true → happens language n w (whole m job) ≡ does language n w m job (nth w.nodes m)
whole_does language n w m (Local input) f = refl
whole_does language n w m (Delivery k reading) f = go (nth w.sent k) f
  where
    go : (o : Option Message) → option_map_or (λ (p : Message). p.addressee == m) o false ≡ true → delivers language n w (Delivery k reading) o ≡ does language n w m (Delivery k reading) (nth w.nodes m)
    go None g = absurd (cc)
    go (Some p) g = ap (λ i. does language n w i (Delivery k reading) (nth w.nodes i)) (eqb-true p.addressee m g)

-- what is held once a whole step is over
pub whole_saved : (language : Language) (n : ℕ) (w : World) (m : ℕ) (job : Job) (S : Steps w m job) → durable (happens language n w (whole m job)) ≡ with_nth (durable w) m (stopped (node_left New S.node (effect language n w m job S.node)))
whole_saved language n w m job S = ap durable (whole_does language n w m job S.for ∙ does_it language n w m job S) ∙ done_holds language n w m job S (effect language n w m job S.node)

-- a whole step stores what it leaves when it is cut short after its save
pub whole_holds : (language : Language) (n : ℕ) (w : World) (m : ℕ) (job : Job) → Steps w m job → durable (happens language n w (whole m job)) ≡ durable (happens language n w (Torn m job New))
whole_holds language n w m job S = whole_saved language n w m job S ∙ sym (torn_holds language n w m job S New)

pub end_is_right : (language : Language) (n : ℕ) (w : World) (moment : Moment) (left : List Node) → Leaves language n w moment left → left ≡ durable (run language n w (read_end moment))
end_is_right language n w (Between lost) left (h, q) = q ∙ lost_keeps language n lost w h
end_is_right language n w (Saving m job part) left (S, q) = q ∙ sym (torn_holds language n w m job S part)
end_is_right language n w (Saved m job lost) left (S, h, q) = q ∙ lost_keeps language n lost (happens language n w (whole m job)) h ∙ whole_holds language n w m job S

pub file_is_right : (language : Language) (n : ℕ) (outset : World) → AreStopped outset → length outset.nodes ≡ n → FileIsRight language n outset
file_is_right language n outset A L filed moment left h =
    let p : left ≡ durable (run language n outset (filed ++ read_end moment)) = end_is_right language n (run language n outset filed) moment left h ∙ ap durable (sym (run_append language n filed (read_end moment) outset)) in
    (p, p ∙ sym (halted_after language n outset A L (filed ++ read_end moment)))
