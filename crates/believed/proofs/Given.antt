-- What a run gave is explained.
use Rattle.std.proofs.Common.{◌≡◌, ℕ, zero, suc, ◌<◌, ◌≤◌, Bool, true, false, Option, Some, None, List, [], ◌∷◌, ◌++◌, take, drop, length, slice_get, refl, sym, ap, ◌∙◌, subst, inl, inr, arith, take-append-drop, length-set}
use Rattle.std.specs.Prelude.{option_map, ◌&&◌}
use Rattle.std.proofs.lemmas.Bool.{cond_both}
use Rattle.model.specs.Lists.{nth, with_nth, IsBeginning}
use Rattle.model.specs.Texts.{instant_text}
use Rattle.fault.specs.declared.refusal.Refusal.{Refusal}
use Rattle.fault.specs.declared.refusal.Refusal.TheVariants.{NotClosed, NodeDown}
use Rattle.model.specs.Transactions.{Language}
use Rattle.model.specs.declared.entry.Entry.{Entry}
use Rattle.model.specs.Answers.{Query, Select, closed_query}
use Rattle.model.specs.Members.{Node, closed_time}
use Rattle.model.specs.Steps.{Effect, Moves, Refuses, Nothing}
use Rattle.model.specs.declared.event.Job.{Job}
use Rattle.model.specs.declared.event.Job.TheVariants.{Local, Delivery}
use Rattle.model.specs.declared.message.Message.{Message}
use Rattle.model.specs.Worlds.{World, Event, Hand, Deliver, Stop, Start, Torn, Ask, Output, done, does, delivers, effect, is_for, happens, run, GivesAll, IsGivenIn, IsGivenBy, IsGivenAt}
use Rattle.model.specs.Worlds.Output.{Refused}
use Rattle.safety.proofs.Lists.{if_there, none_some}
use Rattle.onelist.specs.Explained as before
use Rattle.believed.specs.Explained.{Replies, Explains, IsInOrder, Explanation}
use Rattle.believed.proofs.ExplainedSame.{explains_now, order_now}
use Rattle.believed.proofs.Turns.{gave_after}

-- ---- what the first events gave

module _ (language : Language) (n : ℕ) where
  gives_first : (events : List Event) (w : World) (outs : List (List Output)) (k : ℕ) → GivesAll language n w events outs → GivesAll language n w (take k events) (take k outs)
  gives_first events w outs zero g = refl
  gives_first [] w outs (suc k) g = ap (take (suc k)) g
  gives_first (e ∷ es) w outs (suc k) (out, rest, p, g, more) = (out, take k rest, ap (take (suc k)) p, g, gives_first es (happens language n w e) rest k more)

  gives_each : (events : List Event) (w : World) (outs : List (List Output)) → GivesAll language n w events outs → length outs ≡ length events
  gives_each [] w outs g = ap length g
  gives_each (e ∷ es) w outs (out, rest, p, g, more) = ap length p ∙ ap suc (gives_each es (happens language n w e) rest more)

-- ---- all members stay

module _ (language : Language) (n : ℕ) (w : World) where
  abbrev Counts : World → Type 0
  Counts v = length v.nodes ≡ length w.nodes

  set_counts : (m : ℕ) (x : Node) → length (with_nth w.nodes m x) ≡ length w.nodes
  set_counts zero x = refl
  set_counts (suc m) x = length-set w.nodes m x

  done_counts : (m : ℕ) (o : Effect) → Counts (done w m o)
  done_counts m (Moves a) = set_counts m a.node
  done_counts m (Refuses r) = refl
  done_counts m Nothing = refl

  does_counts : (m : ℕ) (j : Job) (o : Option Node) → Counts (does language n w m j o)
  does_counts m j None = refl
  does_counts m j (Some x) = cond_both x.up (done w m (effect language n w m j x)) w Counts (λ p. done_counts m _) (λ p. refl)

  delivers_counts : (j : Job) (o : Option Message) → Counts (delivers language n w j o)
  delivers_counts j None = refl
  delivers_counts j (Some p) = does_counts p.addressee j (nth w.nodes p.addressee)

  happens_counts : (e : Event) → Counts (happens language n w e)
  happens_counts (Hand m input) = does_counts m (Local input) (nth w.nodes m)
  happens_counts (Deliver k reading) = delivers_counts (Delivery k reading) (nth w.sent k)
  happens_counts (Stop m) = if_there (nth w.nodes m) _ w Counts (λ x l. cond_both x.up _ w Counts (λ p. set_counts m _) (λ p. refl)) refl
  happens_counts (Start m) = if_there (nth w.nodes m) _ w Counts (λ x l. cond_both x.up w _ Counts (λ p. refl) (λ p. set_counts m _)) refl
  happens_counts (Torn m j left) = if_there (nth w.nodes m) _ w Counts (λ x l. cond_both (x.up && is_for w m j) _ w Counts (λ p. set_counts m _) (λ p. refl)) refl
  happens_counts (Ask m q) = refl

run_counts : (language : Language) (n : ℕ) (events : List Event) (w : World) → length (run language n w events).nodes ≡ length w.nodes
run_counts language n [] w = refl
run_counts language n (e ∷ es) w = run_counts language n es (happens language n w e) ∙ happens_counts language n w e

-- ---- questions

found_within : {A : Type 0} (xs : List A) (i : ℕ) → slice_get xs i ≡ None → i < length xs → ⊥
found_within [] i e l = omega (arith, l)
found_within (x ∷ xs) zero e l = none_some (Some x) x e refl
found_within (x ∷ xs) (suc i) e l = found_within xs i e (omega (arith, l))

not_there : {A : Type 0} (xs : List A) (m : ℕ) → nth xs m ≡ None → 1 ≤ m → m ≤ length xs → ⊥
not_there xs zero e a b = omega (arith, a)
not_there xs (suc m) e a b = found_within xs m e (omega (arith, b))

module _ (language : Language) (outs : List (List Output)) (k m : ℕ) (out : List Output) (here : nth outs k ≡ Some out) where
  refused : (why : Refusal) → out ≡ Refused m why ∷ [] → Replies outs k m
  refused why is = inr (why, here ∙ ap Some is)

  replied_in : (q : Select) (x : Node) (o : Option Query) → IsGivenIn language m x o out → Replies outs k m
  replied_in q x None is = refused (NotClosed (option_map instant_text (closed_time x))) is
  replied_in q x (Some p) (a, i, is) = inl (a, here ∙ ap Some is)

  replied_by : (q : Select) (x : Node) (up : Bool) → IsGivenBy language m q x up out → Replies outs k m
  replied_by q x false is = refused NodeDown is
  replied_by q x true is = replied_in q x (closed_query q (closed_time x)) is

  replied_at : (q : Select) (o : Option Node) → (o ≡ None → ⊥) → IsGivenAt language m q o out → Replies outs k m
  replied_at q None some is = absurd (some refl)
  replied_at q (Some x) some is = replied_by q x x.up is

split_at : {A : Type 0} (xs : List A) (k : ℕ) (x : A) → slice_get xs k ≡ Some x → (early : List A) × (late : List A) × (early ++ x ∷ late ≡ xs) × (length early ≡ k)
split_at {A} [] k x e = absurd (none_some (slice_get {X = A} [] k) x refl e)
split_at (y ∷ ys) zero x e = let s : y ≡ x = (cc) in ([], ys, ap (λ z. z ∷ ys) (sym s), refl)
split_at (y ∷ ys) (suc k) x e = let S = split_at ys k x e in (y ∷ S.0, S.1, ap (λ z. y ∷ z) S.2, ap suc S.3)

module _ (language : Language) (n : ℕ) (events : List Event) (w : World) (members : length w.nodes ≡ n) (outs : List (List Output)) (G : GivesAll language n w events outs) where
  replied : (k m : ℕ) (q : Select) → nth events k ≡ Some (Ask m q) → 1 ≤ m → m ≤ n → Replies outs k m
  replied zero m q at a b = absurd (none_some (nth events 0) (Ask m q) refl at)
  replied (suc k) m q at a b =
      let S = split_at events k (Ask m q) at in
      let R = gave_after language n S.0 S.1 (Ask m q) w outs (subst (λ z. GivesAll language n w z outs) (sym S.2) G) in
      let v = run language n w S.0 in
      let here : nth outs (suc k) ≡ Some R.0 = subst (λ z. nth outs (suc z) ≡ Some R.0) S.3 R.1 in
      replied_at language outs (suc k) m R.0 here q (nth v.nodes m) (λ none. not_there v.nodes m none a (let c = run_counts language n S.0 w in omega (arith, b, c, members))) R.2

module _ (language : Language) (n : ℕ) (events : List Event) (w : World) (members : length w.nodes ≡ n) (outs : List (List Output)) (G : GivesAll language n w events outs) (X : before.IsExplained language n w events) where
  -- the list explains what the run gave
  by_list : (es : List Event) (os : List (List Output)) (list : List Entry) → before.IsExplainedBy language n w es list → GivesAll language n w es os → Explains language es os list × IsInOrder es os list
  by_list es os list x g = let y = x os g in (explains_now language es os list y.0, order_now language es os list y.0.told y.1)

  begun : (k : ℕ) → (start : List Entry) × Explains language (take k events) (take k outs) start × IsInOrder (take k events) (take k outs) start × IsBeginning start X.list
  begun k =
      let S = X.goes_on (take k events) (drop k events) (take-append-drop k events) in
      let y = by_list (take k events) (take k outs) S.0 S.1 (gives_first language n events w outs k G) in (S.0, y.0, y.1, S.2)

  pub given_explained : Explanation language n events outs
  given_explained =
      let y = by_list events outs X.list X.explains G in
      record { each = gives_each language n events w outs G; list = X.list; explains = y.0; order = y.1; goes_on = begun; replies = replied language n events w members outs G }
