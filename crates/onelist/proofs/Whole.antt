-- What a member has applied it has told of, since it was last stopped.
use Rattle.std.proofs.Common.{◌≡◌, ℕ, zero, suc, ◌+◌, ◌-◌, ◌<◌, ◌≤◌, ◌⊎◌, inl, inr, Bool, true, false, cond, ◌&&◌, Option, Some, None, option_map, List, [], ◌∷◌, ◌++◌, map, length, take, reverse, slice_get, refl, sym, ap, ◌∙◌, subst, arith, Contains, eqb-true, length-take}
use Rattle.std.specs.Prelude.{◌==◌}
use Rattle.std.specs.List.{filter_map, range_with_len, cons_option}
use Rattle.std.specs.Option.{option_and_then}
use Rattle.std.proofs.lemmas.Bool.{cases_Bool, cases_lt, cond_both, eqb-false}
use Rattle.std.proofs.lemmas.List.Elements.{Contains-append_right}
use Rattle.model.specs.Lists.{nth, with_nth, IsBeginning}
use Rattle.model.specs.Logs.{told_at, outcome, before_index}
use Rattle.fault.specs.declared.refusal.Refusal.TheVariants.{NodeDown}
use Rattle.model.specs.Transactions.{Language}
use Rattle.model.specs.declared.entry.Entry.{Entry}
use Rattle.model.specs.declared.entry.Request.{Request}
use Rattle.model.specs.declared.entry.Told.{Told}
use Rattle.model.specs.declared.message.Message.{Message}
use Rattle.model.specs.declared.event.Job.{Job}
use Rattle.model.specs.declared.event.Job.TheVariants.{Local, Delivery}
use Rattle.model.specs.Members.{Node, applied}
use Rattle.model.specs.Steps.{Effect, Moves, Refuses, Nothing}
use Rattle.model.specs.Worlds.{World, Event, Hand, Deliver, Stop, Start, Torn, Ask, Output, happens, run, done, does, delivers, is_for, with_node, stops, stopped, started, node_left, effect, Gives, GivesAll, numbered, tells, effect_gives, step_gives, delivery_gives}
use Rattle.model.specs.Worlds.Output.{Applied, Refused}
use Rattle.onelist.specs.Explained.{Gave}
use Rattle.onelist.proofs.Upkeep.{IsIdle, onward}
use Rattle.safety.proofs.Lists.{cases, if_there, none_some, same_some, SameTo, same_below, get_take, get_append}
use Rattle.safety.proofs.Given.{nth_same}
use Rattle.safety.proofs.Moments.{nth_other}
use Rattle.safety.proofs.Runs.{take_same}

-- ---- what is told of an index

abbrev pub told_of : Language → List Entry → ℕ → ℕ → Request → Told
told_of language list i t r = record { index = i; client = r.client; number = r.number; outcome = outcome language t r (before_index list i) }

pub told_there : (language : Language) (list : List Entry) (i : ℕ) (e : Entry) (r : Request) → nth list i ≡ Some e → e.request ≡ Some r → told_at language list i ≡ Some (told_of language list i e.stamp r)
told_there language list i e r p q = ap (λ o. option_and_then (λ (d : Entry). option_map (λ (s : Request). told_of language list i d.stamp s) d.request) o) p ∙ ap (λ o. option_map (λ (s : Request). told_of language list i e.stamp s) o) q

same_nth : (L M : List Entry) (i : ℕ) (e : Entry) → SameTo i L M → nth M i ≡ Some e → nth L i ≡ Some e
same_nth L M zero e s p = absurd (none_some (nth M 0) e refl p)
same_nth L M (suc i) e s p = s.at i (omega arith) ∙ p

-- the same of a list that is the same up to the index
pub told_alike : (language : Language) (L M : List Entry) (i : ℕ) (e : Entry) (r : Request) → SameTo i L M → nth M i ≡ Some e → e.request ≡ Some r → told_at language L i ≡ Some (told_of language M i e.stamp r)
told_alike language L M i e r s p q = told_there language L i e r (same_nth L M i e s p) q
    ∙ ap (λ z. Some (record { index = i; client = r.client; number = r.number; outcome = outcome language e.stamp r (reverse z) })) (take_same (i - 1) L M (same_below (i - 1) (omega arith) s))

pub applied_alike : (x : Node) (list : List Entry) → IsBeginning (applied x) list → x.commit ≤ length x.log → (i : ℕ) → i ≤ x.commit → SameTo i x.log list
applied_alike x list (rest, b) f i l = record {
  at = λ j h.
      sym (get_take x.commit x.log j (omega (arith, h, l))) ∙ sym (get_append (take x.commit x.log) rest j (omega (arith, h, l, f, length-take x.commit x.log))) ∙ ap (λ z. slice_get z j) b;
}

-- ---- one event

module _ (k : ℕ) (f : ℕ → Option Told) (told : Told) (i : ℕ) (is : f i ≡ Some told) where
  told_first : (o : Option Told) → o ≡ Some told → (rest : List Told) → Contains (map (Applied k) (cons_option o rest)) (Applied k told)
  told_first None e rest = absurd (none_some None told refl e)
  told_first (Some t) e rest = let s : told ≡ t = (cc) in (0, omega arith, ap (Applied k) (sym s))

  told_more : (o : Option Told) (rest : List Told) → Contains (map (Applied k) rest) (Applied k told) → Contains (map (Applied k) (cons_option o rest)) (Applied k told)
  told_more None rest h = h
  told_more (Some t) rest h = Contains-append_right (Applied k t ∷ []) (map (Applied k) rest) (Applied k told) h

  -- what is told of an index in the range is told
  in_range : (a c : ℕ) → a ≤ i → i < a + c → Contains (map (Applied k) (filter_map f (range_with_len a c))) (Applied k told)
  in_range a zero l h = absurd (omega (arith, l, h))
  in_range a (suc c) l h = cases (cases_lt a i)
      (λ u. told_more (f a) (filter_map f (range_with_len (a + 1) c)) (in_range (a + 1) c (omega (arith, u)) (omega (arith, h))))
      (λ u. let s : a ≡ i = omega (arith, u, l) in told_first (f a) (ap f s ∙ is) (filter_map f (range_with_len (a + 1) c)))

module _ (language : Language) (n : ℕ) (w : World) (m i : ℕ) (told : Told) (low : 0 < i) where
  -- the member had applied the entry at the index
  abbrev pub Had : Type 0
  Had = (x : Node) × (nth w.nodes m ≡ Some x) × (i ≤ x.commit)

  -- who has applied it then had applied it before, or tells of it
  abbrev pub TellsNow : World → List Output → Type 0
  TellsNow v out = (y : Node) → nth v.nodes m ≡ Some y → i ≤ y.commit → told_at language y.log i ≡ Some told → Had ⊎ Contains out (Applied m told)

  same : (out : List Output) → TellsNow w out
  same out y l c t = inl (y, l, c)

  -- one member is another
  moved : (k : ℕ) (x z : Node) (sent : List Message) (out : List Output) → nth w.nodes k ≡ Some x →
      (x.commit < i → i ≤ z.commit → told_at language z.log i ≡ Some told → Contains out (Applied k told)) → TellsNow (with_node w k z sent) out
  moved k x z sent out l tell y q c t = cases (cases_Bool (m == k))
      (λ p. let own : m ≡ k = eqb-true m k p in
      let here : nth (with_nth w.nodes k z) m ≡ Some z = subst (λ j. nth (with_nth w.nodes k z) j ≡ Some z) (sym own) (nth_same w.nodes k x z l) in
      let is : y ≡ z = same_some (nth (with_nth w.nodes k z) m) y z q here in
      cases (cases_lt x.commit i)
      (λ u. inr (subst (λ j. Contains out (Applied j told)) (sym own) (tell u (subst (λ (v : Node). i ≤ v.commit) is c) (subst (λ (v : Node). told_at language v.log i ≡ Some told) is t))))
      (λ u. inl (x, subst (λ j. nth w.nodes j ≡ Some x) (sym own) l, u)))
      (λ p. inl (y, sym (nth_other w.nodes k z m (eqb-false m k p)) ∙ q, c))

  -- one member has applied nothing
  idles : (k : ℕ) (x z : Node) (sent : List Message) (out : List Output) → nth w.nodes k ≡ Some x → z.commit ≡ 0 → TellsNow (with_node w k z sent) out
  idles k x z sent out l idle = moved k x z sent out l (λ u h t. absurd (omega (arith, low, h, idle)))

  by_effect : (k : ℕ) (x : Node) (o : Effect) → nth w.nodes k ≡ Some x → TellsNow (done w k o) (effect_gives language w k x o)
  by_effect k x Nothing l = same []
  by_effect k x (Refuses refusal) l = same (Refused k refusal ∷ [])
  by_effect k x (Moves a) l = moved k x a.node a.sent (effect_gives language w k x (Moves a)) l
      (λ u h t. Contains-append_right (numbered (length w.sent) a.sent) (tells language k x a.node) (Applied k told)
      (in_range k (told_at language a.node.log) told i t (x.commit + 1) (a.node.commit - x.commit) (omega (arith, u)) (omega (arith, u, h))))

  by_step : (k : ℕ) (j : Job) (o : Option Node) → nth w.nodes k ≡ o → TellsNow (does language n w k j o) (step_gives language n w k j o)
  by_step k j None l = same []
  by_step k j (Some x) l = up x.up
    where
      up : (b : Bool) → TellsNow (cond b (done w k (effect language n w k j x)) w) (cond b (effect_gives language w k x (effect language n w k j x)) (Refused k NodeDown ∷ []))
      up true = by_effect k x (effect language n w k j x) l
      up false = same (Refused k NodeDown ∷ [])

  by_delivery : (j : Job) (o : Option Message) → TellsNow (delivers language n w j o) (delivery_gives language n w j o)
  by_delivery j None = same []
  by_delivery j (Some p) = by_step p.addressee j (nth w.nodes p.addressee) refl

  pub tells_now : (e : Event) (out : List Output) → Gives language n w e out → TellsNow (happens language n w e) out
  tells_now (Hand k input) out g = subst (λ z. TellsNow (happens language n w (Hand k input)) z) (sym g) (by_step k (Local input) (nth w.nodes k) refl)
  tells_now (Deliver k reading) out g = subst (λ z. TellsNow (happens language n w (Deliver k reading)) z) (sym g) (by_delivery (Delivery k reading) (nth w.sent k))
  tells_now (Stop k) out g = if_there (nth w.nodes k) _ w (λ v. TellsNow v out) (λ x l. cond_both x.up _ w (λ v. TellsNow v out) (λ p. idles k x (stopped x) [] out l refl) (λ p. same out)) (same out)
  tells_now (Start k) out g = if_there (nth w.nodes k) _ w (λ v. TellsNow v out) (λ x l. cond_both x.up w _ (λ v. TellsNow v out) (λ p. same out) (λ p. idles k x (started x) [] out l refl)) (same out)
  tells_now (Torn k j left) out g = if_there (nth w.nodes k) _ w (λ v. TellsNow v out)
      (λ x l. cond_both (x.up && is_for w k j) _ w (λ v. TellsNow v out) (λ p. idles k x (stopped (node_left left x (effect language n w k j x))) [] out l refl) (λ p. same out)) (same out)
  tells_now (Ask k q) out g = same out

  -- who is stopped has applied nothing then
  stop_idles : IsIdle w → (y : Node) → nth (happens language n w (Stop m)).nodes m ≡ Some y → y.commit ≡ 0
  stop_idles I y l = go (nth w.nodes m) refl l
    where
      go : (o : Option Node) → nth w.nodes m ≡ o → nth (stops w m o).nodes m ≡ Some y → y.commit ≡ 0
      go None e q = absurd (none_some (nth w.nodes m) y e q)
      go (Some x) e q = by x.up refl q
        where
          by : (b : Bool) → x.up ≡ b → nth (cond b (with_node w m (stopped x) []) w).nodes m ≡ Some y → y.commit ≡ 0
          by true u h = ap (λ (v : Node). v.commit) (same_some (nth (with_nth w.nodes m (stopped x)) m) y (stopped x) h (nth_same w.nodes m x (stopped x) e))
          by false u h = I m y h (ap (λ (v : Node). v.up) (same_some (nth w.nodes m) y x h e) ∙ u)

-- ---- a run

module _ (language : Language) (n m i : ℕ) (told : Told) (low : 0 < i) where
  -- no `Stop` of the member comes after the j-th of the events, up to the k-th
  abbrev pub Unstopped : List Event → ℕ → ℕ → Type 0
  Unstopped events j k = (s : ℕ) → j < s → s ≤ k → nth events s ≡ Some (Stop m) → ⊥

  -- at each moment of these events, who has applied the entry has this to tell of it
  abbrev pub IsToTell : World → List Event → Type 0
  IsToTell w events = (mid rest : List Event) (y : Node) → mid ++ rest ≡ events → nth (run language n w mid).nodes m ≡ Some y → i ≤ y.commit → told_at language y.log i ≡ Some told

  -- it told so at one of the first k of these events
  abbrev pub ToldIn : List Event → List (List Output) → ℕ → Type 0
  ToldIn events outs k = (j : ℕ) × (j ≤ k) × Gave outs j (Applied m told) × Unstopped events j k

  one_later : (e : Event) (es : List Event) (j k : ℕ) → Unstopped es j k → Unstopped (e ∷ es) (suc j) (suc k)
  one_later e es j k u zero a b h = omega (arith, a)
  one_later e es j k u (suc zero) a b h = omega (arith, a)
  one_later e es j k u (suc (suc s)) a b h = u (suc s) (omega (arith, a)) (omega (arith, b)) h

  from_first : (e : Event) (es : List Event) (k : ℕ) → (e ≡ Stop m → ⊥) → Unstopped es 0 k → Unstopped (e ∷ es) 0 (suc k)
  from_first e es k not u zero a b h = omega (arith, a)
  from_first e es k not u (suc zero) a b h = not (same_some (nth (e ∷ es) 1) e (Stop m) refl h)
  from_first e es k not u (suc (suc s)) a b h = u (suc s) (omega arith) (omega (arith, b)) h

  gave_later : (out : List Output) (rest outs : List (List Output)) (j : ℕ) → outs ≡ out ∷ rest → Gave rest j (Applied m told) → Gave outs (suc j) (Applied m told)
  gave_later out rest outs zero p (these, q, c) = absurd (none_some (nth rest 0) these refl q)
  gave_later out rest outs (suc j) p (these, q, c) = (these, ap (λ z. slice_get z (suc j)) p ∙ q, c)

  -- who has applied the entry had applied it before the events, and is not stopped by them, or has told of it
  pub tells_in : (early late : List Event) (w : World) (outs : List (List Output)) → IsIdle w → GivesAll language n w (early ++ late) outs → IsToTell w early →
      (z : Node) → nth (run language n w early).nodes m ≡ Some z → i ≤ z.commit → (Had language n w m i told low × Unstopped (early ++ late) 0 (length early)) ⊎ ToldIn (early ++ late) outs (length early)
  tells_in [] late w outs I G T z l c = inl ((z, l, c), λ s a b h. omega (arith, a, b))
  tells_in (e ∷ es) late w outs I (out, rest, p, g, more) T z l c =
      cases (tells_in es late (happens language n w e) rest ((onward language n w e).idle I) more (λ mid rest y s q. T (e ∷ mid) rest y (ap (λ v. e ∷ v) s) q) z l c)
      (λ ((y, q, d), u). cases (tells_now language n w m i told low e out g y q d (T (e ∷ []) es y refl q d))
      (λ h. inl (h, from_first e (es ++ late) (length es) (λ is. let idle = stop_idles language n w m i told low I y (subst (λ v. nth (happens language n w v).nodes m ≡ Some y) is q) in omega (arith, low, d, idle)) u))
      (λ h. inr (1, omega arith, (out, ap (λ v. slice_get v 0) p, h), one_later e (es ++ late) 0 (length es) u)))
      (λ (j, a, gave, u). inr (suc j, omega (arith, a), gave_later out rest outs j p gave, one_later e (es ++ late) j (length es) u))
