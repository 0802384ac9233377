-- Who tells of a request has applied it; where a request is submitted nothing is told.
use Rattle.std.proofs.Common.{◌≡◌, ℕ, zero, suc, ◌+◌, ◌-◌, ◌<◌, ◌≤◌, Bool, true, false, cond, not, Option, Some, None, option_map, Result, Ok, Err, List, [], ◌∷◌, map, length, slice_index_or, refl, sym, ap, ◌∙◌, subst, arith, Contains}
use Rattle.std.specs.Prelude.{ℤ}
use Rattle.std.specs.List.{filter_map, range_with_len, cons_option}
use Rattle.std.specs.Option.{option_and_then}
use Rattle.std.proofs.lemmas.Bool.{cond_both}
use Rattle.std.proofs.lemmas.List.Elements.{Contains-append_cases}
use Rattle.model.specs.Lists.{nth, with_nth}
use Rattle.model.specs.Logs.{told_at, outcome, before_index}
use Rattle.model.specs.Texts.{instant_text}
use Rattle.fault.specs.declared.refusal.Refusal.{Refusal}
use Rattle.fault.specs.declared.refusal.Refusal.TheVariants.{NotLeader, TimeFull, LogFull, NotClosed, NodeDown}
use Rattle.model.specs.Transactions.{Language, Statement}
use Rattle.model.specs.declared.entry.Entry.{Entry}
use Rattle.model.specs.declared.entry.Request.{Request}
use Rattle.model.specs.declared.entry.Told.{Told}
use Rattle.model.specs.declared.message.Message.{Message}
use Rattle.model.specs.declared.message.Input.TheVariants.{Submit}
use Rattle.model.specs.declared.event.Job.{Job}
use Rattle.model.specs.declared.event.Job.TheVariants.{Local, Delivery}
use Rattle.model.specs.Answers.{Query, Select, closed_query}
use Rattle.model.specs.Members.{Node, closed_time, is_leader}
use Rattle.model.specs.Steps.{Effect, Moves, Refuses, Nothing, is_time_full, is_log_full, extended, append_own, append_to_all, on_input}
use Rattle.model.specs.Worlds.{World, Event, Hand, Deliver, Stop, Start, Torn, Ask, Output, happens, done, does, delivers, effect, Gives, IsGivenIn, IsGivenBy, IsGivenAt, numbered, tells, effect_gives, step_gives, delivery_gives}
use Rattle.model.specs.Worlds.Output.{Sent, Applied, Refused, Answered}
use Rattle.onelist.specs.Order.{Brings, Whole, CutShort}
use Rattle.safety.proofs.Lists.{cases, none_some}
use Rattle.safety.proofs.Given.{nth_same}

-- ---- lists of outputs

none_in : {A : Type 0} (x : A) → Contains [] x → ⊥
none_in x h = let l = h.1 in omega (arith, l)

only : {A : Type 0} (x y : A) → Contains (x ∷ []) y → y ≡ x
only x y h = let e : h.0 ≡ 0 = omega (arith, h.1) in sym (subst (λ k. slice_index_or (x ∷ []) k y ≡ y) e h.2)

-- ---- nothing is told where something is submitted

module _ (language : Language) (n : ℕ) (w : World) (m : ℕ) (told : Told) where
  not_sent : (k : ℕ) (ps : List Message) → Contains (numbered k ps) (Applied m told) → ⊥
  not_sent k [] c = none_in (Applied m told) c
  not_sent k (p ∷ ps) c = cases (Contains-append_cases (Sent (k + 1) p ∷ []) (numbered (k + 1) ps) (Applied m told) c)
      (λ o. let e : Applied m told ≡ Sent (k + 1) p = only _ _ o in absurd (cc)) (λ r. not_sent (k + 1) ps r)

  not_refused : (k : ℕ) (r : Refusal) → Contains (Refused k r ∷ []) (Applied m told) → ⊥
  not_refused k r c = let e : Applied m told ≡ Refused k r = only _ _ c in absurd (cc)

  -- commit stays
  none_applied : (k : ℕ) (f : ℕ → Option Told) (a c : ℕ) → Contains (map (Applied k) (filter_map f (range_with_len a (c - c)))) (Applied m told) → ⊥
  none_applied k f a c h = let z : c - c ≡ 0 = omega arith in none_in (Applied m told) (subst (λ i. Contains (map (Applied k) (filter_map f (range_with_len a i))) (Applied m told)) z h)

  own_gives : (k : ℕ) (reading : ℤ) (request : Option Request) (x : Node) → Contains (effect_gives language w k x (append_own n k reading request x)) (Applied m told) → ⊥
  unfolding append_own
  own_gives k reading request x =
      cond_both (not (is_leader x.role)) (Refuses (NotLeader x.known)) _ (λ o. Contains (effect_gives language w k x o) (Applied m told) → ⊥) (λ p. not_refused k (NotLeader x.known))
      (λ p. cond_both (is_time_full x.floor x.log) (Refuses TimeFull) _ (λ o. Contains (effect_gives language w k x o) (Applied m told) → ⊥) (λ q. not_refused k TimeFull)
      (λ q. cond_both (is_log_full x.log) (Refuses LogFull) (Moves (record { node = extended reading request x; sent = append_to_all n (extended reading request x) k })) (λ o. Contains (effect_gives language w k x o) (Applied m told) → ⊥) (λ s. not_refused k LogFull)
      (λ s c. cases (Contains-append_cases (numbered (length w.sent) (append_to_all n (extended reading request x) k)) (tells language k x (extended reading request x)) (Applied m told) c)
      (λ h. not_sent (length w.sent) (append_to_all n (extended reading request x) k) h)
      (λ h. none_applied k (told_at language (extended reading request x).log) (x.commit + 1) x.commit h))))

  submit_gives : (k : ℕ) (reading : ℤ) (r : Request) (o : Option Node) → Contains (step_gives language n w k (Local (Submit reading r)) o) (Applied m told) → ⊥
  submit_gives k reading r None c = none_in (Applied m told) c
  submit_gives k reading r (Some x) c = up x.up c
    where
      reads : (o : Result (List Statement) Refusal) → Contains (effect_gives language w k x (elim (o) [ Ok ss ↦ on_input n k (Submit reading r) x | Err refusal ↦ Refuses refusal ])) (Applied m told) → ⊥
      reads (Ok ss) h = own_gives k reading (Some r) x h
      reads (Err refusal) h = not_refused k refusal h

      up : (b : Bool) → Contains (cond b (effect_gives language w k x (elim (language.reads r.text) [ Ok ss ↦ on_input n k (Submit reading r) x | Err refusal ↦ Refuses refusal ])) (Refused k NodeDown ∷ [])) (Applied m told) → ⊥
      up true h = reads (language.reads r.text) h
      up false h = not_refused k NodeDown h

  pub brings_tells_nothing : (r : Request) (k : ℕ) (e : Event) (out : List Output) → Brings r k e → Gives language n w e out → Contains out (Applied m told) → ⊥
  brings_tells_nothing r k _ out (Whole reading) g c = submit_gives k reading r (nth w.nodes k) (subst (λ z. Contains z (Applied m told)) g c)
  brings_tells_nothing r k _ out (CutShort reading) g c = none_in (Applied m told) (subst (λ z. Contains z (Applied m told)) g c)

  -- ---- who tells has applied

  of_request : (i t : ℕ) (before : List Entry) (o : Option Request) → option_map (λ (r : Request). record { index = i; client = r.client; number = r.number; outcome = outcome language t r before }) o ≡ Some told → told.index ≡ i
  of_request i t before None q = absurd (none_some None told refl q)
  of_request i t before (Some r) q = let s : record { index = i; client = r.client; number = r.number; outcome = outcome language t r before } ≡ told = (cc) in ap (λ (v : Told). v.index) (sym s)

  of_entry : (list : List Entry) (i : ℕ) (o : Option Entry) →
      option_and_then (λ (e : Entry). option_map (λ (r : Request). record { index = i; client = r.client; number = r.number; outcome = outcome language e.stamp r (before_index list i) }) e.request) o ≡ Some told → told.index ≡ i
  of_entry list i None q = absurd (none_some None told refl q)
  of_entry list i (Some e) q = of_request i e.stamp (before_index list i) e.request q

  told_index : (list : List Entry) (i : ℕ) → told_at language list i ≡ Some told → told.index ≡ i
  told_index list i q = of_entry list i (nth list i) q

  module _ (k : ℕ) (f : ℕ → Option Told) where
    -- told by this member, of an index in the range
    abbrev ToldIn : ℕ → ℕ → Type 0
    ToldIn a c = (m ≡ k) × (i : ℕ) × (a ≤ i) × (i < a + c) × (f i ≡ Some told)

    told_next : (a c : ℕ) (o : Option Told) → f a ≡ o → (rest : List Told) → (Contains (map (Applied k) rest) (Applied m told) → ToldIn (a + 1) c) → Contains (map (Applied k) (cons_option o rest)) (Applied m told) → ToldIn a (suc c)
    told_next a c None e rest h i = let r = h i in (r.0, r.1, omega (arith, r.2), omega (arith, r.3), r.4)
    told_next a c (Some t) e rest h i = cases (Contains-append_cases (Applied k t ∷ []) (map (Applied k) rest) (Applied m told) i)
        (λ o. let p : Applied m told ≡ Applied k t = only _ _ o in let s : t ≡ told = (cc) in let who : m ≡ k = (cc) in (who, a, omega arith, omega arith, e ∙ ap Some s))
        (λ o. let r = h o in (r.0, r.1, omega (arith, r.2), omega (arith, r.3), r.4))

    told_in : (a c : ℕ) → Contains (map (Applied k) (filter_map f (range_with_len a c))) (Applied m told) → ToldIn a c
    told_in a zero i = absurd (none_in (Applied m told) i)
    told_in a (suc c) i = told_next a c (f a) refl (filter_map f (range_with_len (a + 1) c)) (told_in (a + 1) c) i

  abbrev pub HasApplied : World → Type 0
  HasApplied v = (x : Node) × (nth v.nodes m ≡ Some x) × (told.index ≤ x.commit)

  teller_effect : (k : ℕ) (x : Node) → nth w.nodes k ≡ Some x → (o : Effect) → Contains (effect_gives language w k x o) (Applied m told) → HasApplied (done w k o)
  teller_effect k x l Nothing c = absurd (none_in (Applied m told) c)
  teller_effect k x l (Refuses r) c = absurd (not_refused k r c)
  teller_effect k x l (Moves a) c = cases (Contains-append_cases (numbered (length w.sent) a.sent) (tells language k x a.node) (Applied m told) c)
      (λ h. absurd (not_sent (length w.sent) a.sent h))
      (λ h. let r = told_in k (told_at language a.node.log) (x.commit + 1) (a.node.commit - x.commit) h in
      let q = told_index a.node.log r.1 r.4 in
      let low = r.2 in
      let high = r.3 in
      (a.node, subst (λ i. nth (with_nth w.nodes k a.node) i ≡ Some a.node) (sym r.0) (nth_same w.nodes k x a.node l), omega arith))

  teller_step : (k : ℕ) (j : Job) (o : Option Node) → nth w.nodes k ≡ o → Contains (step_gives language n w k j o) (Applied m told) → HasApplied (does language n w k j o)
  teller_step k j None l c = absurd (none_in (Applied m told) c)
  teller_step k j (Some x) l c = up x.up c
    where
      up : (b : Bool) → Contains (cond b (effect_gives language w k x (effect language n w k j x)) (Refused k NodeDown ∷ [])) (Applied m told) → HasApplied (cond b (done w k (effect language n w k j x)) w)
      up true h = teller_effect k x l (effect language n w k j x) h
      up false h = absurd (not_refused k NodeDown h)

  teller_delivery : (j : Job) (o : Option Message) → Contains (delivery_gives language n w j o) (Applied m told) → HasApplied (delivers language n w j o)
  teller_delivery j None c = absurd (none_in (Applied m told) c)
  teller_delivery j (Some p) c = teller_step p.addressee j (nth w.nodes p.addressee) refl c

  not_asked : (q : Select) (k : ℕ) (x : Node) (out : List Output) → Contains out (Applied m told) → (o : Option Query) → IsGivenIn language k x o out → ⊥
  not_asked q k x out c None g = not_refused k (NotClosed (option_map instant_text (closed_time x))) (subst (λ z. Contains z (Applied m told)) g c)
  not_asked q k x out c (Some p) (a, i, g) = let e : Applied m told ≡ Answered k a = only _ _ (subst (λ z. Contains z (Applied m told)) g c) in absurd (cc)

  not_asked_by : (q : Select) (k : ℕ) (x : Node) (out : List Output) → Contains out (Applied m told) → (b : Bool) → IsGivenBy language k q x b out → ⊥
  not_asked_by q k x out c false g = not_refused k NodeDown (subst (λ z. Contains z (Applied m told)) g c)
  not_asked_by q k x out c true g = not_asked q k x out c (closed_query q (closed_time x)) g

  not_asked_at : (q : Select) (k : ℕ) (o : Option Node) (out : List Output) → Contains out (Applied m told) → IsGivenAt language k q o out → ⊥
  not_asked_at q k None out c g = none_in (Applied m told) (subst (λ z. Contains z (Applied m told)) g c)
  not_asked_at q k (Some x) out c g = not_asked_by q k x out c x.up g

  -- the member that tells of a request has applied it after the event
  pub teller : (e : Event) (out : List Output) → Gives language n w e out → Contains out (Applied m told) → HasApplied (happens language n w e)
  teller (Hand k i) out g c = teller_step k (Local i) (nth w.nodes k) refl (subst (λ z. Contains z (Applied m told)) g c)
  teller (Deliver k reading) out g c = teller_delivery (Delivery k reading) (nth w.sent k) (subst (λ z. Contains z (Applied m told)) g c)
  teller (Stop k) out g c = absurd (none_in (Applied m told) (subst (λ z. Contains z (Applied m told)) g c))
  teller (Start k) out g c = absurd (none_in (Applied m told) (subst (λ z. Contains z (Applied m told)) g c))
  teller (Torn k j left) out g c = absurd (none_in (Applied m told) (subst (λ z. Contains z (Applied m told)) g c))
  teller (Ask k q) out g c = absurd (not_asked_at q k (nth w.nodes k) out c g)

  -- ---- who tells had not applied it before

  abbrev pub HadLess : Type 0
  HadLess = (x : Node) × (nth w.nodes m ≡ Some x) × (x.commit < told.index)

  low_effect : (k : ℕ) (x : Node) → nth w.nodes k ≡ Some x → (o : Effect) → Contains (effect_gives language w k x o) (Applied m told) → HadLess
  low_effect k x l Nothing c = absurd (none_in (Applied m told) c)
  low_effect k x l (Refuses r) c = absurd (not_refused k r c)
  low_effect k x l (Moves a) c = cases (Contains-append_cases (numbered (length w.sent) a.sent) (tells language k x a.node) (Applied m told) c)
      (λ h. absurd (not_sent (length w.sent) a.sent h))
      (λ h. let r = told_in k (told_at language a.node.log) (x.commit + 1) (a.node.commit - x.commit) h in
      let q = told_index a.node.log r.1 r.4 in
      let low = r.2 in
      (x, subst (λ i. nth w.nodes i ≡ Some x) (sym r.0) l, omega (arith, q, low)))

  low_step : (k : ℕ) (j : Job) (o : Option Node) → nth w.nodes k ≡ o → Contains (step_gives language n w k j o) (Applied m told) → HadLess
  low_step k j None l c = absurd (none_in (Applied m told) c)
  low_step k j (Some x) l c = up x.up c
    where
      up : (b : Bool) → Contains (cond b (effect_gives language w k x (effect language n w k j x)) (Refused k NodeDown ∷ [])) (Applied m told) → HadLess
      up true h = low_effect k x l (effect language n w k j x) h
      up false h = absurd (not_refused k NodeDown h)

  low_delivery : (j : Job) (o : Option Message) → Contains (delivery_gives language n w j o) (Applied m told) → HadLess
  low_delivery j None c = absurd (none_in (Applied m told) c)
  low_delivery j (Some p) c = low_step p.addressee j (nth w.nodes p.addressee) refl c

  -- the member that tells of a request had not applied it before the event
  pub teller_before : (e : Event) (out : List Output) → Gives language n w e out → Contains out (Applied m told) → HadLess
  teller_before (Hand k i) out g c = low_step k (Local i) (nth w.nodes k) refl (subst (λ z. Contains z (Applied m told)) g c)
  teller_before (Deliver k reading) out g c = low_delivery (Delivery k reading) (nth w.sent k) (subst (λ z. Contains z (Applied m told)) g c)
  teller_before (Stop k) out g c = absurd (none_in (Applied m told) (subst (λ z. Contains z (Applied m told)) g c))
  teller_before (Start k) out g c = absurd (none_in (Applied m told) (subst (λ z. Contains z (Applied m told)) g c))
  teller_before (Torn k j left) out g c = absurd (none_in (Applied m told) (subst (λ z. Contains z (Applied m told)) g c))
  teller_before (Ask k q) out g c = absurd (not_asked_at q k (nth w.nodes k) out c g)
