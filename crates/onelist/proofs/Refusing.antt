-- What is refused is not brought, and a text that reads nothing is refused; what a member does not answer yet is not closed there.
use Rattle.std.proofs.Common.{◌≡◌, ℕ, ◌+◌, ◌≤◌, ◌&&◌, Bool, true, false, cond, Option, Some, None, option_map, unwrap_or, Result, Ok, Err, List, [], ◌∷◌, map, length, slice_index_or, refl, sym, ap, subst, arith, Contains}
use Rattle.std.specs.Prelude.{ℤ}
use Rattle.std.proofs.lemmas.Bool.{cases_lt, cond_both}
use Rattle.std.proofs.lemmas.List.Elements.{Contains-append_cases}
use Rattle.model.specs.Lists.{nth, with_nth}
use Rattle.model.specs.Stamps.{above}
use Rattle.model.specs.Texts.{instant_text}
use Rattle.fault.specs.declared.refusal.Refusal.{Refusal}
use Rattle.fault.specs.declared.refusal.Refusal.TheVariants.{NotClosed, NodeDown}
use Rattle.model.specs.Transactions.{Language, Statement}
use Rattle.model.specs.declared.entry.Request.{Request}
use Rattle.model.specs.declared.entry.Told.{Told}
use Rattle.model.specs.declared.message.Message.{Message}
use Rattle.model.specs.declared.message.Input.TheVariants.{Submit}
use Rattle.model.specs.declared.event.Job.{Job}
use Rattle.model.specs.declared.event.Job.TheVariants.{Local}
use Rattle.model.specs.declared.event.Left.TheVariants.{New}
use Rattle.model.specs.Answers.{SystemTime, as_of, read_at, Query, Select, IsClosed, closed_query}
use Rattle.model.specs.Members.{Node, closed_time}
use Rattle.model.specs.Steps.{Effect, Moves, Refuses, Nothing, on_input}
use Rattle.model.specs.Worlds.{World, Event, Ask, Output, happens, done, does, is_for, tears, stopped, node_left, with_node, effect, Gives, IsGivenIn, IsGivenBy, IsGivenAt, numbered, tells, effect_gives, step_gives}
use Rattle.model.specs.Worlds.Output.{Sent, Applied, Refused, Answered}
use Rattle.onelist.specs.Order.{Brings, Whole, CutShort}
use Rattle.onelist.specs.Explained.{AsksPast}
use Rattle.safety.proofs.Lists.{cases, if_there, same_some}
use Rattle.safety.proofs.Given.{nth_same, was_refused}

-- ---- lists of outputs

none_in : {A : Type 0} (x : A) → Contains [] x → ⊥
none_in x h = let l = h.1 in omega (arith, l)

only : {A : Type 0} (x y : A) → Contains (x ∷ []) y → y ≡ x
only x y h = let e : h.0 ≡ 0 = omega (arith, h.1) in sym (subst (λ k. slice_index_or (x ∷ []) k y ≡ y) e h.2)

-- ---- where a member refuses, nothing changes

module _ (language : Language) (n : ℕ) (w : World) (m : ℕ) (why : Refusal) where
  not_sent : (k : ℕ) (ps : List Message) → Contains (numbered k ps) (Refused m why) → ⊥
  not_sent k [] c = none_in (Refused m why) c
  not_sent k (p ∷ ps) c = cases (Contains-append_cases (Sent (k + 1) p ∷ []) (numbered (k + 1) ps) (Refused m why) c)
      (λ o. let e : Refused m why ≡ Sent (k + 1) p = only _ _ o in absurd (cc)) (λ r. not_sent (k + 1) ps r)

  not_told : (k : ℕ) (ts : List Told) → Contains (map (Applied k) ts) (Refused m why) → ⊥
  not_told k [] c = none_in (Refused m why) c
  not_told k (t ∷ ts) c = cases (Contains-append_cases (Applied k t ∷ []) (map (Applied k) ts) (Refused m why) c)
      (λ o. let e : Refused m why ≡ Applied k t = only _ _ o in absurd (cc)) (λ r. not_told k ts r)

  refused_effect : (k : ℕ) (x : Node) (o : Effect) → Contains (effect_gives language w k x o) (Refused m why) → done w k o ≡ w
  refused_effect k x Nothing c = refl
  refused_effect k x (Refuses r) c = refl
  refused_effect k x (Moves a) c = cases (Contains-append_cases (numbered (length w.sent) a.sent) (tells language k x a.node) (Refused m why) c)
      (λ h. absurd (not_sent (length w.sent) a.sent h)) (λ h. absurd (not_told k _ h))

  refused_step : (k : ℕ) (j : Job) (o : Option Node) → Contains (step_gives language n w k j o) (Refused m why) → does language n w k j o ≡ w
  refused_step k j None c = refl
  refused_step k j (Some x) c = up x.up c
    where
      up : (b : Bool) → Contains (cond b (effect_gives language w k x (effect language n w k j x)) (Refused k NodeDown ∷ [])) (Refused m why) → cond b (done w k (effect language n w k j x)) w ≡ w
      up true h = refused_effect k x (effect language n w k j x) h
      up false h = refl

  -- what is refused changes nothing
  pub refused_stays : (r : Request) (k : ℕ) (e : Event) (out : List Output) → Brings r k e → Gives language n w e out → Contains out (Refused m why) → happens language n w e ≡ w
  refused_stays r k _ out (Whole reading) g c = refused_step k (Local (Submit reading r)) (nth w.nodes k) (subst (λ z. Contains z (Refused m why)) g c)
  refused_stays r k _ out (CutShort reading) g c = absurd (none_in (Refused m why) (subst (λ z. Contains z (Refused m why)) g c))

-- ---- a text that spells nothing

module _ (language : Language) (n : ℕ) (w : World) (r : Request) (k : ℕ) where
  -- the member's log is what it was
  abbrev pub Keeps : World → Type 0
  Keeps v = (y : Node) → nth v.nodes k ≡ Some y → (x : Node) × (nth w.nodes k ≡ Some x) × (y.log ≡ x.log)

  same_world : Keeps w
  same_world y l = (y, l, refl)

  handed : (reading : ℤ) (x : Node) (o : Result (List Statement) Refusal) (why : Refusal) → o ≡ Err why → elim (o) [ Ok ss ↦ on_input n k (Submit reading r) x | Err refusal ↦ Refuses refusal ] ≡ Refuses why
  handed reading x (Ok ss) why e = absurd (cc)
  handed reading x (Err other) why e = ap Refuses (let s : other ≡ why = (cc) in s)

  module _ (why : Refusal) (reads : language.reads r.text ≡ Err why) where
    whole : (reading : ℤ) (o : Option Node) → nth w.nodes k ≡ o → Keeps (does language n w k (Local (Submit reading r)) o)
    whole reading None l = same_world
    whole reading (Some x) l = up x.up
      where
        up : (b : Bool) → Keeps (cond b (done w k (effect language n w k (Local (Submit reading r)) x)) w)
        up true = subst (λ o. Keeps (done w k o)) (sym (handed reading x (language.reads r.text) why reads)) same_world
        up false = same_world

    rests : (x : Node) → nth w.nodes k ≡ Some x → Keeps (with_node w k (stopped x) [])
    rests x l y q = (x, l, ap (λ (v : Node). v.log) (same_some (nth (with_nth w.nodes k (stopped x)) k) y (stopped x) q (nth_same w.nodes k x (stopped x) l)))

    torn : (reading : ℤ) (x : Node) → nth w.nodes k ≡ Some x → Keeps (with_node w k (stopped (node_left New x (effect language n w k (Local (Submit reading r)) x))) [])
    torn reading x l = subst (λ o. Keeps (with_node w k (stopped (node_left New x o)) [])) (sym (handed reading x (language.reads r.text) why reads)) (rests x l)

    cut : (reading : ℤ) → Keeps (tears language n w k (Local (Submit reading r)) New (nth w.nodes k))
    cut reading = if_there (nth w.nodes k) _ w Keeps (λ x l. cond_both (x.up && is_for w k (Local (Submit reading r))) _ w Keeps (λ p. torn reading x l) (λ p. same_world)) same_world

    -- what does not read is not brought
    pub unread_stays : (e : Event) → Brings r k e → Keeps (happens language n w e)
    unread_stays _ (Whole reading) = whole reading (nth w.nodes k) refl
    unread_stays _ (CutShort reading) = cut reading

-- ---- a question that is put off

-- a member that is up put the question off, which is not closed there
pub record WasPutOff (q : Select) (w : World) (m : ℕ) : Type 0 where
  pub node : Node
  pub at : nth w.nodes m ≡ Some node
  pub up : node.up ≡ true
  pub unclosed : IsClosed q (closed_time node) → ⊥

module _ (language : Language) (n : ℕ) (q : Select) (w : World) (m : ℕ) (closed : Option (List ℕ)) (out : List Output) (g : Gives language n w (Ask m q) out) (has : Contains out (Refused m (NotClosed closed))) where
  put_off_in : (x : Node) → nth w.nodes m ≡ Some x → x.up ≡ true → (o : Option Query) → IsGivenIn language m x o out → WasPutOff q w m
  put_off_in x l u None is =
      let own : Output = Refused m (NotClosed (option_map instant_text (closed_time x))) in
      record { node = x; at = l; up = u; unclosed = (was_refused language n w m q out x l u g).0 (subst (λ z. Contains z own) (sym is) (0, omega arith, refl)) }
  put_off_in x l u (Some p) (a, i, is) = let h : Refused m (NotClosed closed) ≡ Answered m a = only _ _ (subst (λ z. Contains z (Refused m (NotClosed closed))) is has) in absurd (cc)

  put_off_by : (x : Node) → nth w.nodes m ≡ Some x → (up : Bool) → x.up ≡ up → IsGivenBy language m q x up out → WasPutOff q w m
  put_off_by x l false u is = let h : Refused m (NotClosed closed) ≡ Refused m NodeDown = only _ _ (subst (λ z. Contains z (Refused m (NotClosed closed))) is has) in absurd (cc)
  put_off_by x l true u is = put_off_in x l u (closed_query q (closed_time x)) is

  put_off_at : (o : Option Node) → nth w.nodes m ≡ o → IsGivenAt language m q o out → WasPutOff q w m
  put_off_at None l is = absurd (none_in (Refused m (NotClosed closed)) (subst (λ z. Contains z (Refused m (NotClosed closed))) is has))
  put_off_at (Some x) l is = put_off_by x l x.up refl is

  pub was_put_off : WasPutOff q w m
  was_put_off = put_off_at (nth w.nodes m) refl g

-- a question that is not closed at a closed time, at which an instant is closed, asks about a later one
pub asks_past : (q : Select) (closed : Option ℕ) (s : ℕ) → s + 1 ≤ above closed → (IsClosed q closed → ⊥) → AsksPast s q
asks_past q None s l unclosed = absurd (omega (arith, l))
asks_past q (Some t) s l unclosed = go q.time refl
  where
    go : (o : Option SystemTime) → q.time ≡ o → AsksPast s q
    go None e = absurd (unclosed (t, refl, let h : (read_at t q).time.last ≡ t = ap (λ z. (unwrap_or z (as_of t)).last) e in omega (arith, h)))
    go (Some time) e = cases (cases_lt s time.last) (λ h. (time, e, h))
        (λ h. absurd (unclosed (t, refl, let p : (read_at t q).time.last ≡ time.last = ap (λ z. (unwrap_or z (as_of t)).last) e in omega (arith, h, l, p))))
