-- The k-th list of outputs is what the k-th event gave.
use Rattle.std.proofs.Common.{◌≡◌, ℕ, zero, suc, Bool, true, false, Option, Some, None, List, [], ◌∷◌, ◌++◌, length, slice_get, slice_index_or, refl, sym, ap, ◌∙◌, subst, arith, Contains}
use Rattle.std.specs.Prelude.{option_map}
use Rattle.model.specs.Lists.{nth}
use Rattle.fault.specs.declared.refusal.Refusal.TheVariants.{NotClosed, NodeDown}
use Rattle.model.specs.Transactions.{Language}
use Rattle.model.specs.Texts.{instant_text}
use Rattle.model.specs.declared.entry.Told.{Told}
use Rattle.model.specs.Answers.{Query, Select, closed_query}
use Rattle.model.specs.Members.{Node, closed_time}
use Rattle.model.specs.Worlds.{World, Event, Hand, Deliver, Stop, Start, Torn, Ask, Output, happens, run, Gives, GivesAll, IsGivenIn, IsGivenBy, IsGivenAt}
use Rattle.model.specs.Worlds.Output.{Applied, Refused, Answered}
use Rattle.safety.proofs.Lists.{none_some, same_some}

only : {A : Type 0} (x y : A) → Contains (x ∷ []) y → y ≡ x
only x y h = let e : h.0 ≡ 0 = omega (arith, h.1) in sym (subst (λ k. slice_index_or (x ∷ []) k y ≡ y) e h.2)

none_in : {A : Type 0} (x : A) → Contains [] x → ⊥
none_in x h = let l = h.1 in omega (arith, l)

-- the k-th event gave these
pub record Turn (language : Language) (n : ℕ) (w : World) (events : List Event) (k : ℕ) (out : List Output) : Type 0 where
  pub early : List Event
  pub event : Event
  pub late : List Event
  pub moment : early ++ event ∷ late ≡ events
  pub gives : Gives language n (run language n w early) event out

module _ (language : Language) (n : ℕ) where
  turn : (events : List Event) (w : World) (outs : List (List Output)) (k : ℕ) (out : List Output) → GivesAll language n w events outs → slice_get outs k ≡ Some out → Turn language n w events (suc k) out
  turn [] w outs k out g p = absurd (none_some (slice_get outs k) out (ap (λ z. slice_get z k) g) p)
  turn (e ∷ es) w outs zero out (o, rest, q, g, more) p =
      let s : o ≡ out = same_some (slice_get outs 0) o out (ap (λ z. slice_get z 0) q) p in
      record { early = []; event = e; late = es; moment = refl; gives = subst (λ z. Gives language n w e z) s g }
  turn (e ∷ es) w outs (suc k) out (o, rest, q, g, more) p =
      let T = turn es (happens language n w e) rest k out more (sym (ap (λ z. slice_get z (suc k)) q) ∙ p) in
      record { early = e ∷ T.early; event = T.event; late = T.late; moment = ap (λ z. e ∷ z) T.moment; gives = T.gives }

  pub turn_at : (events : List Event) (w : World) (outs : List (List Output)) (k : ℕ) (out : List Output) → GivesAll language n w events outs → nth outs k ≡ Some out → Turn language n w events k out
  turn_at events w outs zero out g p = absurd (none_some (nth outs 0) out refl p)
  turn_at events w outs (suc k) out g p = turn events w outs k out g p

  -- what the event after the early ones gave
  pub gave_after : (early late : List Event) (e : Event) (w : World) (outs : List (List Output)) → GivesAll language n w (early ++ e ∷ late) outs →
      (out : List Output) × (nth outs (suc (length early)) ≡ Some out) × Gives language n (run language n w early) e out
  gave_after [] late e w outs (o, rest, q, g, more) = (o, ap (λ z. slice_get z 0) q, g)
  gave_after (x ∷ xs) late e w outs (o, rest, q, g, more) =
      let R = gave_after xs late e (happens language n w x) rest more in
      (R.0, ap (λ z. slice_get z (suc (length xs))) q ∙ R.1, R.2)

  -- an answer tells of no request
  none_told : (m : ℕ) (told : Told) (k : ℕ) (q : Select) (x : Node) (c : Option Query) (out : List Output) → IsGivenIn language k x c out → Contains out (Applied m told) → ⊥
  none_told m told k q x None out g c = let e : Applied m told ≡ Refused k (NotClosed (option_map instant_text (closed_time x))) = only _ _ (subst (λ z. Contains z (Applied m told)) g c) in absurd (cc)
  none_told m told k q x (Some r) out (a, is, g) c = let e : Applied m told ≡ Answered k a = only _ _ (subst (λ z. Contains z (Applied m told)) g c) in absurd (cc)

  none_told_by : (m : ℕ) (told : Told) (k : ℕ) (q : Select) (x : Node) (up : Bool) (out : List Output) → IsGivenBy language k q x up out → Contains out (Applied m told) → ⊥
  none_told_by m told k q x true out g c = none_told m told k q x (closed_query q (closed_time x)) out g c
  none_told_by m told k q x false out g c = let e : Applied m told ≡ Refused k NodeDown = only _ _ (subst (λ z. Contains z (Applied m told)) g c) in absurd (cc)

  none_told_at : (m : ℕ) (told : Told) (k : ℕ) (q : Select) (found : Option Node) (out : List Output) → IsGivenAt language k q found out → Contains out (Applied m told) → ⊥
  none_told_at m told k q None out g c = none_in (Applied m told) (subst (λ z. Contains z (Applied m told)) g c)
  none_told_at m told k q (Some x) out g c = none_told_by m told k q x x.up out g c

  -- what is told at an event is told in all that it can give
  pub told_always : (w : World) (e : Event) (out other : List Output) (m : ℕ) (told : Told) → Gives language n w e out → Gives language n w e other → Contains out (Applied m told) → Contains other (Applied m told)
  told_always w (Hand k input) out other m told g h c = subst (λ z. Contains z (Applied m told)) (g ∙ sym h) c
  told_always w (Deliver k reading) out other m told g h c = subst (λ z. Contains z (Applied m told)) (g ∙ sym h) c
  told_always w (Stop k) out other m told g h c = subst (λ z. Contains z (Applied m told)) (g ∙ sym h) c
  told_always w (Start k) out other m told g h c = subst (λ z. Contains z (Applied m told)) (g ∙ sym h) c
  told_always w (Torn k job left) out other m told g h c = subst (λ z. Contains z (Applied m told)) (g ∙ sym h) c
  told_always w (Ask k q) out other m told g h c = absurd (none_told_at m told k q (nth w.nodes k) out g c)
