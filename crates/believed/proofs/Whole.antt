-- What an explanation says of an outcome that is left out.
use Rattle.std.proofs.Common.{◌≡◌, ◌≢◌, ℕ, zero, suc, ◌<◌, ◌≤◌, Option, Some, None, option_map, Ok, Err, List, [], ◌∷◌, slice_get, slice_index_or, refl, sym, ap, ◌∙◌, subst, arith}
use Rattle.std.specs.Option.{option_and_then}
use Rattle.std.proofs.lemmas.Bool.{cases_lt}
use Rattle.std.proofs.lemmas.Option.{slice_get_within}
use Rattle.std.proofs.Math.Logic.{∥∥₁_elim}
use mathlib.Core.HLevel.{⊥_prop}
use Rattle.model.specs.Lists.{nth}
use Rattle.fault.specs.declared.refusal.Refusal.TheVariants.{Gap}
use Rattle.model.specs.Transactions.{Language}
use Rattle.model.specs.declared.entry.Entry.{Entry}
use Rattle.model.specs.declared.entry.Request.{Request}
use Rattle.model.specs.declared.entry.Told.{Told}
use Rattle.model.specs.Answers.{Select, Answer}
use Rattle.model.specs.Worlds.{Event, Output}
use Rattle.model.specs.Worlds.Output.{Applied}
use Rattle.model.specs.Logs as old
use Rattle.model.specs.Agreement.{IsTold}
use Rattle.safety.proofs.Lists.{cases, none_some, same_some}
use Rattle.onelist.proofs.Instants.{accepted_entry}
use Rattle.onelist.proofs.Numbers.{smaller_numbers}
use Rattle.believed.specs.Explained.{Explanation, Gave, HasTold, IsAnswered, IsExplainedSo, IsUnstopped}
use Rattle.believed.specs.Logs.{IsStamped, told_at}
use Rattle.believed.proofs.LogsSame.{told_at_same}

-- ---- what is told of an index stands there

abbrev told_of : Language → List Entry → ℕ → ℕ → Request → Told
told_of language list i t r = record { index = i; client = r.client; number = r.number; outcome = old.outcome language t r (old.before_index list i) }

of_request : (language : Language) (list : List Entry) (i : ℕ) (e : Entry) (told : Told) → nth list i ≡ Some e → (o : Option Request) → e.request ≡ o → option_map (λ (r : Request). told_of language list i e.stamp r) o ≡ Some told → (told.index ≡ i) × IsTold language list told
of_request language list i e told l None q h = absurd (none_some None told refl h)
of_request language list i e told l (Some r) q h =
    let s : told_of language list i e.stamp r ≡ told = (cc) in
    let P : Told → Type 0 = λ t. (t.index ≡ i) × IsTold language list t in
    subst P s (refl, record { entry = e; request = r; at = l; asks = q; client = refl; number = refl; outcome = refl })

of_entry : (language : Language) (list : List Entry) (i : ℕ) (told : Told) (o : Option Entry) → nth list i ≡ o → option_and_then (λ (e : Entry). option_map (λ (r : Request). told_of language list i e.stamp r) e.request) o ≡ Some told → (told.index ≡ i) × IsTold language list told
of_entry language list i told None l h = absurd (none_some None told refl h)
of_entry language list i told (Some e) l h = of_request language list i e told l e.request refl h

pub is_told : (language : Language) (list : List Entry) (i : ℕ) (told : Told) → told_at language list i ≡ Some told → (told.index ≡ i) × IsTold language list told
is_told language list i told h = of_entry language list i told (nth list i) refl (sym (told_at_same language list i) ∙ h)

-- ---- stamps

at_or : (xs : List Entry) (i : ℕ) (d e : Entry) → slice_get xs i ≡ Some e → slice_index_or xs i d ≡ e
at_or [] i d e p = absurd (none_some (slice_get {X = Entry} [] i) e refl p)
at_or (x ∷ xs) zero d e p = let s : x ≡ e = (cc) in s
at_or (x ∷ xs) (suc i) d e p = at_or xs i d e p

rising_to : (list : List Entry) → IsStamped list → (i j : ℕ) (d e : Entry) → i ≤ j → nth list i ≡ Some d → nth list j ≡ Some e → d.stamp ≤ e.stamp
rising_to list R zero j d e l p q = absurd (none_some (nth list 0) d refl p)
rising_to list R (suc i) zero d e l p q = absurd (none_some (nth list 0) e refl q)
rising_to list R (suc i) (suc j) d e l p q = cases (cases_lt i j)
    (λ u. let r = R.1 i j d u (slice_get_within list j e q) in
    let a = ap (λ (v : Entry). v.stamp) (at_or list i d d p) in
    let b = ap (λ (v : Entry). v.stamp) (at_or list j d e q) in omega (arith, r, a, b))
    (λ u. let k : suc i ≡ suc j = omega (arith, u, l) in let s : d ≡ e = same_some (nth list (suc j)) d e (subst (λ z. nth list z ≡ Some d) k p) q in let z = ap (λ (v : Entry). v.stamp) s in omega (arith, z))

-- ---- what is left out

-- the member told of no request of the client with this number by the k-th event
abbrev pub NeverTold : List (List Output) → ℕ → ℕ → ℕ → ℕ → Type 0
NeverTold given k m client number = (j : ℕ) (told : Told) → j ≤ k → Gave given j (Applied m told) → told.client ≡ client → told.number ≡ number → ⊥

module _ (language : Language) (n : ℕ) (events : List Event) (given : List (List Output)) (x : Explanation language n events given) where
  stands : (k m : ℕ) (told : Told) → Gave given k (Applied m told) → IsTold language x.list told
  stands k m told g = (is_told language x.list told.index told (x.explains.told k m told g)).1

  -- who has told of the request at an index has told of this client's, with this number
  not_never : (k m i : ℕ) (e : Entry) (r : Request) → nth x.list i ≡ Some e → e.request ≡ Some r → HasTold events given k m i → NeverTold given k m r.client r.number → ⊥
  not_never k m i e r at asks (j, told, l, gave, is, u) never =
      let T = stands j m told gave in
      let same : T.entry ≡ e = same_some (nth x.list i) T.entry e (subst (λ z. nth x.list z ≡ Some T.entry) is T.at) at in
      let own : T.request ≡ r = same_some e.request T.request r (subst (λ (z : Entry). z.request ≡ Some T.request) same T.asks) asks in
      never j told l gave (sym T.client ∙ ap (λ (z : Request). z.client) own) (sym T.number ∙ ap (λ (z : Request). z.number) own)

  left : (j k l m : ℕ) (a b : Told) → Gave given j (Applied l a) → Gave given k (Applied m b) → a.index < b.index → HasTold events given k m a.index
  left j k l m a b g h low = let T = stands j l a g in x.explains.told_whole k m a.index b T.entry T.request h (T.at, T.asks) low

  smaller : (k m number : ℕ) (told : Told) → Gave given k (Applied m told) → told.outcome ≢ Err Gap → 1 ≤ number → number < told.number → NeverTold given k m told.client number → ⊥
  smaller k m number told g gap a b never =
      let S = smaller_numbers language x.list told (stands k m told g) gap number a b in
      not_never k m S.place S.entry S.request S.at S.asks (x.explains.told_whole k m S.place told S.entry S.request g (S.at, S.asks) S.low)
      (subst (λ c. NeverTold given k m c S.request.number) (sym S.of) (subst (λ i. NeverTold given k m told.client i) (sym S.is) never))

  accepted : (j k l m t : ℕ) (told : Told) (q : Select) (a : Answer) → Gave given j (Applied l told) → told.outcome ≡ Ok t → IsAnswered events given k m q a → t ≤ a.last → NeverTold given k m told.client told.number → ⊥
  accepted j k l m t told q a g ok h low never =
      let S = accepted_entry language x.list told t (stands j l told g) ok in
      let stamp = S.stamp in
      not_never k m (suc S.place) S.entry S.request S.at S.asks (x.explains.answered_whole k m (suc S.place) q a S.entry S.request h (S.at, S.asks) (omega (arith, low, stamp)))
      (subst (λ c. NeverTold given k m c S.request.number) (sym S.client) (subst (λ i. NeverTold given k m told.client i) (sym S.number) never))

  -- the instant at which a request is told of as accepted is no later than that of its place
  no_later : (j l t : ℕ) (told : Told) (e : Entry) → Gave given j (Applied l told) → told.outcome ≡ Ok t → nth x.list told.index ≡ Some e → t ≤ e.stamp
  no_later j l t told e g ok at =
      let S = accepted_entry language x.list told t (stands j l told g) ok in
      let stamp = S.stamp in
      let low = S.low in
      let rises = rising_to x.list x.explains.stamped (suc S.place) told.index S.entry e (omega (arith, low)) S.at at in omega (arith, stamp, rises)

  as_told : (j k m t : ℕ) (told : Told) (q : Select) (a : Answer) → j < k → IsUnstopped events m j k → Gave given j (Applied m told) → told.outcome ≡ Ok t → IsAnswered events given k m q a → q.time ≡ None → t ≤ a.last
  as_told j k m t told q a l up g ok h none =
      let T = stands j m told g in
      let low = no_later j m t told T.entry g ok T.at in
      let high = x.order.told_then_asked j k m told T.entry q a l up none g h T.at in omega (arith, low, high)

module _ (language : Language) (n : ℕ) (events : List Event) (given : List (List Output)) where
  pub none_left_out : (j k l m : ℕ) (a b : Told) → IsExplainedSo language n events given → Gave given j (Applied l a) → Gave given k (Applied m b) → a.index < b.index → (HasTold events given k m a.index → ⊥) → ⊥
  none_left_out j k l m a b x g h low never = ∥∥₁_elim x ⊥_prop (λ (z : Explanation language n events given). never (left language n events given z j k l m a b g h low))

  pub no_number_left_out : (k m number : ℕ) (told : Told) → IsExplainedSo language n events given → Gave given k (Applied m told) → told.outcome ≢ Err Gap → 1 ≤ number → number < told.number → NeverTold given k m told.client number → ⊥
  no_number_left_out k m number told x g gap a b never = ∥∥₁_elim x ⊥_prop (λ (z : Explanation language n events given). smaller language n events given z k m number told g gap a b never)

  pub none_unsaid : (j k l m t : ℕ) (told : Told) (q : Select) (a : Answer) → IsExplainedSo language n events given → Gave given j (Applied l told) → told.outcome ≡ Ok t → IsAnswered events given k m q a → t ≤ a.last → NeverTold given k m told.client told.number → ⊥
  none_unsaid j k l m t told q a x g ok h low never = ∥∥₁_elim x ⊥_prop (λ (z : Explanation language n events given). accepted language n events given z j k l m t told q a g ok h low never)

  pub none_stale : (j k m t : ℕ) (told : Told) (q : Select) (a : Answer) → IsExplainedSo language n events given → j < k → IsUnstopped events m j k → Gave given j (Applied m told) → told.outcome ≡ Ok t → IsAnswered events given k m q a → q.time ≡ None → a.last < t → ⊥
  none_stale j k m t told q a x l up g ok h none low = ∥∥₁_elim x ⊥_prop (λ (z : Explanation language n events given). let high = as_told language n events given z j k m t told q a l up g ok h none in omega (arith, low, high))
