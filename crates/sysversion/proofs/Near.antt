-- The versions at some places, in their order.
use Rattle.std.proofs.Common.{◌≡◌, ℕ, zero, suc, ◌+◌, ◌<◌, ◌≤◌, ◌==◌, Bool, true, false, ◌&&◌, ◌||◌, cond, List, [], ◌∷◌, ◌++◌, filter, length, Option, Some, None, refl, sym, ap, ◌∙◌, subst, inl, inr, arith, append_assoc}
use Rattle.std.specs.Prelude.{◌-◌, slice_get, nat_le, nat_lt}
use Rattle.std.specs.Option.{option_map_or}
use Rattle.std.specs.List.{list_any, AllByRecursion}
use Rattle.std.specs.List.Sorted.{IsStrictlySortedBy}
use Rattle.std.specs.declared.cmp.Ordering.TheVariants.{Less, Equal, Greater}
use Rattle.std.specs.BTreeMap.{is_at}
use Rattle.std.specs.BTreeSet.{BTreeSet, contains, IsOrdered}
use Rattle.std.specs.Cmp.{Equal-is, nat_cmp_total, tied_itself, ranks}
use Rattle.std.specs.Ordering.{is_eq, nat_cmp, MatchOrdering}
use Rattle.std.proofs.lemmas.Bool.{cases_Bool, and_parts, eqb-true, cases_lt}
use Rattle.std.proofs.lemmas.Map.Lookups.{exact_unsigned}
use Rattle.rowlaws.specs.Rows.{Has}
use Rattle.versionlaws.specs.Versions.{Version}
use Rattle.sysversion.specs.Days.{reached_cmp, has_day, nearly_has, is_reached, Reached, AreReached}
use Rattle.sysversion.proofs.Open.{is_there, some_there, passes_there}

abbrev pub pick : Option Version → List Version → List Version
pick None more = more
pick (Some v) more = v ∷ more

-- the versions at the places
abbrev pub picked : List Version → List ℕ → List Version
picked vs [] = []
picked vs (p ∷ ps) = pick (slice_get vs p) (picked vs ps)

-- ---- places in order

abbrev Ascends : ℕ → List ℕ → Type 0
Ascends n [] = Unit {0}
Ascends n (p ∷ ps) = (n ≤ p) × Ascends (suc p) ps

less_of : (a b : ℕ) (r : _) → MatchOrdering r (a < b) (a ≡ b) (b < a) → r ≡ Less → a < b
less_of a b Less m e = m
less_of a b Equal m e = cc
less_of a b Greater m e = cc

ascends : (n : ℕ) (ps : List ℕ) → AllByRecursion (λ q. n ≤ q) ps → IsStrictlySortedBy nat_cmp ps → Ascends n ps
unfolding IsStrictlySortedBy
ascends n [] all sorted = tt
ascends n (p ∷ ps) all sorted = (all.0, ascends (suc p) ps (above ps sorted.0) sorted.1)
  where
    above : (qs : List ℕ) → AllByRecursion (λ q. nat_cmp p q ≡ Less) qs → AllByRecursion (λ q. suc p ≤ q) qs
    above [] h = tt
    above (q ∷ qs) h = (let l = less_of p q (nat_cmp p q) (ranks p q) h.0 in omega (arith, l), above qs h.1)

-- ---- what stands at the places

same_number : (a b : ℕ) → is_at (nat_cmp a) b ≡ true → a ≡ b
same_number a b h = exact_unsigned a b ((Equal-is (nat_cmp a b)).0 h)

at_itself : (a : ℕ) → is_at (nat_cmp a) a ≡ true
at_itself a = ap is_eq (tied_itself nat_cmp_total a)

pub any_has : (p : ℕ) (ps : List ℕ) → list_any (is_at (nat_cmp p)) ps ≡ true → Has ps p
any_has p [] h = let no : false ≡ true = h in cc
any_has p (q ∷ ps) h = elim (cases_Bool (is_at (nat_cmp p) q)) [
  | inl y ↦ inl (same_number p q y)
  | inr n ↦ inr (any_has p ps (sym (ap (λ b. b || list_any (is_at (nat_cmp p)) ps) n) ∙ h))
]

pub has_any : (p : ℕ) (ps : List ℕ) → Has ps p → list_any (is_at (nat_cmp p)) ps ≡ true
has_any p [] h = absurd h
has_any p (q ∷ ps) (inl e) = ap (λ b. b || list_any (is_at (nat_cmp p)) ps) (subst (λ r. is_at (nat_cmp p) r ≡ true) e (at_itself p))
has_any p (q ∷ ps) (inr h) = rw (has_any p ps h) (or_true (is_at (nat_cmp p) q))
  where
    or_true : (b : Bool) → (b || true) ≡ true
    or_true true = refl
    or_true false = refl

later : (n : ℕ) (ps : List ℕ) → Ascends n ps → (p : ℕ) → Has ps p → n ≤ p
later n [] up p h = absurd h
later n (q ∷ ps) up p (inl e) = let low = up.0 in omega (arith, e, low)
later n (q ∷ ps) up p (inr h) = let low = up.0 in let rest = later (suc q) ps up.1 p h in omega (arith, low, rest)

none_picked : (vs : List Version) (ps : List ℕ) → ((p : ℕ) → Has ps p → slice_get vs p ≡ None) → picked vs ps ≡ []
none_picked vs [] h = refl
none_picked vs (p ∷ ps) h = rw (h p (inl refl)) (none_picked vs ps (λ q g. h q (inr g)))

module _ (all : List Version) where
  -- From the place n on the rest stands. What passes is at one of the places.
  pick_passing : (f : Version → Bool) (rest : List Version) (n : ℕ) (ps : List ℕ) → ((i : ℕ) → slice_get all (n + i) ≡ slice_get rest i) → Ascends n ps →
      ((i : ℕ) (v : Version) → slice_get rest i ≡ Some v → f v ≡ true → Has ps (n + i)) → filter f (picked all ps) ≡ filter f rest
  pick_passing f [] n ps at up each = ap (filter f) (none_picked all ps (λ p h.
      let low = later n ps up p h in
      let far : p ≡ n + (p - n) = omega (arith, low) in
      ap (slice_get all) far ∙ at (p - n)))
  pick_passing f (v ∷ rest) n [] at up each = elim (cases_Bool (f v)) [
    | inl y ↦ absurd (each 0 v refl y)
    | inr other ↦ rw other (pick_passing f rest (suc n) [] (λ i. ap (slice_get all) (omega arith) ∙ at (suc i)) tt (λ i w here y. each (suc i) w here y))
  ]
  pick_passing f (v ∷ rest) n (p ∷ ps) at up each = elim (cases_lt n p) [
    | inl before ↦
        let up' : Ascends (suc n) (p ∷ ps) = (omega (arith, before), up.1) in
        let on = pick_passing f rest (suc n) (p ∷ ps) (λ i. ap (slice_get all) (omega arith) ∙ at (suc i)) up' (λ i w here y. subst (Has (p ∷ ps)) (omega arith) (each (suc i) w here y)) in
        elim (cases_Bool (f v)) [
          | inl y ↦ absurd (let low = later (suc n) (p ∷ ps) up' (n + 0) (each 0 v refl y) in omega (arith, low))
          | inr other ↦ rw other on
        ]
    | inr not ↦
        let low = up.0 in
        let same : p ≡ n + 0 = omega (arith, not, low) in
        let here : slice_get all p ≡ Some v = ap (slice_get all) same ∙ at 0 in
        let up' : Ascends (suc n) ps = subst (λ m. Ascends m ps) (omega (arith, same)) up.1 in
        let on = pick_passing f rest (suc n) ps (λ i. ap (slice_get all) (omega arith) ∙ at (suc i)) up' (λ i w there y. elim (each (suc i) w there y) [
          | inl e ↦ absurd (omega (arith, e, same))
          | inr h ↦ subst (Has ps) (omega arith) h
        ]) in
        rw here (ap (λ more. cond (f v) (v ∷ more) more) on)
  ]

  -- each of the places has one that passes
  pick_few : (g : Version → Bool) (rest : List Version) (n : ℕ) (ps : List ℕ) → ((i : ℕ) → slice_get all (n + i) ≡ slice_get rest i) → Ascends n ps →
      ((p : ℕ) → Has ps p → is_there g all p ≡ true) → length ps ≤ length (filter g rest)
  pick_few g rest n [] at up each = omega arith
  pick_few g [] n (p ∷ ps) at up each =
      let low = up.0 in
      let far : p ≡ n + (p - n) = omega (arith, low) in
      let none : slice_get all p ≡ None = ap (slice_get all) far ∙ at (p - n) in
      let no : false ≡ true = sym (ap (λ o. option_map_or g o false) none) ∙ each p (inl refl) in cc
  pick_few g (v ∷ rest) n (p ∷ ps) at up each = elim (cases_lt n p) [
    | inl before ↦
        let on = pick_few g rest (suc n) (p ∷ ps) (λ i. ap (slice_get all) (omega arith) ∙ at (suc i)) (omega (arith, before), up.1) each in
        elim (cases_Bool (g v)) [ inl y ↦ rw y (omega (arith, on)) | inr other ↦ rw other on ]
    | inr not ↦
        let low = up.0 in
        let same : p ≡ n + 0 = omega (arith, not, low) in
        let here : slice_get all p ≡ Some v = ap (slice_get all) same ∙ at 0 in
        let passes : g v ≡ true = sym (ap (λ o. option_map_or g o false) here) ∙ each p (inl refl) in
        let up' : Ascends (suc n) ps = subst (λ m. Ascends m ps) (omega (arith, same)) up.1 in
        let on = pick_few g rest (suc n) ps (λ i. ap (slice_get all) (omega arith) ∙ at (suc i)) up' (λ q h. each q (inr h)) in
        rw passes (omega (arith, on))
  ]

-- ---- near a day

near_of : (reach start day : ℕ) (v : Version) → is_reached reach start v ≡ true → start ≤ day → day < start + reach → nearly_has day v ≡ true
near_of reach start day v reached up far =
    let one = and_parts (v.row.period.start == start && nat_le v.row.period.end (start + reach)) (nat_le (start + start + reach) (v.row.period.end + v.row.period.end)) reached in
    let two = and_parts (v.row.period.start == start) (nat_le v.row.period.end (start + reach)) one.0 in
    let same : v.row.period.start ≡ start = eqb-true v.row.period.start start two.0 in
    let short = one.1 in
    let up' : nat_le v.row.period.start day ≡ true = grind (arith, same, up) in
    let far' : nat_lt (v.row.period.start + day) (v.row.period.end + v.row.period.end) ≡ true = grind (arith, same, short, far) in
    rw (up', far') refl

covers : (reach start day : ℕ) (v : Version) → is_reached reach start v ≡ true → has_day day v ≡ true → (start ≤ day) × (day < start + reach) × (v.row.period.start ≡ start)
covers reach start day v reached has =
    let one = and_parts (v.row.period.start == start && nat_le v.row.period.end (start + reach)) (nat_le (start + start + reach) (v.row.period.end + v.row.period.end)) reached in
    let two = and_parts (v.row.period.start == start) (nat_le v.row.period.end (start + reach)) one.0 in
    let same : v.row.period.start ≡ start = eqb-true v.row.period.start start two.0 in
    let days = and_parts (nat_le v.row.period.start day) (nat_lt day v.row.period.end) has in
    let from = days.0 in
    let to = days.1 in
    let long = two.1 in
    (grind (arith, same, from), grind (arith, same, to, long), same)

some_at : (g : Version → Bool) (vs : List Version) (p : ℕ) → is_there g vs p ≡ true → (v : Version) × (slice_get vs p ≡ Some v) × (g v ≡ true)
some_at g [] p h = let no : false ≡ true = h in cc
some_at g (v ∷ vs) zero h = (v, refl, h)
some_at g (v ∷ vs) (suc p) h = some_at g vs p h

module _ (places : BTreeSet Reached) (vs : List Version) (reached : AreReached places vs) (day : ℕ) (ps : BTreeSet ℕ) (sorted : IsOrdered nat_cmp ps)
    (only : (p : ℕ) → contains nat_cmp ps p ≡ true → (reach : ℕ) × (start : ℕ) × (contains reached_cmp places (reach, (start, p)) ≡ true) × (start ≤ day) × (day < start + reach))
    (each : (reach start p : ℕ) → contains reached_cmp places (reach, (start, p)) ≡ true → start ≤ day → day < start + reach → contains nat_cmp ps p ≡ true) where
  up : Ascends 0 ps.keys
  up = ascends 0 ps.keys (from_zero ps.keys) sorted
    where
      from_zero : (qs : List ℕ) → AllByRecursion (λ q. 0 ≤ q) qs
      from_zero [] = tt
      from_zero (q ∷ qs) = (omega arith, from_zero qs)

  pub all_near : filter (has_day day) (picked vs ps.keys) ≡ filter (has_day day) vs
  all_near = pick_passing vs (has_day day) vs 0 ps.keys (λ i. ap (slice_get vs) (omega arith)) up (λ p v at has.
      let found = reached.each p v at in
      let fits = passes_there (is_reached found.0 v.row.period.start) vs p v at (reached.only found.0 v.row.period.start p found.1) in
      let c = covers found.0 v.row.period.start day v fits has in
      subst (Has ps.keys) (omega arith) (any_has p ps.keys (each found.0 v.row.period.start p found.1 c.0 c.1)))

  near_there : (p : ℕ) → Has ps.keys p → is_there (nearly_has day) vs p ≡ true
  near_there p has =
      let o = only p (has_any p ps.keys has) in
      let there = some_at (is_reached o.0 o.1) vs p (reached.only o.0 o.1 p o.2) in
      ap (λ x. option_map_or (nearly_has day) x false) there.1 ∙ near_of o.0 o.1 day there.0 there.2 o.3 o.4

  pub few_near : length ps.keys ≤ length (filter (nearly_has day) vs)
  few_near = pick_few vs (nearly_has day) vs 0 ps.keys (λ i. ap (slice_get vs) (omega arith)) up near_there

  pub all_within : (p : ℕ) → Has ps.keys p → p < length vs
  all_within p has = some_there (nearly_has day) vs p (near_there p has)

-- ---- one more is read

pub picked_next : (vs : List Version) (p : ℕ) (ps : List ℕ) (v : Version) (found all : List Version) → slice_get vs p ≡ Some v → found ++ picked vs (p ∷ ps) ≡ all → (found ++ v ∷ []) ++ picked vs ps ≡ all
picked_next vs p ps v found all at h = append_assoc found (v ∷ []) (picked vs ps) ∙ ap (λ o. found ++ pick o (picked vs ps)) (sym at) ∙ h
