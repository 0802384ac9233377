-- Versions of a key by their reach and start, and the set of where they stand.
use Rattle.std.proofs.Common.{◌≡◌, ℕ, zero, suc, ◌+◌, ◌<◌, ◌≤◌, ◌==◌, Bool, true, false, ◌&&◌, ◌||◌, ◌⊎◌, cond, List, [], ◌∷◌, ◌++◌, map, filter, length, Some, refl, sym, ap, ◌∙◌, subst, inl, inr, arith}
use Rattle.std.specs.Prelude.{slice_get, nat_le}
use Rattle.std.specs.List.{list_any}
use Rattle.std.specs.declared.cmp.Ordering.{Ordering}
use Rattle.std.specs.declared.cmp.Ordering.TheVariants.{Less, Equal, Greater}
use Rattle.std.specs.BTreeMap.{is_at}
use Rattle.std.specs.BTreeSet.{BTreeSet, contains, UpdatesBy}
use Rattle.std.specs.Cmp.{IsTotalOrder, Equal-is, nat_cmp_total, on_total, then_total, tied_itself, ranks}
use Rattle.std.specs.Ordering.{is_eq, is_gt, is_lt, nat_cmp, ordering_then, ordering_reverse, MatchOrdering}
use Rattle.std.proofs.lemmas.Bool.{cases_Bool, eq-eqb}
use Rattle.std.proofs.lemmas.Map.Lookups.{CmpEqualImpliesEq, exact_pairs, exact_unsigned}
use Rattle.versionlaws.specs.Versions.{Version}
use Rattle.versionlaws.specs.Committing.{opened}
use Rattle.model.specs.Tables.{Row}
use Rattle.sysversion.specs.Open.{is_open_from, ended_from, place_cmp}
use Rattle.sysversion.specs.Days.{Reached, reached_cmp, is_reached, AreReached}
use Rattle.sysversion.proofs.Open.{place_total, exact, starts_at_most, is_there, there_more, there_last, some_there}

abbrev Places : Type 0
Places = BTreeSet Reached

-- ---- the order

reached_total : IsTotalOrder reached_cmp
reached_total = then_total (on_total (λ (p : Reached). p.0) nat_cmp_total) (on_total (λ (p : Reached). p.1) place_total)

reached_exact : CmpEqualImpliesEq reached_cmp
reached_exact = exact_pairs nat_cmp place_cmp exact_unsigned exact

-- between two that begin with a, each begins with it
within : (a b : ℕ) (r o p : Ordering) → MatchOrdering r (a < b) (a ≡ b) (b < a) → is_gt (ordering_then r o) ≡ false → (ordering_then r p ≡ Less → ⊥) → (a ≡ b) × (is_gt o ≡ false) × (p ≡ Less → ⊥)
within a b Less o p m g h = absurd (h refl)
within a b Equal o p m g h = (m, g, h)
within a b Greater o p m g h = let no : true ≡ false = g in cc

no_later : (a b : ℕ) (r o : Ordering) → MatchOrdering r (a < b) (a ≡ b) (b < a) → (ordering_then r o ≡ Less → ⊥) → b ≤ a
no_later a b Less o m h = absurd (h refl)
no_later a b Equal o m h = omega (arith, m)
no_later a b Greater o m h = omega (arith, m)

-- what lies from e up to a last one of the same reach has that reach, and starts in between
pub between : (reach start place last end : ℕ) (q : Reached) → is_gt (reached_cmp (reach, (start, place)) q) ≡ false → (reached_cmp (reach, (last, end)) q ≡ Less → ⊥) → (reach ≡ q.0) × (start ≤ q.1.0) × (q.1.0 ≤ last)
between reach start place last end q from up =
    let w = within reach q.0 (nat_cmp reach q.0) (place_cmp (start, place) q.1) (place_cmp (last, end) q.1) (ranks reach q.0) from up in
    (w.0, starts_at_most (start, place) q.1 w.1, no_later last q.1.0 (nat_cmp last q.1.0) (nat_cmp end q.1.1) (ranks last q.1.0) w.2)

tie : (r : Ordering) → is_gt r ≡ false → (r ≡ Less → ⊥) → r ≡ Equal
tie Less g h = absurd (h refl)
tie Equal g h = refl
tie Greater g h = let no : true ≡ false = g in cc

-- nothing else lies from e up to e
pub only_itself : (e q : Reached) → is_gt (reached_cmp e q) ≡ false → (reached_cmp e q ≡ Less → ⊥) → e ≡ q
only_itself e q from up = reached_exact e q (tie (reached_cmp e q) from up)

is_less : (r : Ordering) → (r ≡ Less) ⊎ (r ≡ Less → ⊥)
is_less Less = inl refl
is_less Equal = inr (λ h. cc)
is_less Greater = inr (λ h. cc)

-- one is after another or not
pub less_or_not : (p q : Reached) → (reached_cmp p q ≡ Less) ⊎ (reached_cmp p q ≡ Less → ⊥)
less_or_not p q = is_less (reached_cmp p q)

-- what is done up to one is done up to the next, where what lies in between is done
pub goes_on : (places : Places) (after e next : Reached) (day : ℕ) (P : ℕ → Type 0) →
    ((reach start place : ℕ) → contains reached_cmp places (reach, (start, place)) ≡ true → (reached_cmp after (reach, (start, place)) ≡ Less → ⊥) → start ≤ day → day < start + reach → P place) →
    ((q : Reached) → contains reached_cmp places q ≡ true → reached_cmp after q ≡ Less → is_gt (reached_cmp e q) ≡ false) →
    ((q : Reached) → is_gt (reached_cmp e q) ≡ false → (reached_cmp next q ≡ Less → ⊥) → q.1.0 ≤ day → day < q.1.0 + q.0 → P q.1.1) →
    (reach start place : ℕ) → contains reached_cmp places (reach, (start, place)) ≡ true → (reached_cmp next (reach, (start, place)) ≡ Less → ⊥) → start ≤ day → day < start + reach → P place
goes_on places after e next day P before first here reach start place has up from far = elim (less_or_not after (reach, (start, place))) [
  | inl later ↦ here (reach, (start, place)) (first (reach, (start, place)) has later) up from far
  | inr done ↦ before reach start place has done from far
]

-- ---- a search goes on

then_le : (a b : ℕ) (r o : Ordering) → MatchOrdering r (a < b) (a ≡ b) (b < a) → a ≤ b → is_gt o ≡ false → is_gt (ordering_then r o) ≡ false
then_le a b Less o m l g = refl
then_le a b Equal o m l g = g
then_le a b Greater o m l g = absurd (omega (arith, m, l))

le_itself : (a b : ℕ) (r : Ordering) → MatchOrdering r (a < b) (a ≡ b) (b < a) → a ≤ b → is_gt r ≡ false
le_itself a b Less m l = refl
le_itself a b Equal m l = refl
le_itself a b Greater m l = absurd (omega (arith, m, l))

pub reached_le : (reach start place last end : ℕ) → start ≤ last → place ≤ end → is_gt (reached_cmp (reach, (start, place)) (reach, (last, end))) ≡ false
reached_le reach start place last end s p =
    then_le reach reach (nat_cmp reach reach) (place_cmp (start, place) (last, end)) (ranks reach reach) (omega arith)
    (then_le start last (nat_cmp start last) (nat_cmp place end) (ranks start last) s (le_itself place end (nat_cmp place end) (ranks place end) p))

-- how many of the keys come after one
abbrev pub left : Reached → List Reached → ℕ
left after keys = length (filter (λ q. is_lt (reached_cmp after q)) keys)

less_is : (r : Ordering) → is_lt r ≡ true → r ≡ Less
less_is Less h = refl
less_is Equal h = let no : false ≡ true = h in cc
less_is Greater h = let no : false ≡ true = h in cc

not_back : (r s : Ordering) → r ≡ ordering_reverse s → is_gt s ≡ false → is_lt r ≡ false
not_back r Less e g = ap is_lt e
not_back r Equal e g = ap is_lt e
not_back r Greater e g = let no : true ≡ false = g in cc

on_after : (after e next q : Reached) (r : Ordering) → reached_cmp e next ≡ r → reached_cmp after e ≡ Less → is_gt r ≡ false → reached_cmp next q ≡ Less → reached_cmp after q ≡ Less
on_after after e next q Less is l g m = reached_total.trans after e q l (reached_total.trans e next q is m)
on_after after e next q Equal is l g m = reached_total.trans after e q l (reached_total.congr e next q is ∙ m)
on_after after e next q Greater is l g m = let no : true ≡ false = g in cc

fewer_or_same : (p q : Reached → Bool) (keys : List Reached) → ((k : Reached) → q k ≡ true → p k ≡ true) → length (filter q keys) ≤ length (filter p keys)
fewer_or_same p q [] h = omega arith
fewer_or_same p q (k ∷ keys) h =
    let rest = fewer_or_same p q keys h in
    elim (cases_Bool (q k)) [
      | inl y ↦ rw (y, h k y) (omega (arith, rest))
      | inr n ↦ elim (cases_Bool (p k)) [ inl y ↦ rw (n, y) (omega (arith, rest)) | inr m ↦ rw (n, m) rest ]
    ]

fewer : (p q : Reached → Bool) (e : Reached) (keys : List Reached) → ((k : Reached) → q k ≡ true → p k ≡ true) → p e ≡ true → q e ≡ false → list_any (is_at (reached_cmp e)) keys ≡ true → length (filter q keys) < length (filter p keys)
fewer p q e [] h y n has = let no : false ≡ true = has in cc
fewer p q e (k ∷ keys) h y n has = elim (cases_Bool (is_at (reached_cmp e) k)) [
  | inl here ↦
      let same : e ≡ k = reached_exact e k ((Equal-is (reached_cmp e k)).0 here) in
      let yes : p k ≡ true = ap p (sym same) ∙ y in
      let no : q k ≡ false = ap q (sym same) ∙ n in
      let rest = fewer_or_same p q keys h in
      rw (yes, no) (omega (arith, rest))
  | inr there ↦
      let rest = fewer p q e keys h y n (sym (ap (λ b. b || list_any (is_at (reached_cmp e)) keys) there) ∙ has) in
      elim (cases_Bool (q k)) [
        | inl so ↦ rw (so, h k so) (omega (arith, rest))
        | inr not ↦ elim (cases_Bool (p k)) [ inl so ↦ rw (not, so) (omega (arith, rest)) | inr neither ↦ rw (not, neither) rest ]
      ]
]

-- fewer are left after one that comes no earlier than what was found
pub fewer_left : (after e next : Reached) (places : Places) → contains reached_cmp places e ≡ true → reached_cmp after e ≡ Less → is_gt (reached_cmp e next) ≡ false → left next places.keys < left after places.keys
fewer_left after e next places has later le =
    fewer (λ q. is_lt (reached_cmp after q)) (λ q. is_lt (reached_cmp next q)) e places.keys
    (λ k l. ap is_lt (on_after after e next k (reached_cmp e next) refl later le (less_is (reached_cmp next k) l)))
    (ap is_lt later)
    (not_back (reached_cmp next e) (reached_cmp e next) (reached_total.antisymm next e) le)
    has

-- ---- one comes or goes

changed : (old new : Places) (k q : Reached) (b : Bool) → UpdatesBy reached_cmp (reached_cmp k) old new b → ((k ≡ q) × (contains reached_cmp new q ≡ b)) ⊎ ((k ≡ q → ⊥) × (contains reached_cmp new q ≡ contains reached_cmp old q))
changed old new k q b updates = elim (cases_Bool (is_at (reached_cmp k) q)) [
  | inl y ↦ inl (reached_exact k q ((Equal-is (reached_cmp k q)).0 y), updates.0 q ∙ ap (λ c. cond c b (contains reached_cmp old q)) y)
  | inr n ↦ inr (
    (λ same. let here : is_at (reached_cmp k) q ≡ true = subst (λ r. is_at (reached_cmp k) r ≡ true) same (ap is_eq (tied_itself reached_total k)) in let no : true ≡ false = sym here ∙ n in cc),
    updates.0 q ∙ ap (λ c. cond c b (contains reached_cmp old q)) n,
  )
]

get_more : (vs : List Version) (o : Version) (place : ℕ) (v : Version) → slice_get (vs ++ o ∷ []) place ≡ Some v → (slice_get vs place ≡ Some v) ⊎ ((place ≡ length vs) × (v ≡ o))
get_more [] o zero v e = let same : o ≡ v = cc in inr (refl, sym same)
get_more [] o (suc place) v e = cc
get_more (x ∷ vs) o zero v e = inl e
get_more (x ∷ vs) o (suc place) v e = elim (get_more vs o place v e) [
  | inl before ↦ inl before
  | inr last ↦ inr (ap suc last.0, last.1)
]

get_within : (vs : List Version) (place : ℕ) (v : Version) → slice_get vs place ≡ Some v → place < length vs
get_within [] place v e = cc
get_within (x ∷ vs) zero v e = omega arith
get_within (x ∷ vs) (suc place) v e = let l = get_within vs place v e in omega (arith, l)

reached_here : (reach : ℕ) (r : Row) → r.period.end ≤ r.period.start + reach → r.period.start + r.period.start + reach ≤ r.period.end + r.period.end → is_reached reach r.period.start (opened r) ≡ true
reached_here reach r covers short =
    let same : (r.period.start == r.period.start) ≡ true = eq-eqb r.period.start r.period.start refl in
    let far : nat_le r.period.end (r.period.start + reach) ≡ true = grind (arith, covers) in
    let near : nat_le (r.period.start + r.period.start + reach) (r.period.end + r.period.end) ≡ true = grind (arith, short) in
    rw (same, far, near) refl

pub reached_more : (old new : Places) (vs : List Version) (r : Row) (reach n : ℕ) → n ≡ length vs → r.period.end ≤ r.period.start + reach → r.period.start + r.period.start + reach ≤ r.period.end + r.period.end →
    UpdatesBy reached_cmp (reached_cmp (reach, (r.period.start, n))) old new true → AreReached old vs → AreReached new (vs ++ opened r ∷ [])
reached_more old new vs r reach n long covers short updates reached = record {
  only = λ q s p has. elim (changed old new (reach, (r.period.start, n)) (q, (s, p)) true updates) [
    | inl (same, has') ↦
        let here = reached_here reach r covers short in
        let last : is_there (is_reached reach r.period.start) (vs ++ opened r ∷ []) n ≡ true = subst (λ m. is_there (is_reached reach r.period.start) (vs ++ opened r ∷ []) m ≡ true) (sym long) (there_last (is_reached reach r.period.start) vs (opened r) ∙ here) in
        subst (λ (k : Reached). is_there (is_reached k.0 k.1.0) (vs ++ opened r ∷ []) k.1.1 ≡ true) same last
    | inr (other, was) ↦
        let there = reached.only q s p (sym was ∙ has) in
        let less = some_there (is_reached q s) vs p there in
        sym (there_more (is_reached q s) vs (opened r) p (λ e. absurd (omega (arith, less, e)))) ∙ there
  ];
  each = λ place v at. elim (get_more vs (opened r) place v at) [
    | inl before ↦
        let found = reached.each place v before in (
          found.0,
          elim (changed old new (reach, (r.period.start, n)) (found.0, (v.row.period.start, place)) true updates) [
            | inl (same, has) ↦ has
            | inr (other, was) ↦ was ∙ found.1
          ],
        )
    | inr last ↦
        let start : r.period.start ≡ v.row.period.start = ap (λ (w : Version). w.row.period.start) (sym last.1) in
        (reach, subst (λ (k : Reached). contains reached_cmp new k ≡ true) (λ i. (reach, (start i, (long ∙ sym last.0) i))) updates.1)
  ];
}

-- a place past the end comes and goes again
pub reached_back : (old mid new : Places) (vs : List Version) (reach s n : ℕ) → n ≡ length vs → UpdatesBy reached_cmp (reached_cmp (reach, (s, n))) old mid true → UpdatesBy reached_cmp (reached_cmp (reach, (s, n))) mid new false → AreReached old vs → AreReached new vs
reached_back old mid new vs reach s n long came went reached = record {
  only = λ q t p has. elim (changed mid new (reach, (s, n)) (q, (t, p)) false went) [
    | inl (same, gone) ↦ let no : true ≡ false = sym has ∙ gone in cc
    | inr (other, was) ↦ elim (changed old mid (reach, (s, n)) (q, (t, p)) true came) [
      | inl (same, here) ↦ absurd (other same)
      | inr (still, had) ↦ reached.only q t p (sym had ∙ sym was ∙ has)
    ]
  ];
  each = λ place v at.
      let found = reached.each place v at in
      let less = get_within vs place v at in
      let far : (reach, (s, n)) ≡ (found.0, (v.row.period.start, place)) → ⊥ = λ (same : (reach, (s, n)) ≡ (found.0, (v.row.period.start, place))). (let e : n ≡ place = ap (λ (k : Reached). k.1.1) same in absurd (omega (arith, e, less, long))) in (
        found.0,
        elim (changed mid new (reach, (s, n)) (found.0, (v.row.period.start, place)) false went) [
          | inl (same, gone) ↦ absurd (far same)
          | inr (other, was) ↦ was ∙ elim (changed old mid (reach, (s, n)) (found.0, (v.row.period.start, place)) true came) [
            | inl (same, here) ↦ here
            | inr (still, had) ↦ had ∙ found.1
          ]
        ],
      );
}

-- ---- versions end

row_kept : (b : Bool) (t : ℕ) (v : Version) → (cond b (record { row = v.row; end = Some t }) v).row ≡ v.row
row_kept true t v = refl
row_kept false t v = refl

there_ended : (t s reach start : ℕ) (vs : List Version) (p : ℕ) → is_there (is_reached reach start) (map (ended_from t s) vs) p ≡ is_there (is_reached reach start) vs p
there_ended t s reach start [] p = refl
there_ended t s reach start (v ∷ vs) zero = ap (λ (r : Row). r.period.start == start && nat_le r.period.end (start + reach) && nat_le (start + start + reach) (r.period.end + r.period.end)) (row_kept (is_open_from s v) t v)
there_ended t s reach start (v ∷ vs) (suc p) = there_ended t s reach start vs p

get_ended : (t s : ℕ) (vs : List Version) (p : ℕ) (w : Version) → slice_get (map (ended_from t s) vs) p ≡ Some w → (v : Version) × (slice_get vs p ≡ Some v) × (w.row ≡ v.row)
get_ended t s [] p w e = cc
get_ended t s (v ∷ vs) zero w e = let same : ended_from t s v ≡ w = cc in (v, refl, ap (λ (x : Version). x.row) (sym same) ∙ row_kept (is_open_from s v) t v)
get_ended t s (v ∷ vs) (suc p) w e = get_ended t s vs p w e

pub reached_ended : (places : Places) (t s : ℕ) (vs : List Version) → AreReached places vs → AreReached places (map (ended_from t s) vs)
reached_ended places t s vs reached = record {
  only = λ reach start p has. there_ended t s reach start vs p ∙ reached.only reach start p has;
  each = λ p w at.
      let v = get_ended t s vs p w at in
      let found = reached.each p v.0 v.1 in
      (found.0, subst (λ (r : Row). contains reached_cmp places (found.0, (r.period.start, p)) ≡ true) (sym v.2) found.1);
}

-- ---- a number comes into a set

pub number_in : (old new : BTreeSet ℕ) (n p : ℕ) → UpdatesBy nat_cmp (nat_cmp n) old new true → (n ≡ p) ⊎ (contains nat_cmp new p ≡ contains nat_cmp old p)
number_in old new n p updates = elim (cases_Bool (is_at (nat_cmp n) p)) [
  | inl y ↦ inl (exact_unsigned n p ((Equal-is (nat_cmp n p)).0 y))
  | inr m ↦ inr (updates.0 p ∙ ap (λ c. cond c true (contains nat_cmp old p)) m)
]
