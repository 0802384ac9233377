-- The open versions of a key, and the set of where they stand.
use Rattle.std.proofs.Common.{◌≡◌, Result, Ok, Err, ℕ, zero, suc, ◌+◌, ◌<◌, ◌≤◌, ◌==◌, Bool, true, false, ◌⊎◌, cond, List, [], ◌∷◌, ◌++◌, map, length, Some, is_none, refl, sym, ap, ◌∙◌, subst, inl, inr, arith}
use Rattle.std.specs.Prelude.{slice_get, slice_set}
use Rattle.std.specs.declared.cmp.Ordering.{Ordering}
use Rattle.std.specs.declared.cmp.Ordering.TheVariants.{Less, Equal, Greater}
use Rattle.std.specs.declared.ops.Bound.TheVariants.{Included, Unbounded}
use Rattle.std.specs.BTreeMap.{is_at}
use Rattle.std.specs.BTreeSet.{BTreeSet, contains, UpdatesBy, IsKeyRangeOf}
use Rattle.std.specs.Cmp.{IsTotalOrder, Equal-is, nat_cmp_total, on_total, then_total, tied_itself, ranks}
use Rattle.std.specs.Option.{option_map_or}
use Rattle.std.specs.Result.{OnOk, OnErr, is_err}
use Rattle.std.specs.Ordering.{is_eq, is_gt, nat_cmp, ordering_then, MatchOrdering}
use Rattle.std.proofs.lemmas.Bool.{cases_Bool, and_parts, eqb-true, eq-eqb}
use Rattle.std.proofs.lemmas.Map.Lookups.{CmpEqualImpliesEq, exact_pairs, exact_unsigned}
use Rattle.versionlaws.specs.Versions.{Version}
use Rattle.versionlaws.specs.Committing.{opened}
use Rattle.model.specs.Tables.{Row}
use Rattle.sysversion.specs.Open.{is_open_from, open_from, ended_from, place_cmp, AreIndexed}

abbrev Place : Type 0
Place = ℕ × ℕ

abbrev Places : Type 0
Places = BTreeSet Place

-- ---- the order of places

pub place_total : IsTotalOrder place_cmp
place_total = then_total (on_total (λ (p : Place). p.0) nat_cmp_total) (on_total (λ (p : Place). p.1) nat_cmp_total)

pub exact : CmpEqualImpliesEq place_cmp
exact = exact_pairs nat_cmp nat_cmp exact_unsigned exact_unsigned

pub at_most : (a b : ℕ) (r o : Ordering) → MatchOrdering r (a < b) (a ≡ b) (b < a) → is_gt (ordering_then r o) ≡ false → a ≤ b
at_most a b Less o m h = omega arith
at_most a b Equal o m h = omega arith
at_most a b Greater o m h = let no : true ≡ false = h in cc

pub starts_at_most : (a b : Place) → is_gt (place_cmp a b) ≡ false → a.0 ≤ b.0
starts_at_most a b h = at_most a.0 b.0 (nat_cmp a.0 b.0) (nat_cmp a.1 b.1) (ranks a.0 b.0) h

from_here : (s p : ℕ) (q r : Ordering) → MatchOrdering q (s < s) (s ≡ s) (s < s) → MatchOrdering r (0 < p) (0 ≡ p) (p < 0) → is_gt (ordering_then q r) ≡ false
from_here s p Less r m n = refl
from_here s p Equal Less m n = refl
from_here s p Equal Equal m n = refl
from_here s p Equal Greater m n = absurd (omega arith)
from_here s p Greater r m n = absurd (omega arith)

-- where the first from a start on has another start, none has this one
pub none_from : (places : Places) (start found place : ℕ) (rest : List Place) → IsKeyRangeOf place_cmp (Included (start, 0)) Unbounded places ((found, place) ∷ rest) → (found ≡ start → ⊥) → (p : ℕ) → contains place_cmp places (start, p) ≡ false
none_from places start found place rest range other p = elim (cases_Bool (contains place_cmp places (start, p))) [
  | inr n ↦ n
  | inl y ↦
      let inside : is_gt (place_cmp (start, 0) (start, p)) ≡ false = from_here start p (nat_cmp start start) (nat_cmp 0 p) (ranks start start) (ranks 0 p) in
      let least : is_gt (place_cmp (found, place) (start, p)) ≡ false = range.2 (start, p) (inside, tt) y in
      let after : start ≤ found = starts_at_most (start, 0) (found, place) range.1.0.0 in
      let before : found ≤ start = starts_at_most (found, place) (start, p) least in
      absurd (other (omega arith))
]

pub none_at_all : (places : Places) (start : ℕ) → IsKeyRangeOf place_cmp (Included (start, 0)) Unbounded places [] → (p : ℕ) → contains place_cmp places (start, p) ≡ false
none_at_all places start range p =
    let inside : is_gt (place_cmp (start, 0) (start, p)) ≡ false = from_here start p (nat_cmp start start) (nat_cmp 0 p) (ranks start start) (ranks 0 p) in
    range.5 refl (start, p) (inside, tt)

-- ---- one place comes or goes

-- a place is the one that changes, or the set has it as before
changed : (old new : Places) (k q : Place) (b : Bool) → UpdatesBy place_cmp (place_cmp k) old new b → ((k ≡ q) × (contains place_cmp new q ≡ b)) ⊎ ((k ≡ q → ⊥) × (contains place_cmp new q ≡ contains place_cmp old q))
changed old new k q b updates = elim (cases_Bool (is_at (place_cmp k) q)) [
  | inl y ↦ inl (exact k q ((Equal-is (place_cmp k q)).0 y), updates.0 q ∙ ap (λ c. cond c b (contains place_cmp old q)) y)
  | inr n ↦ inr (
    (λ same. let here : is_at (place_cmp k) q ≡ true = subst (λ r. is_at (place_cmp k) r ≡ true) same (ap is_eq (tied_itself place_total k)) in let no : true ≡ false = sym here ∙ n in cc),
    updates.0 q ∙ ap (λ c. cond c b (contains place_cmp old q)) n,
  )
]

-- ---- versions by their places

abbrev pub is_there : (Version → Bool) → List Version → ℕ → Bool
is_there f versions place = option_map_or f (slice_get versions place) false

pub there_more : (f : Version → Bool) (vs : List Version) (v : Version) (place : ℕ) → (place ≡ length vs → f v ≡ false) → is_there f vs place ≡ is_there f (vs ++ v ∷ []) place
there_more f [] v zero h = sym (h refl)
there_more f [] v (suc place) h = refl
there_more f (x ∷ vs) v zero h = refl
there_more f (x ∷ vs) v (suc place) h = there_more f vs v place (λ e. h (omega arith))

pub there_last : (f : Version → Bool) (vs : List Version) (v : Version) → is_there f (vs ++ v ∷ []) (length vs) ≡ f v
there_last f [] v = refl
there_last f (x ∷ vs) v = there_last f vs v

there_past : (f : Version → Bool) (vs : List Version) → is_there f vs (length vs) ≡ false
there_past f [] = refl
there_past f (x ∷ vs) = there_past f vs

there_set : (f : Version → Bool) (vs : List Version) (p place : ℕ) (v w : Version) → slice_get vs p ≡ Some v → (p ≡ place → f v ≡ f w) → is_there f vs place ≡ is_there f (slice_set vs p w) place
there_set f [] p place v w e h = refl
there_set f (x ∷ vs) zero zero v w e h = let same : x ≡ v = cc in ap f same ∙ h refl
there_set f (x ∷ vs) zero (suc place) v w e h = refl
there_set f (x ∷ vs) (suc p) zero v w e h = refl
there_set f (x ∷ vs) (suc p) (suc place) v w e h = there_set f vs p place v w e (λ same. h (ap suc same))

there_here : (f : Version → Bool) (vs : List Version) (p : ℕ) (v w : Version) → slice_get vs p ≡ Some v → is_there f (slice_set vs p w) p ≡ f w
there_here f [] p v w e = cc
there_here f (x ∷ vs) zero v w e = refl
there_here f (x ∷ vs) (suc p) v w e = there_here f vs p v w e

-- where a test passes at a place a version stands there
pub some_there : (f : Version → Bool) (vs : List Version) (p : ℕ) → is_there f vs p ≡ true → p < length vs
some_there f [] p h = let no : false ≡ true = h in cc
some_there f (x ∷ vs) zero h = omega arith
some_there f (x ∷ vs) (suc p) h = let less = some_there f vs p h in omega arith

pub passes_there : (f : Version → Bool) (vs : List Version) (p : ℕ) (v : Version) → slice_get vs p ≡ Some v → is_there f vs p ≡ true → f v ≡ true
passes_there f vs p v e h = sym (ap (λ o. option_map_or f o false) e) ∙ h

-- ---- a version opens

equal_starts : (p q : Place) → p ≡ q → (p.0 ≡ q.0) × (p.1 ≡ q.1)
equal_starts p q e = (ap (λ r. r.0) e, ap (λ r. r.1) e)

not_open : (start s : ℕ) (v : Version) → v.row.period.start ≡ s → (s ≡ start → ⊥) → is_open_from start v ≡ false
not_open start s v e other = elim (cases_Bool (is_open_from start v)) [
  | inr n ↦ n
  | inl y ↦ let parts = and_parts (is_none v.end) (v.row.period.start == start) y in absurd (other (sym e ∙ eqb-true v.row.period.start start parts.1))
]

pub indexed_more : (old new : Places) (vs : List Version) (r : Row) (n : ℕ) → n ≡ length vs → UpdatesBy place_cmp (place_cmp (r.period.start, n)) old new true → AreIndexed old vs → AreIndexed new (vs ++ opened r ∷ [])
indexed_more old new vs r n long updates indexed start place = elim (changed old new (r.period.start, n) (start, place) true updates) [
  | inl (same, has) ↦
      let parts = equal_starts (r.period.start, n) (start, place) same in
      let here : is_open_from start (opened r) ≡ true = subst (λ s. (r.period.start == s) ≡ true) parts.0 (eq-eqb r.period.start r.period.start refl) in
      let last : is_there (is_open_from start) (vs ++ opened r ∷ []) place ≡ true = subst (λ p. is_there (is_open_from start) (vs ++ opened r ∷ []) p ≡ true) (sym long ∙ parts.1) (there_last (is_open_from start) vs (opened r) ∙ here) in
      has ∙ sym last
  | inr (other, has) ↦
      has ∙ indexed start place ∙ there_more (is_open_from start) vs (opened r) place (λ e. not_open start r.period.start (opened r) refl (λ same. other (λ i. (same i, (long ∙ sym e) i))))
]

-- a place past the end comes and goes again
pub indexed_back : (old mid new : Places) (vs : List Version) (s n : ℕ) → n ≡ length vs → UpdatesBy place_cmp (place_cmp (s, n)) old mid true → UpdatesBy place_cmp (place_cmp (s, n)) mid new false → AreIndexed old vs → AreIndexed new vs
indexed_back old mid new vs s n long came went indexed start place = elim (changed mid new (s, n) (start, place) false went) [
  | inl (same, has) ↦
      let parts = equal_starts (s, n) (start, place) same in
      has ∙ sym (subst (λ p. is_there (is_open_from start) vs p ≡ false) (sym long ∙ parts.1) (there_past (is_open_from start) vs))
  | inr (other, has) ↦ has ∙ elim (changed old mid (s, n) (start, place) true came) [
    | inl (same, again) ↦ absurd (other same)
    | inr (still, had) ↦ had ∙ indexed start place
  ]
]

-- ---- a version ends

abbrev pub end_of : ℕ → Version → Version
end_of t v = record { row = v.row; end = Some t }

pub indexed_ended : (old new : Places) (vs : List Version) (s p t : ℕ) (v : Version) → slice_get vs p ≡ Some v → is_open_from s v ≡ true → UpdatesBy place_cmp (place_cmp (s, p)) old new false → AreIndexed old vs → AreIndexed new (slice_set vs p (end_of t v))
indexed_ended old new vs s p t v at so updates indexed start place = elim (changed old new (s, p) (start, place) false updates) [
  | inl (same, has) ↦
      let parts = equal_starts (s, p) (start, place) same in
      has ∙ sym (subst (λ q. is_there (is_open_from start) (slice_set vs p (end_of t v)) q ≡ false) parts.1 (there_here (is_open_from start) vs p v (end_of t v) at))
  | inr (other, has) ↦
      let parts = and_parts (is_none v.end) (v.row.period.start == s) so in
      let from : v.row.period.start ≡ s = eqb-true v.row.period.start s parts.1 in
      has ∙ indexed start place ∙ there_set (is_open_from start) vs p place v (end_of t v) at (λ e. not_open start s v from (λ same. other (λ i. (same i, e i))))
]

pub ended_same : (t s : ℕ) (vs : List Version) (p : ℕ) (v : Version) → slice_get vs p ≡ Some v → is_open_from s v ≡ true → map (ended_from t s) (slice_set vs p (end_of t v)) ≡ map (ended_from t s) vs
ended_same t s [] p v at so = refl
ended_same t s (x ∷ vs) zero v at so =
    let same : x ≡ v = cc in
    let ends : ended_from t s v ≡ end_of t v = ap (λ b. cond b (end_of t v) v) so in
    ap (λ w. w ∷ map (ended_from t s) vs) (sym ends ∙ ap (ended_from t s) (sym same))
ended_same t s (x ∷ vs) (suc p) v at so = ap (λ ws. ended_from t s x ∷ ws) (ended_same t s vs p v at so)

pub one_fewer : (t s : ℕ) (vs : List Version) (p : ℕ) (v : Version) → slice_get vs p ≡ Some v → is_open_from s v ≡ true → length (open_from s (slice_set vs p (end_of t v))) + 1 ≡ length (open_from s vs)
one_fewer t s [] p v at so = cc
one_fewer t s (x ∷ vs) zero v at so =
    let same : x ≡ v = cc in
    let here : is_open_from s x ≡ true = ap (is_open_from s) same ∙ so in
    rw here (omega arith)
one_fewer t s (x ∷ vs) (suc p) v at so =
    let rest = one_fewer t s vs p v at so in
    elim (cases_Bool (is_open_from s x)) [
      | inl y ↦ rw y (omega arith)
      | inr n ↦ rw n rest
    ]

pub none_ended : (t s : ℕ) (vs : List Version) → ((p : ℕ) → is_there (is_open_from s) vs p ≡ false) → map (ended_from t s) vs ≡ vs
none_ended t s [] h = refl
none_ended t s (x ∷ vs) h = λ i. cond (h 0 i) (end_of t x) x ∷ none_ended t s vs (λ p. h (suc p)) i

-- ---- the same of what is stored

pub get_mapped : {A B : Type 0} (f : A → B) (xs : List A) (p : ℕ) (x : A) → slice_get xs p ≡ Some x → slice_get (map f xs) p ≡ Some (f x)
get_mapped f [] p x e = cc
get_mapped f (y ∷ xs) zero x e = let same : y ≡ x = cc in ap (λ z. Some (f z)) same
get_mapped f (y ∷ xs) (suc p) x e = get_mapped f xs p x e

pub set_mapped : {A B : Type 0} (f : A → B) (xs : List A) (p : ℕ) (w : A) → map f (slice_set xs p w) ≡ slice_set (map f xs) p (f w)
set_mapped f [] p w = refl
set_mapped f (y ∷ xs) zero w = refl
set_mapped f (y ∷ xs) (suc p) w = ap (λ ys. f y ∷ ys) (set_mapped f xs p w)

-- ---- results

pub ok_of : {A E : Type 0} (r : Result A E) {P : Type 0} → is_err r ≡ false → OnOk r P → P
ok_of (Ok a) h ok = ok
ok_of (Err e) h ok = let no : true ≡ false = h in cc

pub err_of : {A E : Type 0} (r : Result A E) {P : Type 0} → is_err r ≡ true → OnErr r P → P
err_of (Ok a) h err = let no : false ≡ true = h in cc
err_of (Err e) h err = err
