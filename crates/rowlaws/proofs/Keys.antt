-- The order of keys is total, and tells keys apart.
use Rattle.std.proofs.Common.{◌≡◌, ℕ, ℤ, pos, inl, inr, true, List, [], ◌∷◌, map, refl, sym, ap, ◌∙◌, subst, Ordering}
use Rattle.std.specs.declared.cmp.Ordering.TheVariants.{Less, Equal, Greater}
use Rattle.std.specs.List.{AllByRecursion}
use Rattle.std.specs.List.Sorted.{IsStrictlySortedBy}
use Rattle.std.specs.Ordering.{is_eq, int_cmp, ordering_reverse}
use Rattle.std.specs.Cmp.{IsTotalOrder, int_cmp_total, on_total, signed_Decides}
use Rattle.std.specs.Cmp.Lexicographic.{slice_cmp, lists_total}
use Rattle.model.specs.declared.value.Value.{Value}
use Rattle.model.specs.declared.value.Value.TheVariants.{Number, Text, Day}
use Rattle.model.specs.Values.{value_code, value_cmp, key_cmp, same_key}
use Rattle.model.specs.Statements.{with_key}
use Rattle.rowlaws.specs.Rows.{Has, Apart}
use Rattle.rowlaws.proofs.Orders.{then_equal}

pub key_total : IsTotalOrder key_cmp
unfolding key_cmp
key_total = lists_total (on_total value_code (lists_total int_cmp_total))

-- ---- equal keys

same_lists : {K : Type 0} (R : K → K → Ordering) → ((x y : K) → R x y ≡ Equal → x ≡ y) → (xs ys : List K) → slice_cmp R xs ys ≡ Equal → xs ≡ ys
same_lists R same [] [] h = refl
same_lists R same [] (y ∷ ys) h = cc
same_lists R same (x ∷ xs) [] h = cc
same_lists R same (x ∷ xs) (y ∷ ys) h =
    let parts = then_equal (R x y) (slice_cmp R xs ys) h in
    let e = same x y parts.0 in
    let r = same_lists R same xs ys parts.1 in
    λ i. e i ∷ r i

alike : {K : Type 0} (R : K → K → Ordering) → ((x : K) → R x x ≡ Equal) → (xs : List K) → slice_cmp R xs xs ≡ Equal
alike R same [] = refl
alike R same (x ∷ xs) = rw (same x) (alike R same xs)

map_pos : (s t : List ℕ) → map pos s ≡ map pos t → s ≡ t
map_pos [] [] h = refl
map_pos [] (y ∷ t) h = cc
map_pos (x ∷ s) [] h = cc
map_pos (x ∷ s) (y ∷ t) h =
    let e : x ≡ y = cc in
    let r = map_pos s t (cc) in
    λ i. e i ∷ r i

one_code : (v w : Value) → value_code v ≡ value_code w → v ≡ w
one_code (Number m) (Number n) h = let e : m ≡ n = cc in ap Number e
one_code (Number m) (Text t) h = cc
one_code (Number m) (Day e) h = cc
one_code (Text s) (Number n) h = cc
one_code (Text s) (Text t) h = let e : map pos s ≡ map pos t = cc in ap Text (map_pos s t e)
one_code (Text s) (Day e) h = cc
one_code (Day d) (Number n) h = cc
one_code (Day d) (Text t) h = cc
one_code (Day d) (Day e) h = let g : d ≡ e = cc in ap Day g

equal_true : (o : Ordering) → is_eq o ≡ true → o ≡ Equal
equal_true Less h = cc
equal_true Equal h = refl
equal_true Greater h = cc

int_same : (m n : ℤ) → int_cmp m n ≡ Equal → m ≡ n
int_same m n h = (signed_Decides m n).0 (ap is_eq h)

int_alike : (m : ℤ) → int_cmp m m ≡ Equal
int_alike m = equal_true (int_cmp m m) ((signed_Decides m m).1 refl)

pub key_same : (k l : List Value) → key_cmp k l ≡ Equal → k ≡ l
unfolding key_cmp
key_same k l h = same_lists value_cmp (λ v w e. one_code v w (same_lists int_cmp int_same (value_code v) (value_code w) e)) k l h

pub same_key-true : (k l : List Value) → same_key k l ≡ true → k ≡ l
unfolding same_key
same_key-true k l h = key_same k l (equal_true (key_cmp k l) h)

pub key_itself : (k : List Value) → key_cmp k k ≡ Equal
unfolding key_cmp
key_itself k = alike value_cmp (λ v. alike int_cmp int_alike (value_code v)) k

pub same_key-itself : (k : List Value) → same_key k k ≡ true
unfolding same_key
same_key-itself k = ap is_eq (key_itself k)

-- ---- one more key

-- k before l and the keys after it, or in its place, or after it
abbrev placed : Ordering → List Value → List Value → List (List Value) → List (List Value) → List (List Value)
placed o k l ls more = elim (o) [ Less ↦ k ∷ l ∷ ls | Equal ↦ l ∷ ls | Greater ↦ l ∷ more ]

has_placed : (o : Ordering) (k l : List Value) (ls more : List (List Value)) → (o ≡ Equal → k ≡ l) → Has more k → Has (placed o k l ls more) k
has_placed Less k l ls more e h = inl refl
has_placed Equal k l ls more e h = inl (e refl)
has_placed Greater k l ls more e h = inr h

keeps_placed : (o : Ordering) (k l : List Value) (ls more : List (List Value)) (m : List Value) → (Has ls m → Has more m) → Has (l ∷ ls) m → Has (placed o k l ls more) m
keeps_placed Less k l ls more m f h = inr h
keeps_placed Equal k l ls more m f h = h
keeps_placed Greater k l ls more m f (inl e) = inl e
keeps_placed Greater k l ls more m f (inr h) = inr (f h)

pub has_key : (k : List Value) (ks : List (List Value)) → Has (with_key k ks) k
has_key k [] = inl refl
has_key k (l ∷ ks) = has_placed (key_cmp k l) k l ks (with_key k ks) (key_same k l) (has_key k ks)

pub has_keys : (k : List Value) (ks : List (List Value)) (m : List Value) → Has ks m → Has (with_key k ks) m
has_keys k [] m h = absurd h
has_keys k (l ∷ ks) m h = keeps_placed (key_cmp k l) k l ks (with_key k ks) m (has_keys k ks m) h

abbrev After : List Value → List (List Value) → Type 0
After x ks = AllByRecursion (λ y. key_cmp x y ≡ Less) ks

after_less : (x k : List Value) (ks : List (List Value)) → key_cmp x k ≡ Less → After k ks → After x ks
after_less x k [] h a = a
after_less x k (l ∷ ks) h a = (key_total.trans x k l h a.0, after_less x k ks h a.1)

after_placed : (o : Ordering) (x k l : List Value) (ls more : List (List Value)) → key_cmp x k ≡ Less → After x more → After x (l ∷ ls) → After x (placed o k l ls more)
after_placed Less x k l ls more h m a = (h, a)
after_placed Equal x k l ls more h m a = a
after_placed Greater x k l ls more h m a = (a.0, m)

after_with_key : (x k : List Value) (ks : List (List Value)) → key_cmp x k ≡ Less → After x ks → After x (with_key k ks)
after_with_key x k [] h a = (h, a)
after_with_key x k (l ∷ ks) h a = after_placed (key_cmp k l) x k l ks (with_key k ks) h (after_with_key x k ks h a.1) a

sorted_placed : (o : Ordering) (k l : List Value) (ls more : List (List Value)) → key_cmp k l ≡ o → (key_cmp l k ≡ Less → After l more) → IsStrictlySortedBy key_cmp more → IsStrictlySortedBy key_cmp (l ∷ ls) → IsStrictlySortedBy key_cmp (placed o k l ls more)
unfolding IsStrictlySortedBy
sorted_placed Less k l ls more e a m s = ((e, after_less k l ls e s.0), s)
sorted_placed Equal k l ls more e a m s = s
sorted_placed Greater k l ls more e a m s = (a (key_total.antisymm l k ∙ ap ordering_reverse e), m)

pub sorted_with_key : (k : List Value) (ks : List (List Value)) → IsStrictlySortedBy key_cmp ks → IsStrictlySortedBy key_cmp (with_key k ks)
unfolding IsStrictlySortedBy
sorted_with_key k [] s = (tt, tt)
sorted_with_key k (l ∷ ks) s = sorted_placed (key_cmp k l) k l ks (with_key k ks) refl (λ h. after_with_key l k ks h s.0) (sorted_with_key k ks s.1) s

less_apart : (k : List Value) (ks : List (List Value)) → After k ks → Has ks k → ⊥
less_apart k [] a h = h
less_apart k (l ∷ ks) a (inl e) = let b : key_cmp k l ≡ Equal = subst (λ m. key_cmp k m ≡ Equal) e (key_itself k) in let c : Less ≡ Equal = sym a.0 ∙ b in cc
less_apart k (l ∷ ks) a (inr h) = less_apart k ks a.1 h

pub apart_from_sorted : (ks : List (List Value)) → IsStrictlySortedBy key_cmp ks → Apart ks
unfolding IsStrictlySortedBy
apart_from_sorted [] s = tt
apart_from_sorted (k ∷ ks) s = (less_apart k ks s.0, apart_from_sorted ks s.1)
