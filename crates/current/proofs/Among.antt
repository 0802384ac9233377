-- Rows among others.
use Rattle.std.proofs.Common.{◌≡◌, ℕ, zero, suc, ◌<◌, ◌≤◌, ◌||◌, ◌==◌, ◌++◌, arith, Bool, true, false, not, List, [], ◌∷◌, map, filter, drop, length, get_or, refl, sym, ap, ◌∙◌, inl, inr, Result, Ok, Err, Ordering, ltb, ltb-true, ltb-false}
use Rattle.std.specs.declared.cmp.Ordering.TheVariants.{Less, Equal, Greater}
use Rattle.std.proofs.lemmas.Bool.{cases_Bool, eqb-true}
use Rattle.std.proofs.lemmas.List.{append-nil}
use Rattle.std.proofs.lemmas.List.Sorted.{list_any-IsPermutation, searchable_from_sorted}
use Rattle.std.specs.Vec.{vec_len}
use Rattle.std.specs.declared.alloc.Global.{Global}
use Rattle.std.specs.declared.vec.Vec.{Vec}
use Rattle.std.specs.List.{list_any}
use Rattle.std.specs.List.Sorted.{IsPermutation, IsSearchInRange, IsBinarySearchResult}
use Rattle.std.specs.Option.{is_some}
use Rattle.std.specs.Ordering.{is_eq}
use Rattle.std.specs.Result.{result_ok}
use Rattle.model.specs.Tables.{Row}
use Rattle.rowlaws.specs.Touching.{same_row, rows_without}
use Rattle.rowlaws.specs.Rows.{Has}
use Rattle.rowlaws.proofs.Anys.{any_map, has_any}
use Rattle.rowlaws.proofs.RowFacts.{both}
use Rattle.current.specs.declared.row.Row.{Row as Declared}
use Rattle.current.specs.Rows.{row_of}
use Rattle.current.specs.RowOrder.{row_order, row_order_total, is_same, is_same_equiv, is_same-ties, is_among, AreInOrder}
use Rattle.current.proofs.Lists.{drop_none, no_items}
use denote.Ref.{Bor}

map_of_filter : {A B : Type 0} (f : A → B) (p : B → Bool) (xs : List A) → map f (filter (λ x. p (f x)) xs) ≡ filter p (map f xs)
map_of_filter f p [] = refl
map_of_filter f p (x ∷ xs) = elim (cases_Bool (p (f x))) [
  | inl y ↦ rw y (ap (λ ys. f x ∷ ys) (map_of_filter f p xs))
  | inr n ↦ rw n (map_of_filter f p xs)
]

-- the rows that are not among others
pub list_without : (rows others : List Declared) → map row_of (filter (λ r. not (list_any (is_same r) others)) rows) ≡ rows_without (map row_of rows) (map row_of others)
unfolding rows_without
list_without rows others =
    let test : Row → Bool = λ r. not (list_any (same_row r) (map row_of others)) in
    let same : (λ (r : Declared). not (list_any (is_same r) others)) ≡ (λ r. test (row_of r)) = λ i r. not (sym (any_map (same_row (row_of r)) row_of others) i) in
    ap (λ p. map row_of (filter p rows)) same ∙ map_of_filter row_of test rows

-- the same by those of the others that are among the rows
any_filtered : (f p : Declared → Bool) (xs : List Declared) → ((x : Declared) → f x ≡ true → p x ≡ true) → list_any f (filter p xs) ≡ list_any f xs
any_filtered f p [] h = refl
any_filtered f p (x ∷ xs) h = elim (cases_Bool (p x)) [
  | inl y ↦ rw y (ap (λ b. f x || b) (any_filtered f p xs h))
  | inr n ↦ elim (cases_Bool (f x)) [ inl t ↦ absurd (both (h x t) n) | inr e ↦ rw (n, e) (any_filtered f p xs h) ]
]

filter_alike : (p q : Declared → Bool) (xs : List Declared) → ((x : Declared) → Has xs x → p x ≡ q x) → filter p xs ≡ filter q xs
filter_alike p q [] h = refl
filter_alike p q (x ∷ xs) h = rw (h x (inl refl), filter_alike p q xs (λ y i. h y (inr i))) refl

pub common_left_out : (rows others : List Declared)
    → map row_of (filter (λ r. not (list_any (is_same r) (filter (λ o. list_any (is_same o) rows) others))) rows) ≡ rows_without (map row_of rows) (map row_of others)
common_left_out rows others =
    ap (map row_of) (filter_alike (λ r. not (list_any (is_same r) (filter (λ o. list_any (is_same o) rows) others))) (λ r. not (list_any (is_same r) others)) rows
    (λ r has. ap not (any_filtered (is_same r) (λ o. list_any (is_same o) rows) others (λ l e. has_any (is_same l) rows r has (is_same_equiv.symm l r ∙ e)))))
    ∙ list_without rows others

-- ---- rows as the code lends them

any_at : {X : Type 0} (f : X → Bool) (xs : List X) (i : ℕ) → i < length xs → ((d : X) → f (get_or xs i d) ≡ true) → list_any f xs ≡ true
any_at f [] i l h = absurd (omega arith)
any_at f (x ∷ xs) zero l h = rw (h x) refl
any_at {X} f (x ∷ xs) (suc i) l h = ap (λ b. f x || b) (any_at f xs i (omega arith) h) ∙ or_true (f x)
  where
    or_true : (b : Bool) → (b || true) ≡ true
    or_true true = refl
    or_true false = refl

any_none : {X : Type 0} (f : X → Bool) (xs : List X) → ((i : ℕ) (d : X) → i < length xs → f (get_or xs i d) ≡ false) → list_any f xs ≡ false
any_none f [] h = refl
any_none f (x ∷ xs) h = rw (h 0 x (omega arith)) (any_none f xs (λ i d l. h (suc i) d (omega arith)))

same_when : (a b : Declared) (o : Ordering) → row_order b a ≡ o → is_same a b ≡ is_eq o
same_when a b o h = is_same_equiv.symm a b ∙ is_same-ties b a ∙ ap is_eq h

-- where a search by halves comes to among rows in order
pub search_finds : (rows : List (Bor Declared)) → AreInOrder rows → (row : Declared) (r : Result ℕ ℕ) → IsSearchInRange r (length rows) → IsBinarySearchResult (λ other. row_order other.now row) rows r
    → is_some (result_ok r) ≡ is_among rows row
search_finds rows up row (Ok i) bound h = sym (any_at (λ other. is_same row other.now) rows i bound (λ d. same_when row (get_or rows i d).now Equal (h d)))
search_finds rows up row (Err i) bound h =
    let parted = h (searchable_from_sorted row_order_total (λ other. other.now) rows row up) in
    sym (any_none (λ other. is_same row other.now) rows (λ k d l. elim (cases_Bool (ltb k i)) [
      | inl below ↦ same_when row (get_or rows k d).now Less (parted.0 k d (omega arith) (ltb-true k i below))
      | inr from ↦ same_when row (get_or rows k d).now Greater (parted.1 k d (ltb-false k i from) l)
    ]))

-- a walk's rows, sorted
pub sorted_are : (walked sorted : List (Bor Declared)) (rows : List Declared) (i : ℕ) → length rows ≤ i → map (λ r. r.now) walked ++ drop i rows ≡ rows → IsPermutation walked sorted
    → (row : Declared) → is_among sorted row ≡ list_any (is_same row) rows
sorted_are walked sorted rows i l h moved row =
    sym (list_any-IsPermutation (λ other. is_same row other.now) walked sorted moved)
    ∙ sym (any_map (is_same row) (λ (r : Bor Declared). r.now) walked)
    ∙ ap (list_any (is_same row)) (sym (append-nil (map (λ r. r.now) walked)) ∙ ap (λ ys. map (λ r. r.now) walked ++ ys) (sym (drop_none rows i l)) ∙ h)

-- nothing is left out
all_left : (rows : List Row) → rows ≡ rows_without rows []
unfolding rows_without
all_left [] = refl
all_left (r ∷ rows) = ap (λ more. r ∷ more) (all_left rows)

pub without_none : (rows others : List Row) → others ≡ [] → rows ≡ rows_without rows others
without_none rows others e = all_left rows ∙ ap (rows_without rows) (sym e)

pub none_without : (rows others : List Row) → rows ≡ [] → rows ≡ rows_without rows others
unfolding rows_without
none_without rows others e = rw e refl

pub empty_is : (v : Vec Declared Global) (b : Bool) → b ≡ (vec_len v == 0) → b ≡ true → map row_of v.items ≡ []
empty_is v b is e = let none : vec_len v ≡ 0 = eqb-true (vec_len v) 0 (sym is ∙ e) in ap (map row_of) (no_items v.items (omega (arith, none, v.ok.0)))
