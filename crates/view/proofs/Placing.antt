-- Items that are put into the list, one after another.
use Rattle.std.proofs.Common.{◌≡◌, ◌∙◌, ◌⊎◌, ℕ, zero, suc, ◌+◌, ◌<◌, Some, List, [], ◌∷◌, ◌++◌, length, take, drop, slice_get, get_or, refl, sym, ap, subst, inl, inr, ⊎_elim, add-one, arith}
use Rattle.boxcar.specs.Table.{Shelves, Where, Shows}
use Rattle.history.specs.declared.item.Item.{Item}
use Rattle.view.specs.declared.published.Shown.{Shown}
use Rattle.view.specs.Lists.{ArePlaced}

-- what comes after the first n of the first n + 1 items
listed_from : (items : List Item) (n : ℕ) (item : Item) → slice_get items n ≡ Some item → drop n (take (suc n) items) ≡ item ∷ []
listed_from [] n item h = absurd cc
listed_from (x ∷ items) zero item h = let same : x ≡ item = cc h in ap (λ i. i ∷ []) same
listed_from (x ∷ items) (suc n) item h = listed_from items n item h

pub listed : (items log : List Item) (n : ℕ) (item : Item) → slice_get items n ≡ Some item → log ≡ take (n + 1) items → drop n log ≡ item ∷ []
listed items log n item h is = ap (λ (xs : List Item). drop n xs) (is ∙ ap (λ (k : ℕ). take k items) (add-one n)) ∙ listed_from items n item h

-- an element of a list with one more
got_more : {A : Type 0} (xs : List A) (q p : A) (k : ℕ) → slice_get (xs ++ q ∷ []) k ≡ Some p → (slice_get xs k ≡ Some p) ⊎ ((k ≡ length xs) × (q ≡ p))
got_more [] q p zero h = inr (refl, cc h)
got_more [] q p (suc k) h = absurd cc
got_more (x ∷ xs) q p zero h = inl h
got_more (x ∷ xs) q p (suc k) h = ⊎_elim (λ (e : slice_get xs k ≡ Some p). inl e) (λ (t : (k ≡ length xs) × (q ≡ p)). inr (ap suc t.0, t.1)) (got_more xs q p k h)

-- the item that is read at an index
got_there : {A : Type 0} (xs : List A) (i : ℕ) (d : A) → i < length xs → slice_get xs i ≡ Some (get_or xs i d)
got_there [] i d h = absurd (omega (arith, h))
got_there (x ∷ xs) zero d h = refl
got_there (x ∷ xs) (suc i) d h = got_there xs i d (omega (arith, h))

pub read_there : (items : List Item) (n : ℕ) (read item : Item) → n < length items → read ≡ get_or items n read → item ≡ read → slice_get items n ≡ Some item
read_there items n read item within there copied = got_there items n read within ∙ ap Some (sym there ∙ sym copied)

-- one item more stands in the list
pub placed_more : (list : Shelves) (items : List Item) (places more : List (Where Shown)) (q : Where Shown) (s : Shown) (n : ℕ) → ArePlaced list items places
    → Shows list q → q.index ≡ n → q.value ≡ s → n ≡ length places → slice_get items n ≡ Some s.item → more ≡ places ++ q ∷ [] → ArePlaced list items more
placed_more list items places more q s n h shows at value end here is k p got =
    let there : slice_get items n ≡ Some q.value.item = here ∙ ap (λ (v : Shown). Some v.item) (sym value) in
    ⊎_elim (λ (e : slice_get places k ≡ Some p). h k p e)
    (λ (t : (k ≡ length places) × (q ≡ p)).
    let same : n ≡ k = end ∙ sym t.0 in
    subst (λ (w : Where Shown). Shows list w × (w.index ≡ k) × (slice_get items k ≡ Some w.value.item)) t.1 (shows, at ∙ same, ap (λ (i : ℕ). slice_get items i) (sym same) ∙ there))
    (got_more places q p k (ap (λ (xs : List (Where Shown)). slice_get xs k) (sym is) ∙ got))
