-- Lists whose elements are seen as others, and walks over them.
use Rattle.std.proofs.Common.{Bool, Result, Ok, Err, ◌≡◌, ℕ, zero, suc, ◌+◌, ◌<◌, ◌≤◌, true, false, cond, List, [], ◌∷◌, ◌++◌, map, drop, length, get_or, refl, sym, ap, ◌∙◌, append_assoc, arith, add-one, drop-cons, flat_map, inl, inr}
use Rattle.std.proofs.lemmas.Bool.{cases_Bool}
use Rattle.std.specs.Prelude.{IfOk}
use Rattle.std.specs.List.{list_any}
use Rattle.model.specs.Tables.{Row}
use Rattle.rowlaws.specs.Touching.{same_row, rows_without}
use Rattle.rowlaws.proofs.Anys.{any_map}
use Rattle.current.specs.declared.row.Row.{Row as Declared}
use Rattle.current.specs.Rows.{row_of}

-- one more element of a walk
pub drop_here : {A : Type 0} (xs : List A) (i : ℕ) (x : A) → i < length xs → x ≡ get_or xs i x → drop i xs ≡ x ∷ drop (i + 1) xs
drop_here xs i x l e = rw (add-one i) (drop-cons xs i x l ∙ ap (λ z. z ∷ drop (suc i) xs) (sym e))

pub flat_step : {A B : Type 0} (g : A → List B) (xs : List A) (i : ℕ) (x : A) (front next all : List B) → i < length xs → x ≡ get_or xs i x → next ≡ front ++ g x → front ++ flat_map g (drop i xs) ≡ all → next ++ flat_map g (drop (i + 1) xs) ≡ all
flat_step g xs i x front next all l e n h =
    ap (λ a. a ++ flat_map g (drop (i + 1) xs)) n
    ∙ append_assoc front (g x) (flat_map g (drop (i + 1) xs))
    ∙ ap (λ ys. front ++ flat_map g ys) (sym (drop_here xs i x l e))
    ∙ h

-- ---- the rows of one list that are not in another

abbrev pub if_absent : List Declared → Declared → List Row
if_absent others r = cond (list_any (λ o. same_row (row_of r) (row_of o)) others) [] (row_of r ∷ [])

pub without_is : (rows others : List Declared) → flat_map (if_absent others) rows ≡ rows_without (map row_of rows) (map row_of others)
unfolding rows_without
without_is [] others = refl
without_is (r ∷ rows) others = elim (cases_Bool (list_any (λ o. same_row (row_of r) (row_of o)) others)) [
  | inl y ↦ rw (y, any_map (same_row (row_of r)) row_of others, y) (without_is rows others)
  | inr n ↦ rw (n, any_map (same_row (row_of r)) row_of others, n) (ap (λ more. row_of r ∷ more) (without_is rows others))
]

pub pushed : {A B : Type 0} (f : A → B) (left next : List A) (x : A) (y : B) → next ≡ left ++ x ∷ [] → f x ≡ y → map f next ≡ map f left ++ y ∷ []
pushed {A} {B} f left next x y e h = ap (map f) e ∙ each left
  where
    each : (xs : List A) → map f (xs ++ x ∷ []) ≡ map f xs ++ y ∷ []
    each [] = ap (λ z. z ∷ []) h
    each (z ∷ xs) = ap (λ zs. f z ∷ zs) (each xs)

pub absent-in : (others : List Declared) (r : Declared) → list_any (λ o. same_row (row_of r) (row_of o)) others ≡ false → if_absent others r ≡ row_of r ∷ []
absent-in others r h = rw h refl

pub present-in : (others : List Declared) (r : Declared) → list_any (λ o. same_row (row_of r) (row_of o)) others ≡ true → if_absent others r ≡ []
present-in others r h = rw h refl

pub drop_none : {A : Type 0} (xs : List A) (i : ℕ) → length xs ≤ i → drop i xs ≡ []
drop_none [] zero h = refl
drop_none [] (suc i) h = refl
drop_none (x ∷ xs) zero h = absurd (omega arith)
drop_none (x ∷ xs) (suc i) h = drop_none xs i (omega arith)

pub no_items : {A : Type 0} (xs : List A) → length xs ≡ 0 → xs ≡ []
no_items [] h = refl
no_items (x ∷ xs) h = absurd (omega arith)

-- one row against others, and rows against one
pub one_absent : (others : List Declared) (r : Declared) → list_any (λ o. same_row (row_of r) (row_of o)) others ≡ false → rows_without (row_of r ∷ []) (map row_of others) ≡ row_of r ∷ []
one_absent others r h = sym (without_is (r ∷ []) others) ∙ ap (λ rows. rows ++ []) (absent-in others r h)

pub one_present : (others : List Declared) (r : Declared) → list_any (λ o. same_row (row_of r) (row_of o)) others ≡ true → rows_without (row_of r ∷ []) (map row_of others) ≡ []
one_present others r h = sym (without_is (r ∷ []) others) ∙ ap (λ rows. rows ++ []) (present-in others r h)

pub same_one : (r other : Declared) (b : Bool) → same_row (row_of r) (row_of other) ≡ b → list_any (λ o. same_row (row_of r) (row_of o)) (other ∷ []) ≡ b
same_one r other true h = rw h refl
same_one r other false h = rw h refl

-- a list that a call leaves, said otherwise
pub ok_list : {A E : Type 0} {P : Type 0} (r : Result A E) (xs ys zs : List P) → IfOk r (λ u. zs ≡ xs) → xs ≡ ys → IfOk r (λ u. zs ≡ ys)
ok_list (Ok a) xs ys zs h e = h ∙ e
ok_list (Err x) xs ys zs h e = h
