-- A list in order has the same elements, and is strictly sorted where no two tie.
use Rattle.std.proofs.Common.{◌≡◌, ◌⊎◌, inl, inr, List, [], ◌∷◌, refl, sym, ap, ◌∙◌, subst, Ordering}
use Rattle.std.specs.declared.cmp.Ordering.TheVariants.{Less, Equal, Greater}
use Rattle.std.specs.Ordering.{ordering_reverse}
use Rattle.std.specs.Cmp.{IsTotalOrder}
use Rattle.std.specs.List.{AllByRecursion}
use Rattle.std.specs.List.Sorted.{IsStrictlySortedBy}
use Rattle.rowlaws.specs.Rows.{Has, Apart}
use Rattle.rowlaws.specs.Sorting.{put_at, put, in_order}

module _ {A : Type 0} (c : A → A → Ordering) where
  at_has : (o : Ordering) (x y : A) (ys more : List A) (z : A) → (Has more z → (z ≡ x) ⊎ Has ys z) → Has (put_at o x y ys more) z → (z ≡ x) ⊎ Has (y ∷ ys) z
  at_has Less x y ys more z f h = h
  at_has Equal x y ys more z f h = h
  at_has Greater x y ys more z f (inl e) = inr (inl e)
  at_has Greater x y ys more z f (inr h) = elim (f h) [ inl e ↦ inl e | inr g ↦ inr (inr g) ]

  put_has : (x : A) (ys : List A) (z : A) → Has (put c x ys) z → (z ≡ x) ⊎ Has ys z
  put_has x [] z h = h
  put_has x (y ∷ ys) z h = at_has (c x y) x y ys (put c x ys) z (put_has x ys z) h

  has_at : (o : Ordering) (x y : A) (ys more : List A) (z : A) → ((z ≡ x) ⊎ Has ys z → Has more z) → (z ≡ x) ⊎ Has (y ∷ ys) z → Has (put_at o x y ys more) z
  has_at Less x y ys more z f h = h
  has_at Equal x y ys more z f h = h
  has_at Greater x y ys more z f (inl e) = inr (f (inl e))
  has_at Greater x y ys more z f (inr (inl e)) = inl e
  has_at Greater x y ys more z f (inr (inr h)) = inr (f (inr h))

  has_put : (x : A) (ys : List A) (z : A) → (z ≡ x) ⊎ Has ys z → Has (put c x ys) z
  has_put x [] z h = h
  has_put x (y ∷ ys) z h = has_at (c x y) x y ys (put c x ys) z (has_put x ys z) h

  pub order_has : (xs : List A) (z : A) → Has (in_order c xs) z → Has xs z
  unfolding in_order
  order_has [] z h = h
  order_has (x ∷ xs) z h = elim (put_has x (in_order c xs) z h) [ inl e ↦ inl e | inr g ↦ inr (order_has xs z g) ]

  pub has_order : (xs : List A) (z : A) → Has xs z → Has (in_order c xs) z
  unfolding in_order
  has_order [] z h = h
  has_order (x ∷ xs) z (inl e) = has_put x (in_order c xs) z (inl e)
  has_order (x ∷ xs) z (inr h) = has_put x (in_order c xs) z (inr (has_order xs z h))

  abbrev After : A → List A → Type 0
  After x ys = AllByRecursion (λ y. c x y ≡ Less) ys

  pub less_has : (x : A) (ys : List A) (z : A) → After x ys → Has ys z → c x z ≡ Less
  less_has x [] z a h = absurd h
  less_has x (y ∷ ys) z a (inl e) = subst (λ w. c x w ≡ Less) (sym e) a.0
  less_has x (y ∷ ys) z a (inr h) = less_has x ys z a.1 h

  module _ (total : IsTotalOrder c) where
    after_less : (x y : A) (zs : List A) → c x y ≡ Less → After y zs → After x zs
    after_less x y [] l a = a
    after_less x y (z ∷ zs) l a = (total.trans x y z l a.0, after_less x y zs l a.1)

    after_at : (o : Ordering) (w x y : A) (ys more : List A) → c w x ≡ Less → After w (y ∷ ys) → After w more → After w (put_at o x y ys more)
    after_at Less w x y ys more l a m = (l, a)
    after_at Equal w x y ys more l a m = (l, a)
    after_at Greater w x y ys more l a m = (a.0, m)

    after_put : (w x : A) (ys : List A) → c w x ≡ Less → After w ys → After w (put c x ys)
    after_put w x [] l a = (l, a)
    after_put w x (y ∷ ys) l a = after_at (c x y) w x y ys (put c x ys) l a (after_put w x ys l a.1)

    sorted_at : (o : Ordering) (x y : A) (ys more : List A) → c x y ≡ o → (o ≡ Equal → ⊥) → IsStrictlySortedBy c (y ∷ ys) → (c y x ≡ Less → After y more) → IsStrictlySortedBy c more → IsStrictlySortedBy c (put_at o x y ys more)
    unfolding IsStrictlySortedBy
    sorted_at Less x y ys more e tie s a m = ((e, after_less x y ys e s.0), s)
    sorted_at Equal x y ys more e tie s a m = absurd (tie refl)
    sorted_at Greater x y ys more e tie s a m = (a (total.antisymm y x ∙ ap ordering_reverse e), m)

    sorted_put : (x : A) (ys : List A) → IsStrictlySortedBy c ys → ((y : A) → Has ys y → c x y ≡ Equal → ⊥) → IsStrictlySortedBy c (put c x ys)
    unfolding IsStrictlySortedBy
    sorted_put x [] s ties = (tt, tt)
    sorted_put x (y ∷ ys) s ties =
        sorted_at (c x y) x y ys (put c x ys) refl (ties y (inl refl)) s (λ l. after_put y x ys l s.0) (sorted_put x ys s.1 (λ z h. ties z (inr h)))

    pub sorted_order : (xs : List A) → Apart xs → ((x y : A) → Has xs x → Has xs y → c x y ≡ Equal → x ≡ y) → IsStrictlySortedBy c (in_order c xs)
    unfolding in_order IsStrictlySortedBy
    sorted_order [] a ties = tt
    sorted_order (x ∷ xs) a ties =
        sorted_put x (in_order c xs) (sorted_order xs a.1 (λ y z h g e. ties y z (inr h) (inr g) e))
        (λ y h e. let g = order_has xs y h in a.0 (subst (λ w. Has xs w) (sym (ties x y (inl refl) (inr g) e)) g))

  pub apart_sorted : ((x : A) → c x x ≡ Equal) → (xs : List A) → IsStrictlySortedBy c xs → Apart xs
  unfolding IsStrictlySortedBy
  apart_sorted same [] s = tt
  apart_sorted same (x ∷ xs) s = ((λ h. let e : Less ≡ Equal = sym (less_has x xs x s.0 h) ∙ same x in cc), apart_sorted same xs s.1)
