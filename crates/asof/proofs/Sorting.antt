-- A stable sort of a list is the list in order.
use Rattle.std.proofs.Common.{◌≡◌, ℕ, suc, ◌<◌, ◌≤◌, Bool, true, false, not, cond, ◌⊎◌, inl, inr, List, [], ◌∷◌, map, filter, length, get_or, refl, sym, ap, ◌∙◌, subst, arith, Ordering}
use Rattle.std.specs.declared.cmp.Ordering.TheVariants.{Less, Equal, Greater}
use Rattle.std.specs.Ordering.{is_lt, ordering_reverse}
use Rattle.std.specs.Cmp.{IsTotalOrder, IsStrictWeakOrder, tied_back}
use Rattle.std.specs.List.Sorted.{IsSortedBy, IsStableBy, ties}
use Rattle.std.proofs.lemmas.Bool.{cases_Bool, and_parts}
use Rattle.std.proofs.lemmas.List.MinMax.{ranks_by}
use Rattle.std.proofs.lemmas.List.Sorted.{sorted_far}
use Rattle.rowlaws.specs.Rows.{Has}
use Rattle.rowlaws.specs.Sorting.{put_at, put, in_order}

false_of : (b : Bool) → not b ≡ true → b ≡ false
false_of true h = cc
false_of false h = refl

true_false : true ≡ false → ⊥
true_false h = cc

-- what passes a test is of the list
of_filter : {A : Type 0} (p : A → Bool) (xs : List A) (x : A) → Has (filter p xs) x → Has xs x
of_filter p [] x h = h
of_filter {A} p (y ∷ xs) x h = by (p y) h (of_filter p xs x)
  where
    by : (b : Bool) → Has (cond b (y ∷ filter p xs) (filter p xs)) x → (Has (filter p xs) x → Has xs x) → (x ≡ y) ⊎ Has xs x
    by true (inl e) more = inl e
    by true (inr g) more = inr (more g)
    by false g more = inr (more g)

module _ {X : Type 0} (c : X → X → Ordering) (total : IsTotalOrder c) where
  abbrev lt : X → X → Bool
  lt x y = is_lt (c x y)

  weak : IsStrictWeakOrder lt
  weak = ranks_by total (λ (x : X). x)

  itself : (x : X) → lt x x ≡ false
  itself x = elim (cases_Bool (lt x x)) [ inl y ↦ weak.one_way x x y | inr n ↦ n ]

  tie : (x y : X) → lt x y ≡ false → lt y x ≡ false → ties lt x y ≡ true
  tie x y a b = rw (a, b) refl

  tied : (x y : X) → ties lt x y ≡ true → (lt x y ≡ false) × (lt y x ≡ false)
  tied x y h = let p = and_parts _ _ h in (false_of (lt x y) p.0, false_of (lt y x) p.1)

  -- no element is less than one before it
  abbrev Up : List X → Type 0
  Up [] = Unit {0}
  Up (x ∷ xs) = ((y : X) → Has xs y → lt y x ≡ false) × Up xs

  -- ---- two lists in which those that tie stand alike

  first : (x y : X) (ys : List X) → ties lt x y ≡ true → filter (ties lt x) (y ∷ ys) ≡ y ∷ filter (ties lt x) ys
  first x y ys h = rw h refl

  other : (x y : X) (ys : List X) → ties lt x y ≡ false → filter (ties lt x) (y ∷ ys) ≡ filter (ties lt x) ys
  other x y ys h = rw h refl

  tail : (x y : X) (ys zs : List X) → filter (ties lt x) (y ∷ ys) ≡ filter (ties lt x) (y ∷ zs) → filter (ties lt x) ys ≡ filter (ties lt x) zs
  tail x y ys zs h = elim (cases_Bool (ties lt x y)) [
    | inl t ↦ let e : y ∷ filter (ties lt x) ys ≡ y ∷ filter (ties lt x) zs = sym (first x y ys t) ∙ h ∙ first x y zs t in cc
    | inr n ↦ sym (other x y ys n) ∙ h ∙ other x y zs n
  ]

  -- the first of the one is in the other, and so no less than its first
  no_less : (y z : X) (ys zs : List X) → Up (z ∷ zs) → y ∷ ys ≡ filter (ties lt y) (z ∷ zs) → lt y z ≡ false
  no_less y z ys zs up e =
      let there : Has (filter (ties lt y) (z ∷ zs)) y = subst (λ xs. Has xs y) e (inl refl) in
      elim (of_filter (ties lt y) (z ∷ zs) y there) [
        | inl same ↦ subst (λ w. lt y w ≡ false) same (itself y)
        | inr later ↦ up.0 y later
      ]

  one : (y z : X) (ys zs : List X) → y ∷ ys ≡ z ∷ zs → y ≡ z
  one y z ys zs e = cc

  same : (ys zs : List X) → Up ys → Up zs → ((x : X) → filter (ties lt x) ys ≡ filter (ties lt x) zs) → ys ≡ zs
  same [] [] up up' h = refl
  same [] (z ∷ zs) up up' h = let e = h z ∙ first z z zs (tie z z (itself z) (itself z)) in cc
  same (y ∷ ys) [] up up' h = let e = sym (h y) ∙ first y y ys (tie y y (itself y) (itself y)) in cc
  same (y ∷ ys) (z ∷ zs) up up' h =
      let of_y = sym (first y y ys (tie y y (itself y) (itself y))) ∙ h y in
      let of_z = sym (first z z zs (tie z z (itself z) (itself z))) ∙ sym (h z) in
      let t : ties lt y z ≡ true = tie y z (no_less y z (filter (ties lt y) ys) zs up' of_y) (no_less z y (filter (ties lt z) zs) ys up of_z) in
      let e : y ≡ z = one y z (filter (ties lt y) ys) (filter (ties lt y) zs) (of_y ∙ first y z zs t) in
      let rest : ys ≡ zs = same ys zs up.1 up'.1 (λ x. tail x y ys zs (h x ∙ ap (λ w. filter (ties lt x) (w ∷ zs)) (sym e))) in
      λ i. e i ∷ rest i

  -- ---- the list in order

  at_has : (o : Ordering) (x y : X) (ys more : List X) (z : X) → (Has more z → (z ≡ x) ⊎ Has ys z) → Has (put_at o x y ys more) z → (z ≡ x) ⊎ Has (y ∷ ys) z
  at_has Less x y ys more z f h = h
  at_has Equal x y ys more z f h = h
  at_has Greater x y ys more z f (inl e) = inr (inl e)
  at_has Greater x y ys more z f (inr h) = elim (f h) [ inl e ↦ inl e | inr g ↦ inr (inr g) ]

  put_has : (x : X) (ys : List X) (z : X) → Has (put c x ys) z → (z ≡ x) ⊎ Has ys z
  put_has x [] z h = h
  put_has x (y ∷ ys) z h = at_has (c x y) x y ys (put c x ys) z (put_has x ys z) h

  -- nothing from y on is less than x, if y is not
  none_less : (x y : X) (ys : List X) → Up (y ∷ ys) → lt y x ≡ false → (z : X) → Has (y ∷ ys) z → lt z x ≡ false
  none_less x y ys up h z (inl e) = subst (λ w. lt w x ≡ false) (sym e) h
  none_less x y ys up h z (inr g) = weak.chain z y x (up.0 z g) h

  up_at : (o : Ordering) (x y : X) (ys more : List X) → c x y ≡ o → Up (y ∷ ys) → Up more → ((z : X) → Has more z → (z ≡ x) ⊎ Has ys z) → Up (put_at o x y ys more)
  up_at Less x y ys more e up m f = (none_less x y ys up (weak.one_way x y (ap is_lt e)), up)
  up_at Equal x y ys more e up m f = (none_less x y ys up (ap is_lt (tied_back total x y e)), up)
  up_at Greater x y ys more e up m f = ((λ z h. elim (f z h) [ inl s ↦ subst (λ w. lt w y ≡ false) (sym s) (ap is_lt e) | inr g ↦ up.0 z g ]), m)

  up_put : (x : X) (ys : List X) → Up ys → Up (put c x ys)
  up_put x [] up = ((λ y h. absurd h), tt)
  up_put x (y ∷ ys) up = up_at (c x y) x y ys (put c x ys) refl up (up_put x ys up.1) (put_has x ys)

  up_order : (xs : List X) → Up (in_order c xs)
  unfolding in_order
  up_order [] = tt
  up_order (x ∷ xs) = up_put x (in_order c xs) (up_order xs)

  -- two that do not tie change places
  swapped : (w x y : X) (ys more : List X) → lt y x ≡ true → filter (ties lt w) more ≡ filter (ties lt w) (x ∷ ys) → filter (ties lt w) (y ∷ more) ≡ filter (ties lt w) (x ∷ y ∷ ys)
  swapped w x y ys more l h = elim (cases_Bool (ties lt w x)) [
    | inl tx ↦ elim (cases_Bool (ties lt w y)) [
      | inl ty ↦
          let a = tied w x tx in
          let b = tied w y ty in
          let no : lt y x ≡ false = weak.chain y w x b.1 a.0 in
          absurd (true_false (sym l ∙ no))
      | inr ny ↦ other w y more ny ∙ h ∙ first w x ys tx ∙ ap (λ zs. x ∷ zs) (sym (other w y ys ny)) ∙ sym (first w x (y ∷ ys) tx)
    ]
    | inr nx ↦ elim (cases_Bool (ties lt w y)) [
      | inl ty ↦ first w y more ty ∙ ap (λ zs. y ∷ zs) (h ∙ other w x ys nx) ∙ sym (first w y ys ty) ∙ sym (other w x (y ∷ ys) nx)
      | inr ny ↦ other w y more ny ∙ h ∙ other w x ys nx ∙ sym (other w y ys ny) ∙ sym (other w x (y ∷ ys) nx)
    ]
  ]

  filter_at : (w : X) (o : Ordering) (x y : X) (ys more : List X) → c x y ≡ o → filter (ties lt w) more ≡ filter (ties lt w) (x ∷ ys) → filter (ties lt w) (put_at o x y ys more) ≡ filter (ties lt w) (x ∷ y ∷ ys)
  filter_at w Less x y ys more e h = refl
  filter_at w Equal x y ys more e h = refl
  filter_at w Greater x y ys more e h = swapped w x y ys more (ap is_lt (total.antisymm y x ∙ ap ordering_reverse e)) h

  filter_put : (w x : X) (ys : List X) → filter (ties lt w) (put c x ys) ≡ filter (ties lt w) (x ∷ ys)
  filter_put w x [] = refl
  filter_put w x (y ∷ ys) = filter_at w (c x y) x y ys (put c x ys) refl (filter_put w x ys)

  filter_order : (w : X) (xs : List X) → filter (ties lt w) (in_order c xs) ≡ filter (ties lt w) xs
  unfolding in_order
  filter_order w [] = refl
  filter_order w (x ∷ xs) = filter_put w x (in_order c xs) ∙ ap (λ zs. cond (ties lt w x) (x ∷ zs) zs) (filter_order w xs)

  -- ---- a sort

  abbrev Far : List X → Type 0
  Far xs = (i j : ℕ) (d : X) → i ≤ j → j < length xs → lt (get_or xs j d) (get_or xs i d) ≡ false

  place : (xs : List X) (y : X) → Has xs y → (k : ℕ) × (k < length xs) × ((d : X) → get_or xs k d ≡ y)
  place [] y h = absurd h
  place (x ∷ xs) y (inl e) = (0, omega arith, λ d. sym e)
  place (x ∷ xs) y (inr h) = let p = place xs y h in (suc p.0, omega (arith, p.1), p.2)

  up_far : (xs : List X) → Far xs → Up xs
  up_far [] far = tt
  up_far (x ∷ xs) far = (
    (λ y h. let p = place xs y h in subst (λ w. lt w x ≡ false) (p.2 x) (far 0 (suc p.0) x (omega arith) (omega (arith, p.1)))),
    up_far xs (λ i j d l b. far (suc i) (suc j) d (omega arith) (omega arith)),
  )

  pub sorted_is : (xs ys : List X) → IsSortedBy lt ys → IsStableBy lt xs ys → ys ≡ in_order c xs
  sorted_is xs ys sorted stable = same ys (in_order c xs) (up_far ys (sorted_far lt weak ys sorted)) (up_order xs) (λ w. stable w ∙ sym (filter_order w xs))

-- ---- as many as before

module _ {X : Type 0} (c : X → X → Ordering) where
  at_length : (o : Ordering) (x y : X) (ys more : List X) → length more ≡ suc (length ys) → length (put_at o x y ys more) ≡ suc (suc (length ys))
  at_length Less x y ys more e = refl
  at_length Equal x y ys more e = refl
  at_length Greater x y ys more e = ap suc e

  put_length : (x : X) (ys : List X) → length (put c x ys) ≡ suc (length ys)
  put_length x [] = refl
  put_length x (y ∷ ys) = at_length (c x y) x y ys (put c x ys) (put_length x ys)

  pub order_length : (xs : List X) → length (in_order c xs) ≡ length xs
  unfolding in_order
  order_length [] = refl
  order_length (x ∷ xs) = put_length x (in_order c xs) ∙ ap suc (order_length xs)

-- ---- elements that are seen as others

module _ {X A : Type 0} (f : X → A) (c : A → A → Ordering) where
  at_map : (o : Ordering) (x y : X) (ys more : List X) → map f (put_at o x y ys more) ≡ put_at o (f x) (f y) (map f ys) (map f more)
  at_map Less x y ys more = refl
  at_map Equal x y ys more = refl
  at_map Greater x y ys more = refl

  put_map : (x : X) (ys : List X) → map f (put (λ a b. c (f a) (f b)) x ys) ≡ put c (f x) (map f ys)
  put_map x [] = refl
  put_map x (y ∷ ys) = at_map (c (f x) (f y)) x y ys (put (λ a b. c (f a) (f b)) x ys) ∙ ap (put_at (c (f x) (f y)) (f x) (f y) (map f ys)) (put_map x ys)

  pub order_map : (xs : List X) → map f (in_order (λ a b. c (f a) (f b)) xs) ≡ in_order c (map f xs)
  unfolding in_order
  order_map [] = refl
  order_map (x ∷ xs) = put_map x (in_order (λ a b. c (f a) (f b)) xs) ∙ ap (put c (f x)) (order_map xs)
