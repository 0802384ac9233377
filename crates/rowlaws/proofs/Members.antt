-- Elements of lists, and lists in which none comes again.
use Rattle.std.proofs.Common.{◌≡◌, ℕ, zero, suc, ◌+◌, ◌<◌, ◌≤◌, ◌⊎◌, inl, inr, Bool, true, false, cond, List, [], ◌∷◌, ◌++◌, map, length, refl, sym, ap, ◌∙◌, subst, arith, filter, flat_map}
use Rattle.std.specs.List.{range_with_len}
use Rattle.std.proofs.lemmas.Bool.{cases_Bool, cases_order}
use Rattle.rowlaws.specs.Rows.{Has, Apart}

module _ {A : Type 0} where
  pub has_left : (xs ys : List A) (z : A) → Has xs z → Has (xs ++ ys) z
  has_left [] ys z h = absurd h
  has_left (x ∷ xs) ys z (inl e) = inl e
  has_left (x ∷ xs) ys z (inr h) = inr (has_left xs ys z h)

  pub has_right : (xs ys : List A) (z : A) → Has ys z → Has (xs ++ ys) z
  has_right [] ys z h = h
  has_right (x ∷ xs) ys z h = inr (has_right xs ys z h)

  pub has_cases : (xs ys : List A) (z : A) → Has (xs ++ ys) z → Has xs z ⊎ Has ys z
  has_cases [] ys z h = inr h
  has_cases (x ∷ xs) ys z (inl e) = inl (inl e)
  has_cases (x ∷ xs) ys z (inr h) = elim (has_cases xs ys z h) [ inl l ↦ inl (inr l) | inr r ↦ inr r ]

  pub apart_append : (xs ys : List A) → Apart xs → Apart ys → ((z : A) → Has xs z → Has ys z → ⊥) → Apart (xs ++ ys)
  apart_append [] ys a b f = b
  apart_append (x ∷ xs) ys a b f =
      ((λ h. elim (has_cases xs ys x h) [ inl l ↦ a.0 l | inr r ↦ f x (inl refl) r ]), apart_append xs ys a.1 b (λ z h g. f z (inr h) g))

  pub has_filter : (p : A → Bool) (xs : List A) (z : A) → Has xs z → p z ≡ true → Has (filter p xs) z
  has_filter p [] z h e = h
  has_filter p (x ∷ xs) z (inl h) e = rw (ap p (sym h) ∙ e) (inl h)
  has_filter p (x ∷ xs) z (inr h) e = elim (cases_Bool (p x)) [ inl t ↦ rw t (inr (has_filter p xs z h e)) | inr f ↦ rw f (has_filter p xs z h e) ]

  pub filter_has : (p : A → Bool) (xs : List A) (z : A) → Has (filter p xs) z → Has xs z × (p z ≡ true)
  filter_has p [] z h = absurd h
  filter_has p (x ∷ xs) z h = by (p x) refl h (filter_has p xs z)
    where
      by : (b : Bool) → p x ≡ b → Has (cond b (x ∷ filter p xs) (filter p xs)) z → (Has (filter p xs) z → Has xs z × (p z ≡ true)) → Has (x ∷ xs) z × (p z ≡ true)
      by true e (inl g) more = (inl g, ap p g ∙ e)
      by true e (inr g) more = let m = more g in (inr m.0, m.1)
      by false e g more = let m = more g in (inr m.0, m.1)

  pub apart_filter : (p : A → Bool) (xs : List A) → Apart xs → Apart (filter p xs)
  apart_filter p [] a = a
  apart_filter p (x ∷ xs) a = by (p x) (apart_filter p xs a.1)
    where
      by : (b : Bool) → Apart (filter p xs) → Apart (cond b (x ∷ filter p xs) (filter p xs))
      by true r = ((λ h. a.0 (filter_has p xs x h).0), r)
      by false r = r

  -- the list without one of its elements
  without : (ys : List A) (x : A) → Has ys x → (zs : List A) × (length ys ≡ length zs + 1) × ((z : A) → Has ys z → (z ≡ x) ⊎ Has zs z)
  without [] x h = absurd h
  without (y ∷ ys) x (inl e) = (ys, omega arith, (λ z h. elim h [ inl g ↦ inl (g ∙ sym e) | inr g ↦ inr g ]))
  without (y ∷ ys) x (inr h) =
      let w = without ys x h in
      let long : length (y ∷ ys) ≡ length (y ∷ w.0) + 1 = let l = w.1 in omega arith in
      (y ∷ w.0, long, (λ z g. elim g [ inl e ↦ inr (inl e) | inr r ↦ elim (w.2 z r) [ inl e ↦ inl e | inr s ↦ inr (inr s) ] ]))

  -- a list with no element again, all of whose elements are in another, is no longer than that
  pub pigeon : (xs ys : List A) → Apart xs → ((z : A) → Has xs z → Has ys z) → length xs ≤ length ys
  pigeon [] ys a f = omega arith
  pigeon (x ∷ xs) ys a f =
      let w = without ys x (f x (inl refl)) in
      let rest : length xs ≤ length w.0 = pigeon xs w.0 a.1 (λ z h. elim (w.2 z (f z (inr h))) [ inl e ↦ absurd (a.0 (subst (λ v. Has xs v) e h)) | inr g ↦ g ]) in
      let long = w.1 in
      omega arith

module _ {A B : Type 0} where
  pub has_map : (f : A → B) (xs : List A) (z : A) → Has xs z → Has (map f xs) (f z)
  has_map f [] z h = h
  has_map f (x ∷ xs) z (inl e) = inl (ap f e)
  has_map f (x ∷ xs) z (inr h) = inr (has_map f xs z h)

  pub map_has : (f : A → B) (xs : List A) (y : B) → Has (map f xs) y → (z : A) × Has xs z × (y ≡ f z)
  map_has f [] y h = absurd h
  map_has f (x ∷ xs) y (inl e) = (x, inl refl, e)
  map_has f (x ∷ xs) y (inr h) = let r = map_has f xs y h in (r.0, inr r.1, r.2)

  pub apart_map : (f : A → B) (xs : List A) → ((x y : A) → Has xs x → Has xs y → f x ≡ f y → x ≡ y) → Apart xs → Apart (map f xs)
  apart_map f [] i a = a
  apart_map f (x ∷ xs) i a =
      ((λ h. let m = map_has f xs (f x) h in a.0 (subst (λ v. Has xs v) (sym (i x m.0 (inl refl) (inr m.1) m.2)) m.1)), apart_map f xs (λ v w h g e. i v w (inr h) (inr g) e) a.1)

  pub has_flat : (f : A → List B) (xs : List A) (x : A) (y : B) → Has xs x → Has (f x) y → Has (flat_map f xs) y
  has_flat f [] x y h g = absurd h
  has_flat f (w ∷ xs) x y (inl e) g = has_left (f w) (flat_map f xs) y (subst (λ v. Has (f v) y) e g)
  has_flat f (w ∷ xs) x y (inr h) g = has_right (f w) (flat_map f xs) y (has_flat f xs x y h g)

  pub flat_has : (f : A → List B) (xs : List A) (y : B) → Has (flat_map f xs) y → (x : A) × Has xs x × Has (f x) y
  flat_has f [] y h = absurd h
  flat_has f (w ∷ xs) y h = elim (has_cases (f w) (flat_map f xs) y h) [ inl l ↦ (w, inl refl, l) | inr r ↦ let m = flat_has f xs y r in (m.0, inr m.1, m.2) ]

  pub apart_flat : (f : A → List B) (xs : List A) → Apart xs → ((x : A) → Has xs x → Apart (f x)) → ((x w : A) (y : B) → Has xs x → Has xs w → Has (f x) y → Has (f w) y → x ≡ w) → Apart (flat_map f xs)
  apart_flat f [] a b d = a
  apart_flat f (x ∷ xs) a b d =
      apart_append (f x) (flat_map f xs) (b x (inl refl)) (apart_flat f xs a.1 (λ w h. b w (inr h)) (λ v w y h g m n. d v w y (inr h) (inr g) m n))
      (λ y h g. let m = flat_has f xs y g in a.0 (subst (λ v. Has xs v) (sym (d x m.0 y (inl refl) (inr m.1) h m.2)) m.1))

pub has_range : (a n d : ℕ) → a ≤ d → d < a + n → Has (range_with_len a n) d
has_range a zero d h g = absurd (omega arith)
has_range a (suc n) d h g = elim (cases_order a d) [ inl e ↦ inl (sym e) | inr o ↦ elim o [ inl l ↦ inr (has_range (a + 1) n d (omega arith) (omega arith)) | inr l ↦ absurd (omega arith) ] ]

pub range_has : (a n d : ℕ) → Has (range_with_len a n) d → (a ≤ d) × (d < a + n)
range_has a zero d h = absurd h
range_has a (suc n) d (inl e) = (omega arith, omega arith)
range_has a (suc n) d (inr h) = let r = range_has (a + 1) n d h in let x = r.0 in let y = r.1 in (omega arith, omega arith)

pub apart_range : (a n : ℕ) → Apart (range_with_len a n)
apart_range a zero = tt
apart_range a (suc n) = ((λ h. let r = range_has (a + 1) n a h in let x = r.0 in omega arith), apart_range (a + 1) n)
