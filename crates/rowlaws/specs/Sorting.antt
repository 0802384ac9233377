-- A list in order, by insertion.
use Rattle.std.specs.Prelude.{List, [], ◌∷◌}
use Rattle.std.specs.declared.cmp.Ordering.{Ordering}
use Rattle.std.specs.declared.cmp.Ordering.TheVariants.{Less, Equal, Greater}

-- x before y and those after it, or y before the others
abbrev pub put_at : {A : Type 0} → Ordering → A → A → List A → List A → List A
put_at Less x y ys more = x ∷ y ∷ ys
put_at Equal x y ys more = x ∷ y ∷ ys
put_at Greater x y ys more = y ∷ more

-- a list in order with one more element
abbrev pub put : {A : Type 0} → (A → A → Ordering) → A → List A → List A
put c x [] = x ∷ []
put c x (y ∷ ys) = put_at (c x y) x y ys (put c x ys)

-- the elements in order
unfoldable pub in_order : {A : Type 0} → (A → A → Ordering) → List A → List A
in_order c [] = []
in_order c (x ∷ xs) = put c x (in_order c xs)
