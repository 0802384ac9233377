-- Items in which stamps rise, one after another.
use Rattle.std.proofs.Common.{◌≡◌, ◌∙◌, ℕ, zero, suc, ◌+◌, ◌≤◌, Bool, true, false, MatchBool, Option, Some, List, [], ◌∷◌, ◌++◌, length, take, drop, slice_get, sym, ap, subst, arith, length-append}
use Rattle.std.proofs.lemmas.List.{take-append-drop, take-append-le}
use Rattle.boxcar.specs.Table.{Shelves, Where}
use Rattle.history.specs.declared.item.Item.{Item}
use Rattle.history.specs.Items.{closed_in, Follows, closed_after, Rises}
use Rattle.history.proofs.Fronts.{prefix_get}
use Rattle.history.proofs.Rising.{rises_more, closed_more, rises_take, rises_after}
use Rattle.view.specs.declared.published.Shown.{Shown}
use Rattle.view.specs.Lists.{ArePlaced, IsGrown}
use Rattle.view.proofs.Taking.{taken_more}

-- an item may come after those that are published and pending
follows_all : (n : ℕ) (items : List Item) (item : Item) → Follows (closed_in (take n items ++ drop n items)) item → Follows (closed_in items) item
follows_all n items item h = subst (λ (xs : List Item). Follows (closed_in xs) item) (take-append-drop n items) h

pub appended_rises : (n : ℕ) (items more : List Item) (item : Item) → Rises items → Follows (closed_in (take n items ++ drop n items)) item → more ≡ items ++ item ∷ [] → Rises more
appended_rises n items more item rises h e = subst Rises (sym e) (rises_more items item rises (follows_all n items item h))

pub appended_closed : (n : ℕ) (items more : List Item) (item : Item) (old new : Option ℕ) → Rises items → Follows (closed_in (take n items ++ drop n items)) item → more ≡ items ++ item ∷ [] → old ≡ closed_in items → new ≡ closed_after old item → new ≡ closed_in more
appended_closed n items more item old new rises h e was is =
    is ∙ ap (λ (t : Option ℕ). closed_after t item) was ∙ closed_more items item rises (follows_all n items item h) ∙ ap (λ (xs : List Item). closed_in xs) (sym e)

-- each of the items may come after those before it
pub next_follows : (n : ℕ) (items log : List Item) (item : Item) → Rises items → log ≡ take n items → slice_get items n ≡ Some item → Follows (closed_in log) item
next_follows n items log item rises is here =
    let first : Rises (take n items ++ item ∷ []) = subst Rises (taken_more items n item here) (rises_take (n + 1) items rises) in
    subst (λ (xs : List Item). Follows (closed_in xs) item) (sym is) (rises_after (take n items) (item ∷ []) first).0

-- what was first in the list is first in the longer one
pub first_more : (n : ℕ) (items more ys log : List Item) → n ≤ length items → log ≡ take n items → more ≡ items ++ ys → log ≡ take n more
first_more n items more ys log within is e = is ∙ sym (ap (λ (xs : List Item). take n xs) e ∙ take-append-le n items ys within)

pub placed_stay : (list : Shelves) (items more ys : List Item) (places : List (Where Shown)) → ArePlaced list items places → more ≡ items ++ ys → ArePlaced list more places
placed_stay list items more ys places h e k p got =
    let here = h k p got in
    (here.0, here.1, prefix_get items more k p.value.item (ys, sym e) here.2)

pub grown_more : (queued : ℕ) (items more ys : List Item) (count : ℕ) (log : List Item) → IsGrown queued items count log → more ≡ items ++ ys → IsGrown queued more count log
grown_more queued items more ys count log h e =
    let same : take count more ≡ take count items = ap (λ (xs : List Item). take count xs) e ∙ take-append-le count items ys h.3 in
    let longer : length more ≡ length items + length ys = ap (λ (xs : List Item). length xs) e ∙ length-append items ys in
    (h.0 ∙ sym same, h.1, h.2, omega (arith, h.3, longer))

within : (items : List Item) (n : ℕ) (item : Item) → slice_get items n ≡ Some item → n + 1 ≤ length items
within [] n item h = absurd cc
within (x ∷ items) zero item h = omega arith
within (x ∷ items) (suc n) item h = omega (arith, within items n item h)

-- the history has the next item, or what it had
pub remembered : (done : Bool) (placed : ℕ) (items : List Item) (count more : ℕ) (log longer : List Item) (item : Item) → IsGrown placed items count log → count ≡ placed → slice_get items count ≡ Some item
    → count ≡ length log → more ≡ length longer → MatchBool done (longer ≡ log ++ item ∷ []) (longer ≡ log) → IsGrown placed items more longer
remembered true placed items count more log longer item h level here counts grows is =
    let one : more ≡ count + 1 = grows ∙ ap (λ (xs : List Item). length xs) is ∙ length-append log (item ∷ []) ∙ ap (λ (n : ℕ). n + 1) (sym counts) in
    let all : longer ≡ take more items = is ∙ ap (λ (xs : List Item). xs ++ item ∷ []) h.0 ∙ sym (taken_more items count item here) ∙ ap (λ (n : ℕ). take n items) (sym one) in
    (all, omega (arith, one, level), omega (arith, one, level), omega (arith, one, within items count item here))
remembered false placed items count more log longer item h level here counts grows is =
    let same : more ≡ count = grows ∙ ap (λ (xs : List Item). length xs) is ∙ sym counts in
    let all : longer ≡ take more items = is ∙ h.0 ∙ ap (λ (n : ℕ). take n items) (sym same) in
    (all, omega (arith, same, h.1), omega (arith, same, h.2), omega (arith, same, h.3))
