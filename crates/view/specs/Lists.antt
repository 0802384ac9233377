-- What stands in the list that a life shares with its views.
use Rattle.std.specs.Prelude.{◌≡◌, ℕ, ◌+◌, ◌≤◌, List, ◌∷◌, [], ◌++◌, Some, take, length, slice_get}
use Rattle.boxcar.specs.Table.{Shelves, Where, Shows}
use Rattle.history.specs.declared.front.Front.{Front}
use Rattle.history.specs.declared.item.Item.{Item}
use Rattle.view.specs.declared.published.Shown.{Shown}

-- each of the first items stands in the list, at its index
abbrev pub ArePlaced : Shelves → List Item → List (Where Shown) → Type 0
ArePlaced list items places = (k : ℕ) (p : Where Shown) → slice_get places k ≡ Some p → Shows list p × (p.index ≡ k) × (slice_get items k ≡ Some p.value.item)

-- the history has the first `count` of the items: those that are placed, and at most one more
abbrev pub IsGrown : ℕ → List Item → ℕ → List Item → Type 0
IsGrown placed items count log = (log ≡ take count items) × (placed ≤ count) × (count ≤ placed + 1) × (count ≤ length items)

-- what is shown tells of the front's list with one item more
abbrev pub IsNext : Front → Shown → Type 0
IsNext front s = (s.front.seen.book ≡ front.seen.book) × (s.front.seen.log ≡ front.seen.log ++ s.item ∷ [])
