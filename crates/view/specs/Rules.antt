-- The rules of what a life shares with its views.
use Rattle.std.specs.Prelude.{◌≡◌, ℕ, List, [], ◌∷◌, drop, slice_index_or, Option, Some, MatchOption}
use mathlib.Core.Option.{some}
use lib.ListN.{get_elem?}
use mathlib.Core.List.{IsPrefix}
use Rattle.logbook.specs.Pages.{Book}
use Rattle.history.specs.declared.front.Front.{Front}
use Rattle.view.specs.declared.published.Published.{Published}
use Rattle.view.specs.declared.published.Shown.{Shown}

-- the numbers that name a list after a history
abbrev pub numbers_of : Book → List ℕ
numbers_of b = b.number ∷ b.log_name ∷ b.cells_name ∷ []

-- the history after which a list is named
abbrev pub named_book : List ℕ → Book
named_book tag = record { number = slice_index_or tag 0 0; log_name = slice_index_or tag 1 0; cells_name = slice_index_or tag 2 0 }

-- the token is of the list's history, and tells of a list whose items from this index on are this one
abbrev pub IsListed : List ℕ → ℕ → Shown → Type 0
IsListed tag index s = (s.front.seen.book ≡ named_book tag) × (drop index s.front.seen.log ≡ s.item ∷ [])

-- the front f is of the history of x, and the list of x begins with its list
abbrev pub IsBefore : Front → Published → Type 0
IsBefore f x = (f.seen.book ≡ x.front.seen.book) × IsPrefix f.seen.log x.front.seen.log

-- what is published begins with what each seat knows
abbrev pub Keeps : Published → List (Option Front) → Type 0
Keeps x views = (seat : ℕ) (f : Front) → get_elem? views seat ≡ some (Some f) → IsBefore f x

-- what a seat knows after the step is the list of y. The list of x, before the step, begins with what it knew
abbrev pub Shows : Option Front → Published → Published → Option Front → Type 0
Shows v x y w = (w ≡ Some y.front) × MatchOption v (Unit {0}) (λ f. IsBefore f x)
