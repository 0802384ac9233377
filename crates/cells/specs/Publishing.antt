-- What a life publishes.
use Rattle.std.specs.Prelude.{◌≡◌, ◌⊎◌, ℕ, Option, Some, None, MatchOption, List, [], ◌∷◌, ◌++◌, map, length, take, slice_range}
use Rattle.keep.specs.declared.error.StoreError.{StoreError}
use Rattle.keep.specs.declared.error.StoreError.TheVariants.{NoMemory, BadStore}
use Rattle.model.specs.declared.entry.Entry.{Entry}
use Rattle.model.specs.Members.{Node}
use Rattle.sqlchecks.specs.Columns.{Tables}
use Rattle.node.specs.View.{risen, started_from}
use Rattle.node.specs.Member.{me_of, members_of, tables_of}
use Rattle.node.specs.declared.node.Node.{Node as NodeUp}
use Rattle.history.specs.declared.item.Item.{Item}
use Rattle.history.specs.declared.item.Item.TheVariants.{Applied, Sealed}
use Rattle.history.specs.Items.{Rises}
use Rattle.view.specs.declared.publisher.Publisher.{Publisher}
use Rattle.view.specs.Publishing.{name_of, schema_of}
use Rattle.flight.specs.declared.life.Step.{Step}
use Rattle.flight.specs.declared.life.Life.{Life}
use Rattle.cells.specs.Lives.{stepped, opened_with}

-- entries, each with this mark
abbrev pub marked : ℕ → List Entry → List Item
marked mark entries = map (Applied mark) entries

-- what became sealed, if anything did, with this mark
abbrev pub marked_seal : ℕ → Option ℕ → List Item
marked_seal mark None = []
marked_seal mark (Some time) = Sealed mark time ∷ []

-- what becomes applied, and then what becomes sealed, as member x becomes y in a step of this mark
abbrev pub items_by : ℕ → Node → Node → List Item
items_by mark x y = marked mark (slice_range y.log x.commit y.commit) ++ marked_seal mark (risen x.sealed y.sealed)

-- what becomes applied and sealed in steps from member x on
unfoldable pub items_from : Tables → ℕ → ℕ → Node → List Step → List Item
items_from schema n me x [] = []
items_from schema n me x (s ∷ steps) = items_by s.mark x (stepped schema n me x s) ++ items_from schema n me (stepped schema n me x s) steps

-- what becomes applied and sealed in a life: each with the mark of its step. A torn step adds nothing
abbrev pub items_of : {K I : Type 0} {g : _} {s : _} → NodeUp K I g s → Life → List Item
items_of x life = items_from (tables_of x) (members_of x) (me_of x) (started_from (opened_with life.opening)) life.steps.items

-- xs are the first of ys
abbrev pub AreFirst : List Item → List Item → Type 0
AreFirst xs ys = take (length xs) ys ≡ xs

-- the publisher is of the life of member `me` over these tables that opened with this mark
abbrev pub IsPublisherOf : Tables → ℕ → ℕ → Publisher → Type 0
IsPublisherOf schema me opening p = (name_of p ≡ record { node = me; opening = opening }) × (schema_of p ≡ schema)

-- why items are not appended: for want of memory, or since they may not come after what was appended before, as a stamp in them is
-- not above what is closed there. That is told as 44
abbrev pub IsUnlisted : List Item → List Item → StoreError → Type 0
IsUnlisted before more error = (error ≡ NoMemory) ⊎ ((error ≡ BadStore) × (Rises (before ++ more) → ⊥))

-- stamps rise in what a life makes applied and sealed, together with what a step of this mark does that takes its member x to y
abbrev pub RisesWith : {K I : Type 0} {g : _} {s : _} → NodeUp K I g s → Life → Option ℕ → Node → Node → Type 0
RisesWith node life mark x y = MatchOption mark ⊥ (λ m. Rises (items_of node life ++ items_by m x y))
