-- What contracts say of a list of items.
use Rattle.std.specs.Prelude.{ℕ, ◌≤◌, max, Option, Some, None, unwrap_or, List, [], ◌∷◌, fold}
use Rattle.std.specs.List.{filter_map}
use Rattle.model.specs.declared.entry.Entry.{Entry}
use Rattle.model.specs.Stamps.{TIME_LAST, above, greater}
use Rattle.model.specs.Logs.{closed}
use Rattle.history.specs.declared.item.Item.{Item}
use Rattle.history.specs.declared.item.Item.TheVariants.{Applied, Sealed}

-- the mark of the step that an item comes of
abbrev pub mark_of : Item → ℕ
mark_of (Applied mark entry) = mark
mark_of (Sealed mark time) = mark

-- the entry that became applied, none where an instant became sealed
abbrev pub entry_of : Item → Option Entry
entry_of (Applied mark entry) = Some entry
entry_of (Sealed mark time) = None

-- the entries of items, in their order
abbrev pub entries_in : List Item → List Entry
entries_in items = filter_map entry_of items

-- the greatest sealed time, after so great a one, if there is one, and an item
abbrev pub greater_sealed : Option ℕ → Item → Option ℕ
greater_sealed sealed (Applied mark entry) = sealed
greater_sealed sealed (Sealed mark time) = greater sealed (Some time)

-- the greatest sealed time of items, none where nothing is sealed in them
abbrev pub sealed_in : List Item → Option ℕ
sealed_in items = fold greater_sealed None items

-- the closed time of items: the greater of the last entry's stamp and the greatest sealed time
abbrev pub closed_in : List Item → Option ℕ
closed_in items = greater (closed (entries_in items)) (sealed_in items)

-- the item may come where this time is closed: as an entry, where its stamp is an instant above that. Any time may become sealed
abbrev pub Follows : Option ℕ → Item → Type 0
Follows time (Applied mark entry) = (above time ≤ entry.stamp) × (entry.stamp ≤ TIME_LAST)
Follows time (Sealed mark sealed) = Unit {0}

-- what is closed after an item, where this time was closed before it
abbrev pub closed_after : Option ℕ → Item → Option ℕ
closed_after time (Applied mark entry) = greater time (Some entry.stamp)
closed_after time (Sealed mark sealed) = greater time (Some sealed)

-- where this time is closed before the items, each may come where what is closed before it is closed
abbrev pub RisesFrom : Option ℕ → List Item → Type 0
RisesFrom time [] = Unit {0}
RisesFrom time (item ∷ items) = Follows time item × RisesFrom (closed_after time item) items

-- stamps rise in the items, and no entry is stamped at or below a time that became sealed before it
abbrev pub Rises : List Item → Type 0
Rises items = RisesFrom None items

-- the greater of a mark, if there is one, and an item's
abbrev pub greater_mark : Option ℕ → Item → Option ℕ
greater_mark None item = Some (mark_of item)
greater_mark (Some mark) item = Some (max mark (mark_of item))

-- the greatest mark of items, none of no items
abbrev pub greatest_mark : List Item → Option ℕ
greatest_mark items = fold greater_mark None items

-- the greatest mark of items or, of none, that of the opening
abbrev pub last_mark : ℕ → List Item → ℕ
last_mark opening items = unwrap_or (greatest_mark items) opening
