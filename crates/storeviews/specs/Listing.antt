-- What a publisher was given, and what a member has since.
use Rattle.std.specs.Prelude.{ℕ, Option, Some, None, List, [], ◌∷◌, ◌++◌, map}
use Rattle.model.specs.declared.entry.Entry.{Entry}
use Rattle.node.specs.View.{risen}
use Rattle.history.specs.declared.item.Item.{Item}
use Rattle.history.specs.declared.item.Item.TheVariants.{Applied, Sealed}
use Rattle.history.specs.Items.{closed_in}
use Rattle.view.specs.declared.publisher.Publisher.{Publisher}
use Rattle.view.specs.Publishing.{published, pending}
use Rattle.store.specs.declared.since.Since.{Since}

-- all that a publisher was given: what is published, and what is pending
abbrev pub listed : Publisher → List Item
listed p = published p ++ pending p

-- entries, each with this mark
abbrev pub marked : ℕ → List Entry → List Item
marked mark entries = map (Applied mark) entries

-- a time, if there is one, with this mark
abbrev pub marked_time : ℕ → Option ℕ → List Item
marked_time mark None = []
marked_time mark (Some time) = Sealed mark time ∷ []

-- what is closed now, where that is above what was closed before
abbrev pub marked_rise : ℕ → Option ℕ → Option ℕ → List Item
marked_rise mark before now = marked_time mark (risen before now)

-- what a member has since so many items: the entries, and what is closed where they do not close it
abbrev pub items_since : ℕ → List Item → Since → List Item
items_since mark before x = marked mark x.entries.items ++ marked_rise mark (closed_in (before ++ marked mark x.entries.items)) x.closed
