-- What contracts say of a publisher.
use Rattle.std.specs.Prelude.{◌≡◌, ℕ, List, take, drop}
use Rattle.sqlchecks.specs.Columns.{Tables}
use Rattle.logbook.specs.Pages.{Book}
use Rattle.history.specs.declared.item.Item.{Item}
use Rattle.view.specs.declared.told.Name.{Name}
use Rattle.view.specs.declared.publisher.Publisher.{Publisher}

-- the items that are published, in their order
abbrev pub published : Publisher → List Item
published p = take p.shown p.items.items

-- the items that were appended since
abbrev pub pending : Publisher → List Item
pending p = drop p.shown p.items.items

abbrev pub name_of : Publisher → Name
name_of p = p.name

abbrev pub schema_of : Publisher → Tables
schema_of p = p.schema

-- the history that its tokens are of
abbrev pub book_of : Publisher → Book
book_of p = p.history.front.seen.book

-- how many views were taken
abbrev pub given_of : Publisher → ℕ
given_of p = p.given

-- it is the same life
abbrev pub IsSameLife : Publisher → Publisher → Type 0
IsSameLife p q = (name_of q ≡ name_of p) × (schema_of q ≡ schema_of p) × (book_of q ≡ book_of p)
