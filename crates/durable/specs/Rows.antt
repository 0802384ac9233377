-- A term, a vote, a floor and a log as the rows of the tables.
use Rattle.std.specs.Prelude.{◌≡◌, ℕ, ◌+◌, Option, None, List, [], ◌∷◌, pos}
use Rattle.sqlite.specs.declared.types.Value.TheVariants.{Null, Int, Text as Words}
use Rattle.sqlite.specs.Order.{Row, column, value_cmp}
use Rattle.std.specs.declared.cmp.Ordering.{Ordering}
use Rattle.sqlite_keyed.specs.Lists.{sort_by}
use Rattle.sqlite.specs.Effect.{Database}
use Rattle.durable.specs.Contents.{Item, Contents, number_of_floor}
use Rattle.durable.specs.Tables.{schema, old_schema}

abbrev pub meta_row : ℕ → ℕ → Row
meta_row term vote = Int (pos 1) ∷ Null ∷ Int (pos term) ∷ Int (pos vote) ∷ []

abbrev pub floor_row : Option ℕ → Row
floor_row t = Int (pos 1) ∷ Null ∷ Int (number_of_floor t) ∷ []

abbrev pub entry_row : ℕ → Item → Row
entry_row i e = Int (pos i) ∷ Null ∷ Int (pos e.term) ∷ Int (pos e.stamp) ∷ Int (pos e.client) ∷ Int (pos e.number) ∷ Words e.body ∷ []

-- numbered from i on
abbrev pub log_rows : ℕ → List Item → List Row
log_rows i [] = []
log_rows i (e ∷ es) = entry_row i e ∷ log_rows (i + 1) es

-- the values that an INSERT of an entry is given, and that a query shows
abbrev pub entry_values : ℕ → Item → Row
entry_values i e = Int (pos i) ∷ Int (pos e.term) ∷ Int (pos e.stamp) ∷ Int (pos e.client) ∷ Int (pos e.number) ∷ Words e.body ∷ []

-- The rows by their numbers. A tree has them so, but no clause of a connection says it.
abbrev pub row_cmp : Row → Row → Ordering
row_cmp a b = value_cmp (column a 0) (column b 0)

abbrev pub in_order : List Row → List Row
in_order rows = sort_by row_cmp rows

pub record Holds (db : Database) (d : Contents) : Type 0 where
  pub tables : db.schema ≡ schema
  pub meta : db.trees 0 ≡ meta_row d.term d.vote ∷ []
  pub log : in_order (db.trees 1) ≡ log_rows 1 d.log
  pub floor : db.trees 2 ≡ floor_row d.floor ∷ []

-- the same, of a database that was made before members had floors: it has none
pub record HoldsOld (db : Database) (d : Contents) : Type 0 where
  pub tables : db.schema ≡ old_schema
  pub meta : db.trees 0 ≡ meta_row d.term d.vote ∷ []
  pub log : in_order (db.trees 1) ≡ log_rows 1 d.log
  pub floor : d.floor ≡ None

-- what a query shows of the row of meta
abbrev pub meta_values : ℕ → ℕ → Row
meta_values term vote = Int (pos 1) ∷ Int (pos term) ∷ Int (pos vote) ∷ []

-- what a query shows of the row of floor
abbrev pub floor_values : Option ℕ → Row
floor_values t = Int (pos 1) ∷ Int (number_of_floor t) ∷ []

-- what queries of the whole tables show of a row
abbrev pub shown_meta : Row → Row
shown_meta r = column r 0 ∷ column r 2 ∷ column r 3 ∷ []

abbrev pub shown_floor : Row → Row
shown_floor r = column r 0 ∷ column r 2 ∷ []

abbrev pub shown_entry : Row → Row
shown_entry r = column r 0 ∷ column r 2 ∷ column r 3 ∷ column r 4 ∷ column r 5 ∷ column r 6 ∷ []

-- what a query shows of the log, numbered from i on
abbrev pub shown_log : ℕ → List Item → List Row
shown_log i [] = []
shown_log i (e ∷ es) = entry_values i e ∷ shown_log (i + 1) es
