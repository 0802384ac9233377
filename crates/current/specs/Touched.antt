-- What a contract sees of what was touched.
use Rattle.std.specs.Prelude.{ℕ, List, map}
use Rattle.model.specs.Tables.{Row}
use Rattle.current.specs.declared.strand.Changes.{Changes}
use Rattle.current.specs.declared.touched.Touched.{Touched}
use Rattle.current.specs.Rows.{row_of}
use Rattle.current.specs.Places.{rows_at}

abbrev pub removed_of : Changes → List Row
removed_of c = map row_of c.removed.items

abbrev pub added_of : Changes → List Row
added_of c = map row_of c.added.items

-- the rows of the n-th table that go
abbrev pub removed_in : Touched → ℕ → List Row
removed_in touched = rows_at removed_of touched.tables.items

-- and those that come
abbrev pub added_in : Touched → ℕ → List Row
added_in touched = rows_at added_of touched.tables.items
