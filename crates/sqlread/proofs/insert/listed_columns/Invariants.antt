use Rattle.std.proofs.Common.{◌≡◌, drop, []}
use Rattle.namesyntax.specs.Names.{names_of}
use Rattle.sqlread.specs.Changes.{listed_after}
use Rattle.sqlread.proofs.insert.listed_columns.Given as goal

-- the columns so far, and those of the names that are left, make the whole
abbrev pub invariant-loop-name : goal.invariant-loop-name
invariant-loop-name l = listed_after l.table [] (names_of l.names) ≡ listed_after l.table l.columns.items (names_of (drop l.name-index l.names))
