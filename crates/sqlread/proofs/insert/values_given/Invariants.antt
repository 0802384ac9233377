use Rattle.std.proofs.Common.{◌≡◌, map, drop}
use Rattle.sqlchecks.specs.Answering.{each_of}
use Rattle.sqlread.specs.Changes.{given_of, value_given}
use Rattle.sqlread.proofs.Lists.{each_after}
use Rattle.sqlread.proofs.insert.values_given.Given as goal

-- the values so far, and those of the columns that are left, make the whole
abbrev pub invariant-loop-column : goal.invariant-loop-column
invariant-loop-column l = each_of (value_given (map given_of l.given)) l.columns ≡ each_after (value_given (map given_of l.given)) l.values.items (drop l.column-index l.columns)
