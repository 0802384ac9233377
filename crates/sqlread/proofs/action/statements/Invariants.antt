use Rattle.std.proofs.Common.{◌≡◌, map, drop}
use Rattle.sqlsyntax.specs.Transactions.{statement_form}
use Rattle.sqlchecks.specs.Answering.{each_of}
use Rattle.sqlread.specs.Shapes.{statement_of}
use Rattle.sqlread.specs.Changes.{statement_in}
use Rattle.sqlread.proofs.Lists.{each_after}
use Rattle.sqlread.proofs.action.statements.Given as goal

-- the statements so far, and those that are left, make the whole
abbrev pub invariant-loop-text : goal.invariant-loop-text
invariant-loop-text l = each_of (statement_in l.schema) (map statement_form l.texts) ≡ each_after (statement_in l.schema) (map statement_of l.statements.items) (map statement_form (drop l.text-index l.texts))
