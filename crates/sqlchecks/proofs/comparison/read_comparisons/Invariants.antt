use Rattle.std.proofs.Common.{◌≡◌, map, drop}
use Rattle.sqlsyntax.specs.Shared.{comparison_form}
use Rattle.sqlchecks.specs.Answering.{each_of}
use Rattle.sqlchecks.specs.Comparisons.{comparison_in}
use Rattle.sqlchecks.proofs.Each.{joined}
use Rattle.sqlchecks.proofs.comparison.read_comparisons.Given as goal

-- what is read so far, and what is left to read, give the whole
abbrev pub invariant-loop-text : goal.invariant-loop-text
invariant-loop-text l =
    each_of (comparison_in l.table) (map comparison_form l.texts) ≡ joined l.comparisons.items (each_of (comparison_in l.table) (map comparison_form (drop l.text-index l.texts)))
