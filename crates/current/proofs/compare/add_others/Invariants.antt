use Rattle.std.proofs.Common.{◌≡◌, ◌++◌, ◌∷◌, [], map, drop, flat_map}
use Rattle.rowlaws.specs.Touching.{rows_without}
use Rattle.current.specs.Rows.{row_of}
use Rattle.current.proofs.Lists.{if_absent}
use Rattle.current.proofs.compare.add_others.Given as goal

abbrev pub invariant-loop-row : goal.invariant-loop-row
invariant-loop-row l =
    map row_of l.more.items ++ flat_map (if_absent (l.other ∷ [])) (drop l.row-index l.rows) ≡ map row_of l.fn.more.items ++ rows_without (map row_of l.rows) (row_of l.other ∷ [])
