use Rattle.std.proofs.Common.{◌≡◌, ◌++◌, map, drop, flat_map}
use Rattle.std.specs.List.{list_any}
use Rattle.current.specs.Rows.{row_of}
use Rattle.current.specs.Corrections.{action_of_correction, is_stuck, kept, removed_at, added_at}
use Rattle.current.proofs.strand.correct_strand.Given as goal

abbrev pub invariant-loop-row : goal.invariant-loop-row
invariant-loop-row l =
    let action = action_of_correction l.correction in
    let t = l.correction.system_start in
    let left = map row_of (drop l.row-index l.strand) in
    let all = map row_of l.strand in
    record {
      rows : map row_of l.rows.items ++ flat_map (kept action t) left ≡ flat_map (kept action t) all;
      removed : map row_of l.changes.removed.items ++ flat_map (removed_at action t) left ≡ map row_of l.fn.changes.removed.items ++ flat_map (removed_at action t) all;
      added : map row_of l.changes.added.items ++ flat_map (added_at action t) left ≡ map row_of l.fn.changes.added.items ++ flat_map (added_at action t) all;
      in_range : list_any (is_stuck action) left ≡ list_any (is_stuck action) all;
    }
