use Rattle.std.proofs.Common.{◌≡◌, ◌≤◌, ◌+◌, ◌++◌, List, map, min, length, flat_map}
use Rattle.std.specs.List.{list_any}
use Rattle.model.specs.declared.value.Value.{Value}
use Rattle.rowlaws.specs.Rows.{Has}
use Rattle.current.specs.Rows.{row_of}
use Rattle.current.specs.Corrections.{action_of_correction, is_stuck, kept, removed_at, added_at}
use Rattle.current.specs.ByKey.{rows_in}
use Rattle.current.proofs.Planning.{Entry, PlannedFor, IsSettled}
use Rattle.current.proofs.plan.plan_correction.Given as goal

abbrev pub invariant-loop-key : goal.invariant-loop-key
invariant-loop-key l =
    let action = action_of_correction l.correction in
    let t = l.correction.system_start in
    let left = rows_in l.key-iterator in
    let all = rows_in l.strands.entries in
    record {
      read : l.count + length left ≤ l.fn.count + length all;
      each : length l.plan.changes.removed.items ≤ l.count;
      small : l.plan.count ≤ 18446744073709551615;
      count : min (l.plan.count + length (flat_map (kept action t) left)) 18446744073709551615 ≡ min (length (flat_map (kept action t) all)) 18446744073709551615;
      removed : map row_of l.plan.changes.removed.items ++ flat_map (removed_at action t) left ≡ flat_map (removed_at action t) all;
      added : map row_of l.plan.changes.added.items ++ flat_map (added_at action t) left ≡ flat_map (added_at action t) all;
      in_range : list_any (is_stuck action) left ≡ list_any (is_stuck action) all;
      there : (e : Entry) → Has l.key-iterator e → Has l.strands.entries e;
      planned : PlannedFor action t l.strands l.plan.strands.items;
      settled : (key : List Value) → IsSettled action t l.strands l.plan.strands.items l.key-iterator key;
    }
