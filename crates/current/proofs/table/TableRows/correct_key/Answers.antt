use Rattle.std.proofs.Common.{◌≡◌, ◌⊎◌, ◌+◌, ◌-◌, ◌++◌, ◌∙◌, true, refl, sym, ap, inr, map, flat_map, length, List, arith, rules}
use Rattle.std.specs.Prelude.{IfErr}
use Rattle.std.specs.List.{list_any}
use Rattle.fault.specs.declared.refusal.Refusal.TheVariants.{NoMemory, NumberRange}
use Rattle.model.specs.declared.value.Value.{Value}
use Rattle.current.specs.Rows.{row_of}
use Rattle.current.specs.Corrections.{action_of_correction, is_stuck, kept, removed_at, added_at}
use Rattle.current.specs.ByKey.{strands_of, rows_in}
use Rattle.current.specs.Table.{rows_of_table}
use Rattle.current.proofs.KeyCorrection.{removed_found, added_found, stuck_found, found_within, short_found, new_count, found_apart, found_each, none_each, refused, if_err}
use Rattle.std.proofs.lemmas.List.{length-map}
use Rattle.current.proofs.Reading.{removed_few}
use Rattle.current.proofs.Lists.{no_items}
use Rattle.current.proofs.Naming.{correction_short}
use Rattle.current.proofs.TableCorrection.{correction_strands, correction_same, correction_length, correction_portion}
use Rattle.current.proofs.table.TableRows.correct_key.Goals as goal

pub returns-in_err-rows-clause-err : goal.returns-in_err-rows-clause-err
returns-in_err-rows-clause-err c =
    let correction = c.args.correction.now in
    let s = c.args.self.now in
    let m = s.index.strands in
    let k = c.args.key.now in
    let start = c.sharing-start.result.0 in
    let found = c.sharing-start.result.1.now in
    let action = action_of_correction correction in
    let t = correction.system_start in
    let stuck = stuck_found c.sharing_is_overlap.ensures correction m s.ordered s.in_strands k c.requires start found c.sharing-start.ensures.found in
    let why : IfErr c.from_residual.result (λ refusal. (refusal ≡ NoMemory) ⊎ ((refusal ≡ NumberRange) × (list_any (is_stuck action) (map row_of found) ≡ true))) = search rules in
    if_err c.from_residual.result (λ refusal r. (refl, refused action t (rows_of_table s) (list_any (is_stuck action) (map row_of found)) refusal stuck r)) why

pub overflow_sub-self : goal.overflow_sub-self
overflow_sub-self c =
    let correction = c.args.correction.now in
    let s = c.args.self.now in
    let m = s.index.strands in
    let k = c.args.key.now in
    let start = c.sharing-start.result.0 in
    let found = c.sharing-start.result.1.now in
    let short = short_found c.sharing_is_overlap.ensures correction m s.ordered s.in_strands k c.requires start found c.sharing-start.ensures.found in
    let counted = s.counted in
    omega arith

pub returns-then-total-gt-ROWS_MOST-clause-err : goal.returns-then-total-gt-ROWS_MOST-clause-err
returns-then-total-gt-ROWS_MOST-clause-err c =
    let correction = c.args.correction.now in
    let s = c.args.self.now in
    let m = s.index.strands in
    let k = c.args.key.now in
    let start = c.sharing-start.result.0 in
    let found = c.sharing-start.result.1.now in
    let action = action_of_correction correction in
    let t = correction.system_start in
    let rows = c.in_ok-rows.rows in
    let new : (s.count - length found) + rows.len ≡ length (flat_map (kept action t) (rows_in m.entries)) = new_count c.sharing_is_overlap.ensures correction m s.ordered s.in_strands k c.requires start found c.sharing-start.ensures.found s.count rows.len rows.items s.counted rows.ok.0 c.in_ok-rows.ensures.rows in
    let len = c.len.ensures in
    let count = c.saturating_add-total.ensures in
    let over = c.if-total-gt-ROWS_MOST.true in
    (refl, inr (inr (refl, sym (stuck_found c.sharing_is_overlap.ensures correction m s.ordered s.in_strands k c.requires start found c.sharing-start.ensures.found) ∙ c.in_ok-rows.ensures.in_range, omega arith)))

pub returns-then-many-eq0-clause-ok : goal.returns-then-many-eq0-clause-ok
returns-then-many-eq0-clause-ok c =
    let correction = c.args.correction.now in
    let s = c.args.self.now in
    let m = s.index.strands in
    let k = c.args.key.now in
    let start = c.sharing-start.result.0 in
    let found = c.sharing-start.result.1.now in
    let action = action_of_correction correction in
    let t = correction.system_start in
    let rows = c.in_ok-rows.rows in
    let new : (s.count - length found) + rows.len ≡ length (flat_map (kept action t) (rows_in m.entries)) = new_count c.sharing_is_overlap.ensures correction m s.ordered s.in_strands k c.requires start found c.sharing-start.ensures.found s.count rows.len rows.items s.counted rows.ok.0 c.in_ok-rows.ensures.rows in
    let len = c.len.ensures in
    let count = c.saturating_add-total.ensures in
    let small = c.if-total-gt-ROWS_MOST.false in
    let each : (l : List Value) → strands_of m l ≡ flat_map (kept action t) (strands_of m l) = none_each c.sharing_is_overlap.ensures correction m s.ordered s.in_strands k c.requires start found c.sharing-start.ensures.found (no_items found c.if-many-eq0.true) in (
      sym (stuck_found c.sharing_is_overlap.ensures correction m s.ordered s.in_strands k c.requires start found c.sharing-start.ensures.found) ∙ c.in_ok-rows.ensures.in_range,
      omega arith,
      correction_same action t (correction_portion correction) m m s.ordered s.in_strands each s.ordered,
      c.in_ok-rows.ensures.removed ∙ ap (λ rs. rs ++ flat_map (removed_at action t) (map row_of found)) c.none-changes.ensures.removed ∙ removed_found c.sharing_is_overlap.ensures correction m s.ordered s.in_strands k c.requires start found c.sharing-start.ensures.found,
      c.in_ok-rows.ensures.added ∙ ap (λ rs. rs ++ flat_map (added_at action t) (map row_of found)) c.none-changes.ensures.added ∙ added_found c.sharing_is_overlap.ensures correction m s.ordered s.in_strands k c.requires start found c.sharing-start.ensures.found,
    )

pub replace-replaced-requires-clause-within : goal.replace-replaced-requires-clause-within
replace-replaced-requires-clause-within c =
    let correction = c.args.correction.now in
    let s = c.args.self.now in
    let m = s.index.strands in
    let k = c.args.key.now in
    let start = c.sharing-start.result.0 in
    let found = c.sharing-start.result.1.now in
    found_within c.sharing_is_overlap.ensures correction m s.ordered s.in_strands k c.requires start found c.sharing-start.ensures.found

pub replace-replaced-requires-clause-apart : goal.replace-replaced-requires-clause-apart
replace-replaced-requires-clause-apart c =
    let correction = c.args.correction.now in
    let s = c.args.self.now in
    let m = s.index.strands in
    let k = c.args.key.now in
    let start = c.sharing-start.result.0 in
    let found = c.sharing-start.result.1.now in
    found_apart c.sharing_is_overlap.ensures correction m s.ordered s.in_strands k c.requires start found c.sharing-start.ensures.found c.in_ok-rows.rows.items c.in_ok-rows.ensures.rows

pub invariant_of-self-2 : goal.invariant_of-self-2
invariant_of-self-2 c =
    let correction = c.args.correction.now in
    let s = c.args.self.now in
    let m = s.index.strands in
    let k = c.args.key.now in
    let start = c.sharing-start.result.0 in
    let found = c.sharing-start.result.1.now in
    let action = action_of_correction correction in
    let t = correction.system_start in
    let rows = c.in_ok-rows.rows in
    let new : (s.count - length found) + rows.len ≡ length (flat_map (kept action t) (rows_in m.entries)) = new_count c.sharing_is_overlap.ensures correction m s.ordered s.in_strands k c.requires start found c.sharing-start.ensures.found s.count rows.len rows.items s.counted rows.ok.0 c.in_ok-rows.ensures.rows in
    let len = c.len.ensures in
    let count = c.saturating_add-total.ensures in
    let n = c.replace-replaced.new.self.strands in
    let each : (l : List Value) → strands_of n l ≡ flat_map (kept action t) (strands_of m l) = found_each c.sharing_is_overlap.ensures correction m s.ordered s.in_strands k c.requires start found c.sharing-start.ensures.found rows.items c.in_ok-rows.ensures.rows n c.in_ok-replaced.ensures.ok in
    let small = c.if-total-gt-ROWS_MOST.false in
    let in' = correction_strands action t (correction_portion correction) m n s.ordered s.in_strands each in
    let long : length (rows_in n.entries) ≡ length (flat_map (kept action t) (rows_in m.entries)) = correction_length action t (correction_portion correction) m n s.ordered s.in_strands each c.keys_in_order.ensures in
    record {
      ordered = c.keys_in_order.ensures;
      in_strands = in';
      short = correction_short action t s.columns m n s.ordered s.in_strands c.keys_in_order.ensures in' each s.short;
      counted = omega arith;
    }

pub returns-clause-ok : goal.returns-clause-ok
returns-clause-ok c =
    let correction = c.args.correction.now in
    let s = c.args.self.now in
    let m = s.index.strands in
    let k = c.args.key.now in
    let start = c.sharing-start.result.0 in
    let found = c.sharing-start.result.1.now in
    let action = action_of_correction correction in
    let t = correction.system_start in
    let rows = c.in_ok-rows.rows in
    let new : (s.count - length found) + rows.len ≡ length (flat_map (kept action t) (rows_in m.entries)) = new_count c.sharing_is_overlap.ensures correction m s.ordered s.in_strands k c.requires start found c.sharing-start.ensures.found s.count rows.len rows.items s.counted rows.ok.0 c.in_ok-rows.ensures.rows in
    let len = c.len.ensures in
    let count = c.saturating_add-total.ensures in
    let n = c.replace-replaced.new.self.strands in
    let each : (l : List Value) → strands_of n l ≡ flat_map (kept action t) (strands_of m l) = found_each c.sharing_is_overlap.ensures correction m s.ordered s.in_strands k c.requires start found c.sharing-start.ensures.found rows.items c.in_ok-rows.ensures.rows n c.in_ok-replaced.ensures.ok in
    let small = c.if-total-gt-ROWS_MOST.false in (
      sym (stuck_found c.sharing_is_overlap.ensures correction m s.ordered s.in_strands k c.requires start found c.sharing-start.ensures.found) ∙ c.in_ok-rows.ensures.in_range,
      omega arith,
      correction_same action t (correction_portion correction) m n s.ordered s.in_strands each c.keys_in_order.ensures,
      c.in_ok-rows.ensures.removed ∙ ap (λ rs. rs ++ flat_map (removed_at action t) (map row_of found)) c.none-changes.ensures.removed ∙ removed_found c.sharing_is_overlap.ensures correction m s.ordered s.in_strands k c.requires start found c.sharing-start.ensures.found,
      c.in_ok-rows.ensures.added ∙ ap (λ rs. rs ++ flat_map (added_at action t) (map row_of found)) c.none-changes.ensures.added ∙ added_found c.sharing_is_overlap.ensures correction m s.ordered s.in_strands k c.requires start found c.sharing-start.ensures.found,
    )

pub returns-then-many-eq0-clause-each : goal.returns-then-many-eq0-clause-each
returns-then-many-eq0-clause-each c =
    let correction = c.args.correction.now in
    let action = action_of_correction correction in
    let found = c.sharing-start.result.1.now in
    let went = c.in_ok-rows.ensures.removed ∙ ap (λ rs. rs ++ flat_map (removed_at action correction.system_start) (map row_of found)) c.none-changes.ensures.removed in
    let many = ap length went in
    let few = removed_few action correction.system_start (map row_of found) in
    let all = length-map found row_of in
    let items = length-map c.correct_strand.new.changes.removed.items row_of in
    let read = c.sharing-start.ensures.each in
    omega (arith, many, few, all, items, read)

pub returns-clause-each : goal.returns-clause-each
returns-clause-each c =
    let correction = c.args.correction.now in
    let action = action_of_correction correction in
    let found = c.sharing-start.result.1.now in
    let went = c.in_ok-rows.ensures.removed ∙ ap (λ rs. rs ++ flat_map (removed_at action correction.system_start) (map row_of found)) c.none-changes.ensures.removed in
    let many = ap length went in
    let few = removed_few action correction.system_start (map row_of found) in
    let all = length-map found row_of in
    let items = length-map c.correct_strand.new.changes.removed.items row_of in
    let read = c.sharing-start.ensures.each in
    omega (arith, many, few, all, items, read)
