use Rattle.std.proofs.Common.{◌≡◌, ◌++◌, ◌∷◌, map, ap, sym, subst, ◌∙◌, inl, inr, refl, length, flat_map, min, ◌+◌, arith, zero-add}
use Rattle.std.proofs.lemmas.List.{length-append, length-map}
use Rattle.std.specs.List.{list_any}
use Rattle.std.specs.Map.Iter.{deref_pair}
use Rattle.std.proofs.lemmas.Map.Iter.{rest_more, rest_all}
use Rattle.rowlaws.specs.Rows.{Has}
use Rattle.current.specs.Rows.{row_of}
use Rattle.current.specs.Corrections.{action_of_correction, is_stuck, kept, removed_at, added_at}
use Rattle.current.specs.ByKey.{rows_in}
use Rattle.current.specs.Plans.{IsPlanned}
use Rattle.current.proofs.Reading.{removed_few}
use Rattle.current.proofs.Planning.{Entry, IsSettled, flat_entry, any_entry, length_entry, settled_first, planned_more, settled_more, settled_last}
use Rattle.current.proofs.plan.plan_correction.Goals as goal

pub loop-key-init : goal.loop-key-init
loop-key-init c =
    let action = action_of_correction c.args.correction.now in
    let t = c.args.correction.now.system_start in
    let m = c.args.strands.now in
    let it = c.into_iter-key-iterator.result in
    let whole : it ≡ m.entries = c.into_iter-key-iterator.ensures.into_iter_gives.0 in
    let none = ap length c.none-changes.ensures.removed in
    let none_long = length-map c.none-changes.result.removed.items row_of in
    let length_whole = ap (λ es. length (rows_in es)) whole in
    record {
      read = omega (arith, length_whole);
      each = omega (arith, none, none_long);
      small = omega arith;
      count = ap (λ n. min n 18446744073709551615) (zero-add _) ∙ ap (λ es. min (length (flat_map (kept action t) (rows_in es))) 18446744073709551615) whole;
      removed = ap (λ xs. xs ++ flat_map (removed_at action t) (rows_in it)) c.none-changes.ensures.removed ∙ ap (λ es. flat_map (removed_at action t) (rows_in es)) whole;
      added = ap (λ xs. xs ++ flat_map (added_at action t) (rows_in it)) c.none-changes.ensures.added ∙ ap (λ es. flat_map (added_at action t) (rows_in es)) whole;
      in_range = ap (λ es. list_any (is_stuck action) (rows_in es)) whole;
      there = λ e h. subst (λ es. Has es e) whole h;
      planned = λ p h. absurd (subst (λ ps. Has ps p) c.new.ensures.items h);
      settled = λ k. subst (λ es. IsSettled action t m c.new.result.items es k) (sym whole) (subst (λ ps. IsSettled action t m ps m.entries k) (sym c.new.ensures.items) (settled_first action t m k));
    }

pub loop-key-preserved : goal.loop-key-preserved
loop-key-preserved c =
    let action = action_of_correction c.args.correction.now in
    let t = c.args.correction.now.system_start in
    let m = c.args.strands.now in
    let e : Entry = (c.in-Some.key.now, c.in-Some.rows.now) in
    let rest = c.next.new.self in
    let old = c.loop-key.plan in
    let new = c.add.new.self in
    let inv = c.loop-key.invariant in
    let add = c.in_ok-add.ensures in
    let strand = c.all.ensures.items in
    let split : c.loop-key.key-iterator ≡ e ∷ rest = rest_more deref_pair _ _ _ (c.in-Some.key, c.in-Some.rows) c.in-Some.is c.next.ensures.steps in
    let ordered = c.into_iter-key-iterator.ensures.into_iter_gives.5 in
    let there : Has m.entries e = inv.there e (subst (λ es. Has es e) (sym split) (inl refl)) in
    let step : IsPlanned action t e.0 (map row_of e.1) old.strands.items new.strands.items = subst (λ rs. IsPlanned action t e.0 (map row_of rs) old.strands.items new.strands.items) strand add.strands in
    let total : new.count ≡ min (old.count + length (flat_map (kept action t) (map row_of e.1))) 18446744073709551615 = subst (λ rs. new.count ≡ min (old.count + length (flat_map (kept action t) (map row_of rs))) 18446744073709551615) strand add.count in
    let long = length_entry (kept action t) e rest in
    let before = subst (λ es. min (old.count + length (flat_map (kept action t) (rows_in es))) 18446744073709551615 ≡ min (length (flat_map (kept action t) (rows_in m.entries))) 18446744073709551615) split inv.count in
    let all = c.all.ensures.counted in
    let left = ap (λ es. length (rows_in es)) split ∙ length-append (map row_of e.1) (rows_in rest) in
    let one = length-map e.1 row_of in
    let read = inv.read in
    let before_gone = inv.each in
    let went = ap length add.removed ∙ length-append (map row_of old.changes.removed.items) (flat_map (removed_at action t) (map row_of c.all.result.now)) in
    let few = removed_few action t (map row_of c.all.result.now) in
    let gone = length-map c.all.result.now row_of in
    let stand = ap length c.all.ensures.items in
    let long_old = length-map old.changes.removed.items row_of in
    let long_new = length-map new.changes.removed.items row_of in
    let fits = new.changes.removed.ok.0 in
    record {
      read = omega (arith, all, left, one, read);
      each = omega (arith, all, gone, before_gone, went, few, stand, long_old, long_new, fits);
      small = omega (arith, total);
      count = omega (arith, total, long, before);
      removed = flat_entry (removed_at action t) e rest (map row_of old.changes.removed.items) _ _ (add.removed ∙ ap (λ rs. map row_of old.changes.removed.items ++ flat_map (removed_at action t) (map row_of rs)) strand) (ap (λ es. map row_of old.changes.removed.items ++ flat_map (removed_at action t) (rows_in es)) (sym split) ∙ inv.removed);
      added = flat_entry (added_at action t) e rest (map row_of old.changes.added.items) _ _ (add.added ∙ ap (λ rs. map row_of old.changes.added.items ++ flat_map (added_at action t) (map row_of rs)) strand) (ap (λ es. map row_of old.changes.added.items ++ flat_map (added_at action t) (rows_in es)) (sym split) ∙ inv.added);
      in_range = any_entry (is_stuck action) e rest _ (ap (λ rs. list_any (is_stuck action) (map row_of rs)) (sym strand) ∙ add.in_range) (ap (λ es. list_any (is_stuck action) (rows_in es)) (sym split) ∙ inv.in_range);
      there = λ x h. inv.there x (subst (λ es. Has es x) (sym split) (inr h));
      planned = planned_more action t m ordered e rest old.strands.items new.strands.items there step inv.planned;
      settled = λ k. settled_more action t m ordered e rest old.strands.items new.strands.items there step k (subst (λ es. IsSettled action t m old.strands.items es k) split (inv.settled k));
    }

pub returns-clause-count : goal.returns-clause-count
returns-clause-count c =
    let action = action_of_correction c.args.correction.now in
    let t = c.args.correction.now.system_start in
    let inv = c.loop-key.invariant in
    let none = rest_all deref_pair _ _ _ c.in-None.is c.next.ensures.steps in
    let all = subst (λ es. min (c.loop-key.plan.count + length (flat_map (kept action t) (rows_in es))) 18446744073709551615 ≡ min (length (flat_map (kept action t) (rows_in c.args.strands.now.entries))) 18446744073709551615) none inv.count in
    let small = inv.small in
    omega (arith, all, small)

pub returns-clause-strands : goal.returns-clause-strands
returns-clause-strands c =
    let action = action_of_correction c.args.correction.now in
    let t = c.args.correction.now.system_start in
    let m = c.args.strands.now in
    let inv = c.loop-key.invariant in
    let none = rest_all deref_pair _ _ _ c.in-None.is c.next.ensures.steps in
    (inv.planned, λ k. settled_last action t m c.loop-key.plan.strands.items k (subst (λ es. IsSettled action t m c.loop-key.plan.strands.items es k) none (inv.settled k)))
