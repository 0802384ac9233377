use Rattle.std.proofs.Common.{◌≡◌, ◌≤◌, min, ap, ◌∙◌, arith, List, length, flat_map}
use Rattle.model.specs.declared.value.Value.{Value}
use Rattle.current.specs.Corrections.{action_of_correction, kept}
use Rattle.current.specs.ByKey.{strands_of, rows_in}
use Rattle.current.proofs.Cutting.{all_planned}
use Rattle.current.proofs.TableCorrection.{correction_strands, correction_same, correction_length, correction_portion}
use Rattle.current.proofs.Naming.{correction_short}
use Rattle.current.proofs.Placed.{strands_apart}
use Rattle.current.proofs.table.TableRows.correct_all.Goals as goal

pub invariant_of-self : goal.invariant_of-self
invariant_of-self c =
    let correction = c.args.correction.now in
    let action = action_of_correction correction in
    let t = correction.system_start in
    let s = c.args.self.now in
    let m = s.index.strands in
    let n = c.replace_strands.new.strands in
    let plan = c.in_ok-plan.plan in
    let each : (k : List Value) → strands_of n k ≡ flat_map (kept action t) (strands_of m k) = λ k. ap (λ strands. strands k) c.replace_strands.ensures ∙ all_planned action t (strands_of m) plan.strands.items c.in_ok-plan.ensures.strands k in
    (strands_apart n (correction_strands action t (correction_portion correction) m n s.ordered s.in_strands each), tt)

pub invariant_of-self-2 : goal.invariant_of-self-2
invariant_of-self-2 c =
    let correction = c.args.correction.now in
    let action = action_of_correction correction in
    let t = correction.system_start in
    let s = c.args.self.now in
    let m = s.index.strands in
    let n = c.replace_strands.new.strands in
    let plan = c.in_ok-plan.plan in
    let each : (k : List Value) → strands_of n k ≡ flat_map (kept action t) (strands_of m k) = λ k. ap (λ strands. strands k) c.replace_strands.ensures ∙ all_planned action t (strands_of m) plan.strands.items c.in_ok-plan.ensures.strands k in
    let long : length (rows_in n.entries) ≡ length (flat_map (kept action t) (rows_in m.entries)) = correction_length action t (correction_portion correction) m n s.ordered s.in_strands each c.keys_in_order.ensures in
    let count : plan.count ≡ min (length (flat_map (kept action t) (rows_in m.entries))) 18446744073709551615 = c.in_ok-plan.ensures.count in
    let small : plan.count ≤ 20000 = c.if-plan-gt-ROWS_MOST.false in
    let in' = correction_strands action t (correction_portion correction) m n s.ordered s.in_strands each in
    record {
      ordered = c.keys_in_order.ensures;
      in_strands = in';
      short = correction_short action t s.columns m n s.ordered s.in_strands c.keys_in_order.ensures in' each s.short;
      counted = omega (arith, long, count, small);
    }

pub returns-clause-ok : goal.returns-clause-ok
returns-clause-ok c =
    let correction = c.args.correction.now in
    let action = action_of_correction correction in
    let t = correction.system_start in
    let s = c.args.self.now in
    let m = s.index.strands in
    let n = c.replace_strands.new.strands in
    let plan = c.in_ok-plan.plan in
    let each : (k : List Value) → strands_of n k ≡ flat_map (kept action t) (strands_of m k) = λ k. ap (λ strands. strands k) c.replace_strands.ensures ∙ all_planned action t (strands_of m) plan.strands.items c.in_ok-plan.ensures.strands k in
    let count : plan.count ≡ min (length (flat_map (kept action t) (rows_in m.entries))) 18446744073709551615 = c.in_ok-plan.ensures.count in
    let small : plan.count ≤ 20000 = c.if-plan-gt-ROWS_MOST.false in
    (c.in_ok-plan.ensures.in_range, omega (arith, count, small), correction_same action t (correction_portion correction) m n s.ordered s.in_strands each c.keys_in_order.ensures, c.in_ok-plan.ensures.removed, c.in_ok-plan.ensures.added)
