use Rattle.std.proofs.Common.{◌≡◌, ◌∙◌, ◌<◌, ◌^◌, ap, sym, subst, length, inl, inr}
use Rattle.std.proofs.Common.{arith}
use Rattle.std.proofs.lemmas.Grind.{common_steps}
use Rattle.model.specs.Tables.{Row}
use Rattle.rowlaws.specs.Rows.{Has}
use Rattle.current.specs.Rows.{row_of}
use Rattle.current.specs.ByKey.{strands_of}
use Rattle.current.proofs.Moves.{InStrands, put_in_strands, length_put, row_put, in_calendar}
use Rattle.current.proofs.Reading.{strand_length}
use Rattle.current.proofs.table.TableRows.put.Goals as goal

pub invariant_of-self : goal.invariant_of-self
invariant_of-self c =
    let t = c.args.self.now in
    record {
      ordered = c.keys_in_order.ensures;
      in_strands = subst (λ l. InStrands l) (sym (c.in_err-added.ensures.err)) t.in_strands;
      short = λ r h. t.short r (subst (λ rs. Has rs r) c.in_err-added.ensures.kept h);
      counted = t.counted ∙ sym (ap length c.in_err-added.ensures.kept);
    }

pub invariant_of-self-2 : goal.invariant_of-self-2
invariant_of-self-2 c =
    let t = c.args.self.now in
    let m = t.index.strands in
    let n = c.put_row-added.new.index.strands in
    let row = c.args.row in
    let e = c.in_ok-added.ensures.ok in
    let in_strands = put_in_strands (row_of row) (strands_of m) (strands_of n) e t.in_strands row.period.ordered (in_calendar row) c.requires in
    let long = length_put m n t.ordered c.keys_in_order.ensures t.in_strands in_strands (row_of row) e c.requires row.period.ordered in
    record {
      ordered = c.keys_in_order.ensures;
      in_strands = in_strands;
      short = λ r h. elim ((row_put m n t.ordered c.keys_in_order.ensures t.in_strands in_strands (row_of row) e r).0 h) [
        | inl there ↦ let old = t.short r there in omega (arith, old, c.max-columns.ensures)
        | inr new ↦ let same : length r.key ≡ length row.key = ap (λ (x : Row). length x.key) new in let long : length c.as_slice.result.now ≡ length row.key = ap length c.as_slice.ensures in omega (arith, same, long, c.max-columns.ensures)
      ];
      counted = grind (arith, common_steps, long, t.counted);
    }

pub returns-clause-ok : goal.returns-clause-ok
returns-clause-ok c =
    let t = c.args.self.now in
    let m = t.index.strands in
    let n = c.put_row-added.new.index.strands in
    let row = c.args.row in
    let e = c.in_ok-added.ensures.ok in
    let in_strands = put_in_strands (row_of row) (strands_of m) (strands_of n) e t.in_strands row.period.ordered (in_calendar row) c.requires in
    row_put m n t.ordered c.keys_in_order.ensures t.in_strands in_strands (row_of row) e

pub returns-in_err-added-clause-longer : goal.returns-in_err-added-clause-longer
returns-in_err-added-clause-longer c = let same = ap length c.in_err-added.ensures.kept in omega (arith, same)

pub returns-clause-longer : goal.returns-clause-longer
returns-clause-longer c =
    let t = c.args.self.now in
    let m = t.index.strands in
    let n = c.put_row-added.new.index.strands in
    let row = c.args.row in
    let e = c.in_ok-added.ensures.ok in
    let in_strands = put_in_strands (row_of row) (strands_of m) (strands_of n) e t.in_strands row.period.ordered (in_calendar row) c.requires in
    let long = length_put m n t.ordered c.keys_in_order.ensures t.in_strands in_strands (row_of row) e c.requires row.period.ordered in
    omega (arith, long)

pub returns-in_err-added-clause-few : goal.returns-in_err-added-clause-few
returns-in_err-added-clause-few c digits short = let t = c.args.self.now in c.put_row-added.ensures.few digits (subst (λ n. n < 2 ^ digits) (strand_length t.index.strands t.ordered t.in_strands c.args.row.key) short)

pub returns-clause-few : goal.returns-clause-few
returns-clause-few c digits short = let t = c.args.self.now in c.put_row-added.ensures.few digits (subst (λ n. n < 2 ^ digits) (strand_length t.index.strands t.ordered t.in_strands c.args.row.key) short)
