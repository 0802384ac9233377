use Rattle.std.proofs.Common.{◌∙◌, ◌∷◌, ◌+◌, ◌*◌, [], map, length, ap, subst, sym, refl, arith}
use Rattle.std.proofs.lemmas.List.{length-append}
use Rattle.rowlaws.specs.Rows.{Has}
use Rattle.current.specs.Rows.{row_of}
use Rattle.current.specs.Table.{rows_of_table}
use Rattle.current.proofs.KeyCorrection.{map_append}
use Rattle.current.proofs.Counting.{one_less}
use Rattle.current.proofs.Lists.{no_items}
use Rattle.current.proofs.Undoing.{take_more}
use Rattle.current.proofs.table.TableRows.take_all.Goals as goal

pub loop-row-init : goal.loop-row-init
loop-row-init c = record { rows = λ r. ((λ h. h), (λ h. h)); columns = refl; shorter = omega arith; few = λ digits short. omega arith }

pub loop-row-preserved : goal.loop-row-preserved
loop-row-preserved c =
    let row = c.in-Some.row.now in
    let others = c.in-Some.others.now in
    let parts = ap (map row_of) c.in-Some.ensures.cases.0 ∙ map_append row_of others (row ∷ []) in
    record {
      rows = take_more (row_of row) (map row_of c.loop-row.left.now) (map row_of others) (rows_of_table c.args.self.now) (rows_of_table c.loop-row.self) (rows_of_table c.take.new.self) (map row_of c.args.rows.now) parts c.take.ensures.rows c.loop-row.invariant.rows;
      columns = c.take.ensures.columns ∙ c.loop-row.invariant.columns;
      shorter = omega (arith, c.take.ensures.shorter, c.loop-row.invariant.shorter);
      few = λ digits short.
          let long = ap length c.in-Some.ensures.cases.0 ∙ length-append others (row ∷ []) in
          let here = c.take.ensures.few digits (omega (arith, c.loop-row.invariant.shorter, short)) in
          one_less (length c.loop-row.left.now) (length others) (digits + digits + 2) c.loop-row.count c.take.new.count (c.args.count.now + length c.args.rows.now * (digits + digits + 2)) long here (c.loop-row.invariant.few digits short);
    }

pub returns-clause-rows : goal.returns-clause-rows
returns-clause-rows c = λ r.
    let none = subst (λ xs. Has (map row_of xs) r → ⊥) (sym (no_items c.loop-row.left.now c.in_default.ensures.cases)) (λ h. h) in
    let inv = c.loop-row.invariant.rows r in
    ((λ h. inv.0 (h, none)), (λ h. (inv.1 h).0))

pub returns-clause-few : goal.returns-clause-few
returns-clause-few c = λ digits short. let few = c.loop-row.invariant.few digits short in omega (arith, few)
