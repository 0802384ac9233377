use Rattle.std.proofs.Common.{◌≡◌, ◌+◌, ◌<◌, ◌≤◌, ◌++◌, ◌∙◌, map, ap, sym, subst, arith, length}
use Rattle.std.proofs.lemmas.List.{length-map}
use Rattle.std.proofs.Math.ListN.{length-set}
use Rattle.rowlaws.specs.Rows.{Has, Lists}
use Rattle.rowlaws.specs.Touching.{rows_without, IsTouched}
use Rattle.current.specs.Rows.{row_of}
use Rattle.current.specs.Current.{rows_of, table_count}
use Rattle.current.specs.Reads.{rows_touched}
use Rattle.current.specs.Table.{rows_of_table, HaveSame}
use Rattle.current.specs.Touched.{removed_in, added_in}
use Rattle.current.proofs.Counting.{table_few, touched_up_to, up_to}
use Rattle.current.proofs.Reading.{columns_each}
use Rattle.current.proofs.UndoTables.{table_before, done_more, left_more}
use Rattle.current.proofs.current.Current.undo_tables.Goals as goal

pub undo-requires : goal.undo-requires
undo-requires c =
    let s = c.args.self.now in
    let n = c.loop-n.n in
    let x = c.index_mut.result.now in
    let inv = c.loop-n.invariant in
    let is : rows_of_table x ≡ rows_of s n = table_before c.loop-n.self.tables.items n x (omega (arith, c.loop-n-test.true, c.len-n-end.ensures, s.tables.ok.0, inv.long)) c.index_mut.ensures.value ∙ inv.left n (omega arith) in
    let r = c.requires in
    (r.0 n, r.1 n, r.2 n, r.3 n, subst (λ rs. Lists rs (r.1 n)) (sym is) (r.4 n), subst (λ g. IsTouched (r.0 n) (r.1 n) g (map row_of c.added.result.now)) (sym c.removed.ensures) (subst (λ g. IsTouched (r.0 n) (r.1 n) (removed_in c.args.touched.now n) g) (sym c.added.ensures) (r.5 n)))

pub loop-n-preserved : goal.loop-n-preserved
loop-n-preserved c =
    let s = c.args.self.now in
    let n = c.loop-n.n in
    let x = c.index_mut.result.now in
    let y = c.undo.new.self in
    let tables = c.loop-n.self.tables.items in
    let removed = removed_in c.args.touched.now in
    let added = added_in c.args.touched.now in
    let inv = c.loop-n.invariant in
    let below : n < length tables = omega (arith, c.loop-n-test.true, c.len-n-end.ensures, s.tables.ok.0, inv.long) in
    let is : rows_of_table x ≡ rows_of s n = table_before tables n x below c.index_mut.ensures.value ∙ inv.left n (omega arith) in
    let e : rows_without (rows_of_table x) (map row_of c.added.result.now) ++ map row_of c.removed.result.now ≡ rows_without (rows_of s n) (added n) ++ removed n = λ i. rows_without (is i) (c.added.ensures i) ++ c.removed.ensures i in
    let here : HaveSame (rows_without (rows_of s n) (added n) ++ removed n) (rows_of_table y) = subst (λ rows. HaveSame rows (rows_of_table y)) e c.in_ok-undo.ensures.rows in
    record {
      long = length-set tables n y ∙ inv.long;
      done = done_more s.tables.items tables n y removed added below inv.done here;
      columns = λ m most before each. columns_each tables n x y below c.index_mut.ensures.value most m (c.loop-n.invariant.columns m most before each)
          (λ e old. c.undo.ensures.columns most old (λ r h. each r (subst (λ k. Has (removed k) r) (sym e) (subst (λ rs. Has rs r) c.removed.ensures h))));
      few = λ digits short.
          let went = sym (ap length c.removed.ensures) ∙ length-map c.removed.result.now row_of in
          let came = sym (ap length c.added.ensures) ∙ length-map c.added.result.now row_of in
          let rows = ap length is in
          let mine = short n in
          table_few n (length c.removed.result.now) (length c.added.result.now) (digits + digits + 2) c.args.count.now c.loop-n.count c.undo.new.count removed added (sym went) (sym came) (inv.few digits short)
          (c.undo.ensures.few digits (omega (arith, went, rows, mine)));
      schema = inv.schema;
      left = left_more s.tables.items tables n y removed added below inv.left;
    }

pub returns-clause-ok : goal.returns-clause-ok
returns-clause-ok c n l =
    let s = c.args.self.now in
    c.loop-n.invariant.done n (omega (arith, l, s.counted, c.loop-n-test.false, c.len-n-end.ensures, s.tables.ok.0))

pub returns-in_err-undo-clause-columns : goal.returns-in_err-undo-clause-columns
returns-in_err-undo-clause-columns c = λ m most before each.
    let s = c.args.self.now in
    let n = c.loop-n.n in
    let x = c.index_mut.result.now in
    let y = c.undo.new.self in
    let tables = c.loop-n.self.tables.items in
    let removed = removed_in c.args.touched.now in
    let inv = c.loop-n.invariant in
    let below : n < length tables = omega (arith, c.loop-n-test.true, c.len-n-end.ensures, s.tables.ok.0, inv.long) in
    columns_each tables n x y below c.index_mut.ensures.value most m (c.loop-n.invariant.columns m most before each)
    (λ e old. c.undo.ensures.columns most old (λ r h. each r (subst (λ k. Has (removed k) r) (sym e) (subst (λ rs. Has rs r) c.removed.ensures h))))

pub returns-clause-few : goal.returns-clause-few
returns-clause-few c = λ digits short.
    let s = c.args.self.now in
    let touched = c.args.touched.now in
    let n = c.loop-n.n in
    let counted = s.counted in
    let below : n ≤ table_count s = omega (arith, counted, c.len-n-end.ensures, s.tables.ok.0) in
    up_to (rows_touched n (removed_in touched) (added_in touched)) (rows_touched (table_count s) (removed_in touched) (added_in touched)) (digits + digits + 2) c.loop-n.count c.args.count.now
    (touched_up_to n (table_count s) (removed_in touched) (added_in touched) below) (c.loop-n.invariant.few digits short)

pub returns-in_err-undo-clause-few : goal.returns-in_err-undo-clause-few
returns-in_err-undo-clause-few c = λ digits short.
    let s = c.args.self.now in
    let touched = c.args.touched.now in
    let removed = removed_in touched in
    let added = added_in touched in
    let n = c.loop-n.n in
    let x = c.index_mut.result.now in
    let inv = c.loop-n.invariant in
    let is : rows_of_table x ≡ rows_of s n = table_before c.loop-n.self.tables.items n x (omega (arith, c.loop-n-test.true, c.len-n-end.ensures, s.tables.ok.0, inv.long)) c.index_mut.ensures.value ∙ inv.left n (omega arith) in
    let went = sym (ap length c.removed.ensures) ∙ length-map c.removed.result.now row_of in
    let came = sym (ap length c.added.ensures) ∙ length-map c.added.result.now row_of in
    let rows = ap length is in
    let mine = short n in
    let here = table_few n (length c.removed.result.now) (length c.added.result.now) (digits + digits + 2) c.args.count.now c.loop-n.count c.undo.new.count removed added (sym went) (sym came) (inv.few digits short)
    (c.undo.ensures.few digits (omega (arith, went, rows, mine))) in
    let counted = s.counted in
    let below : n + 1 ≤ table_count s = omega (arith, counted, c.loop-n-test.true, c.len-n-end.ensures, s.tables.ok.0) in
    up_to (rows_touched (n + 1) removed added) (rows_touched (table_count s) removed added) (digits + digits + 2) c.undo.new.count c.args.count.now (touched_up_to (n + 1) (table_count s) removed added below) here
