use Rattle.std.proofs.Common.{◌≡◌, ◌∙◌, drop, map, length, ap, arith, subst, sym, ◌+◌, ◌⊎◌, inl, inr, false}
use Rattle.std.specs.List.{list_any}
use Rattle.model.specs.Tables.{Row}
use Rattle.rowlaws.specs.Rows.{Has}
use Rattle.rowlaws.specs.Changes.{clashes}
use Rattle.current.specs.Rows.{row_of}
use Rattle.current.specs.ByKey.{strands_of}
use Rattle.current.specs.Table.{rows_of_table, CanPut, IsWith}
use Rattle.current.proofs.Lists.{drop_here, drop_none}
use Rattle.current.specs.Reads.{is_of}
use Rattle.current.proofs.Counting.{one_more, up_to}
use Rattle.current.proofs.Reading.{has_at, no_more}
use Rattle.current.proofs.Moves.{any_strand}
use Rattle.current.proofs.Undoing.{put_clear, put_more, join_more}
use Rattle.current.proofs.table.TableRows.put_all.Goals as goal

pub loop-row-init : goal.loop-row-init
loop-row-init c = record { columns = λ most old each. old; longer = omega arith; few = λ digits short. omega arith; fits = c.requires; joined = λ r. ((λ h. h), (λ h. h)) }

pub put-requires : goal.put-requires
put-requires c =
    let rows = c.args.rows.now in
    let i = c.loop-row.row-index in
    let row = c.row-item.result in
    let s = c.loop-row.self in
    let fits = subst (λ xs. CanPut (rows_of_table s) (map row_of xs)) (drop_here rows i row c.loop-row-test.true c.row-item.is) c.loop-row.invariant.fits in
    let clear = put_clear (row_of row) (map row_of (drop (i + 1) rows)) (rows_of_table s) fits in
    let strand = any_strand s.index.strands s.ordered s.in_strands row.key (row_of row).period ∙ clear in
    subst (λ (r : Row). list_any (clashes r.key r.period) (strands_of s.index.strands r.key) ≡ false) (sym c.in_ok-clone.ensures.cases) strand

pub loop-row-preserved : goal.loop-row-preserved
loop-row-preserved c =
    let rows = c.args.rows.now in
    let i = c.loop-row.row-index in
    let row = c.row-item.result in
    let rest = map row_of (drop (i + 1) rows) in
    let s = c.loop-row.self in
    let old = rows_of_table c.args.self.now in
    let now = rows_of_table s in
    let more = rows_of_table c.put.new.self in
    let here = drop_here rows i row c.loop-row-test.true c.row-item.is in
    let fits = subst (λ xs. CanPut now (map row_of xs)) here c.loop-row.invariant.fits in
    let joined = subst (λ xs. (r : Row) → ((Has now r ⊎ Has (map row_of xs) r) → (Has old r ⊎ Has (map row_of rows) r)) × ((Has old r ⊎ Has (map row_of rows) r) → (Has now r ⊎ Has (map row_of xs) r))) here c.loop-row.invariant.joined in
    let put : IsWith (row_of row) now more = subst (λ r. IsWith r now more) c.in_ok-clone.ensures.cases c.in_ok-put.ensures.ok in
    let wide = c.put.ensures.columns in
    let key = ap (λ (r : Row). length r.key) c.in_ok-clone.ensures.cases in
    let among : Has (map row_of rows) (row_of row) = has_at row_of rows i row c.loop-row-test.true c.row-item.is in
    let grows = c.put.ensures.longer in
    let was_longer = c.loop-row.invariant.longer in
    record {
      columns = λ most before each. let was = c.loop-row.invariant.columns most before each in let mine = each (row_of row) among in omega (arith, wide, key, was, mine);
      longer = omega (arith, grows, was_longer);
      few = λ digits short. one_more i digits c.loop-row.count c.put.new.count c.args.count.now (c.put.ensures.few digits (let of_key = no_more (is_of c.in_ok-clone.field-0.key) now in omega (arith, of_key, was_longer, short, c.loop-row-test.true))) (c.loop-row.invariant.few digits short);
      fits = put_more (row_of row) rest now more fits put;
      joined = join_more (row_of row) rest now more old (map row_of rows) put joined;
    }

pub returns-clause-rows : goal.returns-clause-rows
returns-clause-rows c = λ r.
    let left = drop_none c.args.rows.now c.loop-row.row-index c.loop-row-test.false in
    let inv = c.loop-row.invariant.joined r in
    ((λ h. inv.0 (inl h)), (λ h. elim (inv.1 h) [ inl a ↦ a | inr b ↦ absurd (subst (λ xs. Has (map row_of xs) r) left b) ]))

pub returns-in_err-put-clause-columns : goal.returns-in_err-put-clause-columns
returns-in_err-put-clause-columns c = λ most before each.
    let row = c.row-item.result in
    let wide = c.put.ensures.columns in
    let key = ap (λ (r : Row). length r.key) c.in_ok-clone.ensures.cases in
    let mine = each (row_of row) (has_at row_of c.args.rows.now c.loop-row.row-index row c.loop-row-test.true c.row-item.is) in
    let was = c.loop-row.invariant.columns most before each in
    omega (arith, wide, key, was, mine)

pub returns-in_err-clone-clause-few : goal.returns-in_err-clone-clause-few
returns-in_err-clone-clause-few c = λ digits short.
    let before = c.loop-row-test.true in
    up_to c.loop-row.row-index (length c.args.rows.now) digits c.loop-row.count c.args.count.now (omega (arith, before)) (c.loop-row.invariant.few digits short)

pub returns-in_err-put-clause-few : goal.returns-in_err-put-clause-few
returns-in_err-put-clause-few c = λ digits short.
    let before = c.loop-row-test.true in
    let was_longer = c.loop-row.invariant.longer in
    let of_key = no_more (is_of c.in_ok-clone.field-0.key) (rows_of_table c.loop-row.self) in
    let here = one_more c.loop-row.row-index digits c.loop-row.count c.put.new.count c.args.count.now (c.put.ensures.few digits (omega (arith, of_key, was_longer, short, before))) (c.loop-row.invariant.few digits short) in
    up_to (c.loop-row.row-index + 1) (length c.args.rows.now) digits c.put.new.count c.args.count.now (omega (arith, before)) here

pub returns-clause-few : goal.returns-clause-few
returns-clause-few c = λ digits short.
    up_to c.loop-row.row-index (length c.args.rows.now) digits c.loop-row.count c.args.count.now (omega arith) (c.loop-row.invariant.few digits short)
