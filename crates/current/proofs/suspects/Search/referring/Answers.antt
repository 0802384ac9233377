use Rattle.std.proofs.Common.{cond, inl, inr, arith}
use Rattle.current.specs.Rows.{row_of}
use Rattle.current.specs.Reads.{judging}
use Rattle.current.specs.Suspects.{rows_by, references_by, refers_among}
use Rattle.current.proofs.Costs.{costs_next, costs_last}
use Rattle.current.proofs.Looking.{looks_first, looks_then, looks_last, next_row, none_after, row_here}
use Rattle.current.proofs.suspects.Search.referring.Goals as goal

pub loop-row-init : goal.loop-row-init
loop-row-init c = record { looks = looks_first c.args.self.now _ _ _ (λ r w. w.0); few = λ digits short. omega arith }

pub referring_row-requires : goal.referring_row-requires
referring_row-requires c = c.requires (row_of c.row-item.result) (row_here c.args.rows.now c.loop-row.row-index c.row-item.result c.loop-row-test.true c.row-item.is)

pub loop-row-preserved : goal.loop-row-preserved
loop-row-preserved c =
    let s = c.args.self.now in
    record {
      looks = looks_then s _ _ _ _ _ _ _ c.loop-row.invariant.looks c.in_ok-next.ensures.looks (λ r w left. elim (next_row c.args.rows.now c.loop-row.row-index c.row-item.result c.loop-row-test.true c.row-item.is r left) [ inl same ↦ inl (same, w.1) | inr later ↦ inr later ]);
      few = λ digits short.
          costs_next row_of (λ r. cond (refers_among s.table.now c.args.columns.now c.args.keys.now.keys r) (judging digits (rows_by s) (references_by s) r) 0) c.args.rows.now c.loop-row.row-index c.row-item.result
          c.loop-row-test.true c.row-item.is c.loop-row.count c.referring_row.new.count _ (c.loop-row.invariant.few digits short) (c.referring_row.ensures.few digits short);
    }

pub returns-in_err-next-clause-few : goal.returns-in_err-next-clause-few
returns-in_err-next-clause-few c digits short =
    let s = c.args.self.now in
    costs_last row_of (λ r. cond (refers_among s.table.now c.args.columns.now c.args.keys.now.keys r) (judging digits (rows_by s) (references_by s) r) 0) c.args.rows.now c.loop-row.row-index c.row-item.result
    c.loop-row-test.true c.row-item.is c.loop-row.count c.referring_row.new.count _ (c.loop-row.invariant.few digits short) (c.referring_row.ensures.few digits short)

pub returns-clause-looks : goal.returns-clause-looks
returns-clause-looks c = looks_last c.args.self.now _ _ _ _ c.loop-row.invariant.looks (λ r w left. none_after c.args.rows.now c.loop-row.row-index c.loop-row-test.false r left)

pub returns-clause-few : goal.returns-clause-few
returns-clause-few c digits short = let few = c.loop-row.invariant.few digits short in omega (arith, few)
