use Rattle.std.proofs.Common.{◌+◌, inl, inr, arith}
use Rattle.current.specs.Rows.{row_of}
use Rattle.current.specs.Reads.{judging}
use Rattle.current.specs.Suspects.{rows_by, references_by}
use Rattle.current.proofs.Costs.{costs_next, costs_last}
use Rattle.current.proofs.Looking.{looks_first, looks_then, looks_last, next_row, none_after}
use Rattle.current.proofs.suspects.Search.came.Goals as goal

pub loop-row-init : goal.loop-row-init
loop-row-init c = record { looks = looks_first c.args.self.now _ _ _ (λ r w. w.0); few = λ digits short. omega arith }

pub loop-row-preserved : goal.loop-row-preserved
loop-row-preserved c =
    let s = c.args.self.now in
    record {
      looks = looks_then s _ _ _ _ _ _ _ c.loop-row.invariant.looks c.in_ok-next.ensures.looks (λ r w left. elim (next_row c.args.added.now c.loop-row.row-index c.row-item.result c.loop-row-test.true c.row-item.is r left) [ inl same ↦ inl (same, w.1) | inr later ↦ inr later ]);
      few = λ digits short.
          costs_next row_of (λ r. digits + 1 + judging digits (rows_by s) (references_by s) r) c.args.added.now c.loop-row.row-index c.row-item.result
          c.loop-row-test.true c.row-item.is c.loop-row.count c.came_row.new.count _ (c.loop-row.invariant.few digits short) (c.came_row.ensures.few digits short);
    }

pub returns-in_err-next-clause-few : goal.returns-in_err-next-clause-few
returns-in_err-next-clause-few c digits short =
    let s = c.args.self.now in
    costs_last row_of (λ r. digits + 1 + judging digits (rows_by s) (references_by s) r) c.args.added.now c.loop-row.row-index c.row-item.result
    c.loop-row-test.true c.row-item.is c.loop-row.count c.came_row.new.count _ (c.loop-row.invariant.few digits short) (c.came_row.ensures.few digits short)

pub returns-clause-looks : goal.returns-clause-looks
returns-clause-looks c = looks_last c.args.self.now _ _ _ _ c.loop-row.invariant.looks (λ r w left. none_after c.args.added.now c.loop-row.row-index c.loop-row-test.false r left)

pub returns-clause-few : goal.returns-clause-few
returns-clause-few c digits short = let few = c.loop-row.invariant.few digits short in omega (arith, few)
