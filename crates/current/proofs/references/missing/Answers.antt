use Rattle.std.proofs.Common.{arith}
use Rattle.sqlread.specs.Meaning.{reference_of}
use Rattle.current.specs.Reads.{searching}
use Rattle.current.specs.Rows.{row_of}
use Rattle.current.specs.Places.{rows_at}
use Rattle.current.specs.Table.{rows_of_table}
use Rattle.current.proofs.Costs.{costs_next, costs_last}
use Rattle.current.proofs.Orphans.{missing_step}
use Rattle.current.proofs.references.missing.Goals as goal

pub loop-reference-preserved : goal.loop-reference-preserved
loop-reference-preserved c =
    let all = rows_at rows_of_table c.args.tables.now in
    let table = c.args.table.now in
    let row = row_of c.args.row.now in
    record {
      first =
          missing_step all c.args.place table row c.references-references.result.now c.loop-reference.reference-index c.reference-item.result _ _ _ _
          c.loop-reference-test.true c.reference-item.is c.in_ok-next.ensures.day c.lesser-day.ensures c.loop-reference.invariant.first;
      few = λ digits short.
          costs_next (reference_of c.args.place table) (λ f. searching digits (f.refers row.key row.values) row.period (all f.parent)) c.references-references.result.now c.loop-reference.reference-index c.reference-item.result
          c.loop-reference-test.true c.reference-item.is c.loop-reference.count c.missing_by.new.count _ (c.loop-reference.invariant.few digits short) (c.missing_by.ensures.few digits short);
    }

pub returns-in_err-next-clause-few : goal.returns-in_err-next-clause-few
returns-in_err-next-clause-few c digits short =
    let all = rows_at rows_of_table c.args.tables.now in
    let table = c.args.table.now in
    let row = row_of c.args.row.now in
    costs_last (reference_of c.args.place table) (λ f. searching digits (f.refers row.key row.values) row.period (all f.parent)) c.references-references.result.now c.loop-reference.reference-index c.reference-item.result
    c.loop-reference-test.true c.reference-item.is c.loop-reference.count c.missing_by.new.count _ (c.loop-reference.invariant.few digits short) (c.missing_by.ensures.few digits short)

pub returns-clause-few : goal.returns-clause-few
returns-clause-few c digits short = let few = c.loop-reference.invariant.few digits short in omega (arith, few)
