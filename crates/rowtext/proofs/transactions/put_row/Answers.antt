use Rattle.std.proofs.Common.{◌≡◌, ◌∙◌, ◌<◌, List, ℕ, refl, sym, subst, length, map, arith}
use Rattle.sqlsyntax.specs.Transactions.{literals}
use Rattle.sqlread.specs.Shapes.{insert_of}
use Rattle.rowtext.specs.Spacing.{Start, line}
use Rattle.rowtext.specs.Transactions.{cell_of, given_columns}
use Rattle.answertext.proofs.Putting.{at_err, fault_in}
use Rattle.rowtext.proofs.Statements.{given_within, cell_text, none_there, system_left, next_separator, next_written, some_given, after_column, around_column, row_line, row_written}
use Rattle.rowtext.proofs.transactions.put_row.Goals.{then-not-is_system+in_ok-put+in_ok-put_cell, else-not-is_system}
use Rattle.rowtext.proofs.transactions.put_row.Goals as goal

pub returns-in_err-put : goal.returns-in_err-put
returns-in_err-put g c =
    let table = c.args.table.now in
    let row = insert_of c.args.insert.now in
    let n = c.loop-column.column in
    let text = cell_text table row in
    let given = sym c.is_system.ensures ∙ c.if-not-is_system.true in
    let stands = c.loop-column.invariant.0 in
    let within : n < length table.columns = omega (arith, c.column_count-column-end.ensures) in
    let begun = g.met.S.Sink.then_begins _ _ _ _ _ c.loop-column.invariant.1 (g.met.S.Sink.longer _ _ _ (text n) c.in_err-put.ensures) in
    fault_in g.S.Sink.takes g.S.Sink.begins _ _ c.from_residual.result _ _ c.from_residual.ensures.0
    (around_column table text n _ _ given stands refl within ∙ row_line table row (some_given table text n _ _ given stands refl within))
    (g.met.S.Sink.longer _ _ _ (after_column table text n _ _ given stands refl within) begun)

pub returns-in_err-put_cell : goal.returns-in_err-put_cell
returns-in_err-put_cell g c =
    let table = c.args.table.now in
    let row = insert_of c.args.insert.now in
    let n = c.loop-column.column in
    let text = cell_text table row in
    let given = sym c.is_system.ensures ∙ c.if-not-is_system.true in
    let stands = c.loop-column.invariant.0 in
    let within : n < length table.columns = omega (arith, c.column_count-column-end.ensures) in
    let begun = g.met.S.Sink.then_begins _ _ _ _ _ c.loop-column.invariant.1 (g.met.S.Sink.then_begins _ _ _ _ _ c.in_ok-put.ensures c.in_err-put_cell.ensures) in
    fault_in g.S.Sink.takes g.S.Sink.begins _ _ c.from_residual-in_err-put_cell.result _ _ c.from_residual-in_err-put_cell.ensures.0
    (around_column table text n _ _ given stands refl within ∙ row_line table row (some_given table text n _ _ given stands refl within))
    (g.met.S.Sink.longer _ _ _ (after_column table text n _ _ given stands refl within) begun)

pub loop-column-preserved : goal.loop-column-preserved
loop-column-preserved g c = elim c.if-not-is_system.branch [
  | then-not-is_system+in_ok-put+in_ok-put_cell w ↦
      let table = c.args.table.now in
      let row = insert_of c.args.insert.now in
      let n = c.loop-column.column in
      let given = sym c.is_system.ensures ∙ w.if-not-is_system.true in
      let next = next_written table (cell_text table row) n _ _ given c.loop-column.invariant.0 refl in
      rw (w.separator-is, w.sink-is) (
        next_separator table (cell_text table row) n given,
        subst (λ (t : List ℕ). g.S.Sink.takes c.args.sink.now t w.put_cell.new.sink) next
            (g.met.S.Sink.then_takes _ _ _ _ _ c.loop-column.invariant.1 (g.met.S.Sink.then_takes _ _ _ _ _ w.in_ok-put.ensures w.in_ok-put_cell.ensures)),
      )
  | else-not-is_system w ↦
      let table = c.args.table.now in
      let row = insert_of c.args.insert.now in
      let n = c.loop-column.column in
      let same = system_left table (cell_text table row) n (sym c.is_system.ensures ∙ w.if-not-is_system.false) in
      rw (w.separator-is, w.sink-is, same) c.loop-column.invariant
]

pub returns-in_err-some_written : goal.returns-in_err-some_written
returns-in_err-some_written g c =
    let table = c.args.table.now in
    let row = insert_of c.args.insert.now in
    let n = c.loop-column.column in
    let whole : List ℕ = line Start (literals.spell (map (cell_of table row) (given_columns table))) in
    let none = none_there (map (cell_text table row) (given_within table n)) _ c.loop-column.invariant.0 c.in_err-some_written.ensures in
    let nothing = subst (λ (t : List ℕ). g.S.Sink.takes c.args.sink.now t c.loop-column.sink) none c.loop-column.invariant.1 in
    at_err c.from_residual-in_err-some_written.result _ _ c.from_residual-in_err-some_written.ensures.0 (g.met.S.Sink.then_begins _ _ _ _ _ nothing (g.met.S.Sink.not_begun _ whole))

pub returns : goal.returns
returns g c =
    let table = c.args.table.now in
    let row = insert_of c.args.insert.now in
    let n = c.loop-column.column in
    let all : n ≡ length table.columns = omega (arith, c.column_count-column-end.ensures, c.loop-column-test.false, c.loop-column.auto.column-end) in
    subst (λ (t : List ℕ). g.S.Sink.takes c.args.sink.now t c.loop-column.sink) (row_written table row n _ all c.loop-column.invariant.0 c.in_ok-some_written.ensures) c.loop-column.invariant.1
