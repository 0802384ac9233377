use Rattle.std.proofs.Common.{◌≡◌, map}
use Rattle.sqlread.specs.Shapes.{insert_of}
use Rattle.rowtext.proofs.Spaced.{commas, separator}
use Rattle.rowtext.proofs.Statements.{given_within, cell_text}
use Rattle.rowtext.proofs.transactions.put_row.Given as goal

abbrev pub invariant-loop-column : goal.invariant-loop-column
invariant-loop-column g l =
    let written = map (cell_text l.table (insert_of l.insert)) (given_within l.table l.column) in
    (l.separator ≡ separator written) × g.S.Sink.takes l.initial.sink (commas written) l.sink
