use Rattle.std.proofs.Common.{◌≡◌, map}
use Rattle.rowtext.specs.Transactions.{column_name}
use Rattle.rowtext.proofs.Spaced.{commas, separator}
use Rattle.rowtext.proofs.Statements.{given_within}
use Rattle.rowtext.proofs.transactions.put_columns.Given as goal

abbrev pub invariant-loop-column : goal.invariant-loop-column
invariant-loop-column g l =
    let written = map (column_name l.table) (given_within l.table l.column) in
    (l.separator ≡ separator written) × g.S.Sink.takes l.initial.sink (commas written) l.sink
