use Rattle.std.proofs.Common.{take, map}
use Rattle.sqlread.specs.Shapes.{statement_of}
use Rattle.rowtext.specs.Transactions.{transaction_text}
use Rattle.rowtext.proofs.transactions.put_statements.Given as goal

abbrev pub invariant-loop-statement : goal.invariant-loop-statement
invariant-loop-statement g l = g.S.Sink.takes l.initial.sink (transaction_text l.schema (map statement_of (take l.statement-index l.statements))) l.sink
