-- What texts say: a transaction, a query.
use Rattle.std.specs.Prelude.{ℕ, List, length, if◌then◌else◌, nat_lt, Result, Err}
use Rattle.fault.specs.declared.refusal.Refusal.{Refusal}
use Rattle.fault.specs.declared.refusal.Refusal.TheVariants.{TooLarge}
use Rattle.namesyntax.specs.Parsing.{parsed}
use Rattle.sqlsyntax.specs.Transactions.{statements}
use Rattle.sqlsyntax.specs.Queries.{query}
use Rattle.sqlchecks.specs.Answering.{◌>>=◌}
use Rattle.sqlchecks.specs.Columns.{Tables}
use Rattle.sqlread.specs.Shapes.{StatementShape, QueryShape}
use Rattle.sqlread.specs.Changes.{statements_in}
use Rattle.sqlread.specs.Questions.{question_in}

-- the statements that a text spells, or why it spells none
unfoldable pub transaction_in : Tables → List ℕ → Result (List StatementShape) Refusal
transaction_in tables text = if nat_lt 4096 (length text) then Err TooLarge else (parsed statements text >>= statements_in tables)

-- the query that a text spells, or why it spells none
unfoldable pub query_in : Tables → List ℕ → Result QueryShape Refusal
query_in tables text = if nat_lt 4096 (length text) then Err TooLarge else (parsed query text >>= question_in tables)
