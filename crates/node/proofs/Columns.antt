-- An answer of tables that are those of some list has the columns of their table.
use Rattle.std.proofs.Common.{◌≡◌, Result, Ok, Err, List, IfOk}
use Rattle.std.proofs.Math.Logic.{∥∥₁_elim}
use Rattle.std.proofs.Props.{props}
use Rattle.fault.specs.declared.refusal.Refusal.{Refusal}
use Rattle.answer.specs.declared.Answer.{Answer}
use Rattle.answer.specs.Answers.{columns_in}
use Rattle.sqlchecks.specs.Columns as columns
use Rattle.sqlread.specs.declared.query.Query.{Query}
use Rattle.model.specs.declared.entry.Entry.{Entry}
use Rattle.apply.specs.declared.tables.Tables.{Tables}
use Rattle.apply.specs.View.{AreTables}
use Rattle.node.specs.Applying.{AreMade}

pub columns_made : (schema : columns.Tables) (tables : Tables) (r : Result Answer Refusal) (q : Query) → AreMade schema tables
    → ((s : columns.Tables) (list : List Entry) → AreTables s list tables → IfOk r (λ a. a.columns.items ≡ columns_in s q.table)) → IfOk r (λ a. a.columns.items ≡ columns_in schema q.table)
columns_made schema tables (Ok a) q made all = ∥∥₁_elim made (hlevel props) (λ some. all schema some.0 some.1)
columns_made schema tables (Err e) q made all = tt
