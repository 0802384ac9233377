-- Statements and queries as plain values: tables by their places, columns by where a row keeps them, days and instants as numbers.
use Rattle.std.specs.Prelude.{ℕ, List, Option, map}
use Rattle.std.specs.Option.{option_map}
use Rattle.period.specs.declared.period.Period.{Period as Declared}
use Rattle.model.specs.declared.value.Value.{Value as RowValue}
use Rattle.model.specs.Tables.{Period, Row}
use Rattle.model.specs.Periods.{period_of}
use Rattle.model.specs.Answers.{SystemTime}
use Rattle.sqlsyntax.specs.declared.forms.Relation.{Relation}
use Rattle.sqlchecks.specs.declared.comparison.Comparison.{Comparison}
use Rattle.sqlread.specs.declared.statement.Assignment.{Assignment}
use Rattle.sqlread.specs.declared.statement.Insert.{Insert as InsertRead}
use Rattle.sqlread.specs.declared.statement.Update.{Update as UpdateRead}
use Rattle.sqlread.specs.declared.statement.Delete.{Delete as DeleteRead}
use Rattle.sqlread.specs.declared.statement.Statement.{Statement as StatementRead}
use Rattle.sqlread.specs.declared.statement.Statement.TheVariants as statements
use Rattle.sqlread.specs.declared.query.Query.{Query as QueryRead}
use Rattle.sqlread.specs.declared.time.SystemTime.{SystemTime as TimeRead}
use Rattle.sqlread.specs.declared.term.Term as terms'
use Rattle.sqlread.specs.declared.term.Term.TheVariants as terms

-- a row with this key, these values, this period and this system start
abbrev pub row : List RowValue → List RowValue → Declared → ℕ → Row
row key values period system_start = record { key = key; period = period_of period; values = values; system_start = system_start }

-- ---- statements

-- one row
pub record InsertShape : Type 0 where
  pub table : ℕ
  pub key : List RowValue
  pub values : List RowValue
  pub period : Period

pub record UpdateShape : Type 0 where
  pub table : ℕ
  pub portion : Option Period
  pub assignments : List Assignment
  pub conditions : List Comparison

pub record DeleteShape : Type 0 where
  pub table : ℕ
  pub portion : Option Period
  pub conditions : List Comparison

pub data StatementShape : Type 0 where
  Insert : InsertShape → StatementShape
  Update : UpdateShape → StatementShape
  Delete : DeleteShape → StatementShape

abbrev pub insert_of : InsertRead → InsertShape
insert_of i = record { table = i.table; key = i.key.items; values = i.values.items; period = period_of i.period }

abbrev pub update_of : UpdateRead → UpdateShape
update_of u = record { table = u.table; portion = option_map period_of u.portion; assignments = u.assignments.items; conditions = u.conditions.items }

abbrev pub delete_of : DeleteRead → DeleteShape
delete_of d = record { table = d.table; portion = option_map period_of d.portion; conditions = d.conditions.items }

abbrev pub statement_of : StatementRead → StatementShape
statement_of (statements.Insert i) = Insert (insert_of i)
statement_of (statements.Update u) = Update (update_of u)
statement_of (statements.Delete d) = Delete (delete_of d)

-- ---- queries

pub data TermShape : Type 0 where
  Compares : Comparison → TermShape
  ContainsDay : ℕ → TermShape
  Contains : Period → TermShape
  Relates : Relation → Period → TermShape

pub record QueryShape : Type 0 where
  pub table : ℕ
  pub time : Option SystemTime
  pub terms : List TermShape

abbrev pub term_of : terms'.Term → TermShape
term_of (terms.Compares c) = Compares c
term_of (terms.ContainsDay d) = ContainsDay d.number
term_of (terms.Contains p) = Contains (period_of p)
term_of (terms.Relates r p) = Relates r (period_of p)

abbrev pub time_of : TimeRead → SystemTime
time_of time = record { first = time.first; last = time.last }

abbrev pub query_of : QueryRead → QueryShape
query_of q = record { table = q.table; time = option_map time_of q.time; terms = map term_of q.terms.items }
