-- Statements over several tables, references from period to period, and transactions.
-- As in SQL:2011 a child row's period lies inside the periods of its parent rows, taken together. Here that is judged
-- once, as the transaction ends. A refused transaction changes nothing.
use Rattle.std.specs.Prelude.{ℕ, ◌==◌, Bool, false, ◌&&◌, nat_lt, is_none, List, [], if◌then◌else◌, Result, Ok, Err, find}
use Rattle.std.specs.List.{list_any}
use Rattle.std.specs.Option.{option_map_or}
use Rattle.std.specs.Result.{result_unwrap_or}
use Rattle.model.specs.Tables.{Fact}
use Rattle.fault.specs.declared.refusal.Refusal.{Refusal}
use Rattle.fault.specs.declared.refusal.Refusal.TheVariants.{NoParent, RowLimit}
use Rattle.model.specs.Transactions.{State, Statement, Reference, Language, Place, places}
use Rattle.believed.specs.Days.{key_text, day_text}
use Rattle.believed.specs.Statements.{changed, row_count}
use Rattle.believed.specs.Results.{◌>>=◌, ◌>>◌, refuse_if, fold_ok}

-- a statement changes one table, and leaves it at most 20,000 rows: 22
abbrev pub run_statement : ℕ → State → Statement → Result State Refusal
run_statement t state s = do
  table ← changed s.action t (state s.table)
  refuse_if (nat_lt 20000 (row_count table)) RowLimit
  Ok (λ n. if n == s.table then table else state n)

-- the day is filled, and for a foreign key of its table the day of the parent's key that its values name is not
abbrev pub is_orphan : Language → State → Place → Bool
is_orphan language state p =
    let lacks = λ (c : Fact) (r : Reference). r.child == p.table && is_none ((state r.parent).fact (r.refers p.key c.values) p.day) in
    option_map_or (λ c. list_any (lacks c) language.references) ((state p.table).fact p.key p.day) false

-- the state after all statements of the text, or the first refusal: 21 names the first day without a parent
unfoldable pub transacted : Language → ℕ → List ℕ → State → Result State Refusal
transacted language t text state = do
  new ← fold_ok (run_statement t) state (result_unwrap_or (language.reads text) [])
  option_map_or (λ p. Err (NoParent (language.name p.table) (key_text p.key) (day_text p.day))) (find (is_orphan language new) (places language new)) (Ok new)
