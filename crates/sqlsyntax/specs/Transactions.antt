-- The grammar of transactions.
use Rattle.std.specs.Prelude.{Bool, true, false, ◌||◌, List, Option, ◌⊎◌, map}
use Rattle.std.specs.Option.{option_map}
use mathlib.Core.Logic.{inl, inr}
use Rattle.sqltokens.specs.declared.token.Keyword.TheVariants as keyword
use Rattle.sqltokens.specs.declared.token.Sign.TheVariants.{Semicolon, Open, Close, Comma, Equal, Plus, Minus}
use Rattle.sqlsyntax.specs.declared.forms.Portion.{Portion}
use Rattle.sqlsyntax.specs.declared.forms.NewValue.{NewValue}
use Rattle.sqlsyntax.specs.declared.forms.NewValue.TheVariants as values
use Rattle.sqlsyntax.specs.declared.forms.Assignment.{Assignment}
use Rattle.sqlsyntax.specs.declared.forms.Insert.{Insert}
use Rattle.sqlsyntax.specs.declared.forms.Update.{Update}
use Rattle.sqlsyntax.specs.declared.forms.Delete.{Delete}
use Rattle.sqlsyntax.specs.declared.forms.Statement.{Statement}
use Rattle.sqlsyntax.specs.declared.forms.Statement.TheVariants as kinds
use Rattle.sqltokens.specs.What.{What, is_word, is_symbol, word, sign}
use Rattle.sqltokens.specs.Classes.{digits, is_name}
use Rattle.phrase.specs.Grammar.{Phrase, one, only, ◌▹◌, ◌◃◌, ◌▸◌, optional, either, row}
use Rattle.namesyntax.specs.Names.{Bytes, names, name_of, names_of, name_list}
use Rattle.sqlsyntax.specs.Shared.{date, LiteralForm, literal, literal_form, ComparisonForm, comparison_form, condition}

unfoldable pub another_literal : Phrase What LiteralForm
another_literal = sign Comma ▹ literal

-- literal { "," literal }
unfoldable pub literals : Phrase What (List LiteralForm)
literals = row literal (is_symbol Comma) another_literal

-- the period's name and the two dates
abbrev pub PortionForm : Type 0
PortionForm = Bytes × (Bytes × Bytes)

-- FOR PORTION OF name FROM date TO date
unfoldable pub portion : Phrase What PortionForm
portion = word keyword.For ▹ word keyword.Portion ▹ word keyword.Of ▹ one names ▸ word keyword.From ▹ date ▸ word keyword.To ▹ date

-- a column, plus or minus, and digits; or a literal
abbrev pub ValueForm : Type 0
ValueForm = (Bytes × ((Unit {0} ⊎ Unit {0}) × Bytes)) ⊎ LiteralForm

-- name ( "+" | "-" ) digits | literal
unfoldable pub new_value : Phrase What ValueForm
new_value = either is_name (one names ▸ either (is_symbol Plus) (only (sign Plus)) (only (sign Minus)) ▸ one digits) literal

abbrev pub AssignmentForm : Type 0
AssignmentForm = Bytes × ValueForm

-- name "=" value
unfoldable pub assignment : Phrase What AssignmentForm
assignment = one names ▸ sign Equal ▹ new_value

unfoldable pub another_assignment : Phrase What AssignmentForm
another_assignment = sign Comma ▹ assignment

-- assignment { "," assignment }
unfoldable pub assignments : Phrase What (List AssignmentForm)
assignments = row assignment (is_symbol Comma) another_assignment

-- the table's name, the column list and the literals
abbrev pub InsertForm : Type 0
InsertForm = Bytes × (List Bytes × List LiteralForm)

unfoldable pub insert : Phrase What InsertForm
insert = word keyword.Insert ▹ word keyword.Into ▹ one names ▸ sign Open ▹ name_list ▸ sign Close ▹ word keyword.Values ▹ sign Open ▹ literals ◃ sign Close ◃ sign Semicolon

-- the table's name, the portion, the assignments and the comparisons
abbrev pub UpdateForm : Type 0
UpdateForm = Bytes × (Option PortionForm × (List AssignmentForm × Option (List ComparisonForm)))

unfoldable pub update : Phrase What UpdateForm
update = word keyword.Update ▹ one names ▸ optional (is_word keyword.For) portion ▸ word keyword.Set ▹ assignments ▸ optional (is_word keyword.Where) condition ◃ sign Semicolon

-- the table's name, the portion and the comparisons
abbrev pub DeleteForm : Type 0
DeleteForm = Bytes × (Option PortionForm × Option (List ComparisonForm))

unfoldable pub delete : Phrase What DeleteForm
delete = word keyword.Delete ▹ word keyword.From ▹ one names ▸ optional (is_word keyword.For) portion ▸ optional (is_word keyword.Where) condition ◃ sign Semicolon

abbrev pub StatementForm : Type 0
StatementForm = InsertForm ⊎ (UpdateForm ⊎ DeleteForm)

unfoldable pub statement : Phrase What StatementForm
statement = either (is_word keyword.Insert) insert (either (is_word keyword.Update) update delete)

abbrev pub is_statement : What → Bool
is_statement t = is_word keyword.Insert t || (is_word keyword.Update t || is_word keyword.Delete t)

-- statement { statement }
unfoldable pub statements : Phrase What (List StatementForm)
statements = row statement is_statement statement

-- ---- the parts of what the code reads

abbrev pub portion_form : Portion → PortionForm
portion_form p = (name_of p.period, (p.from.source.now, p.to.source.now))

-- plus, or minus where the digits are subtracted
abbrev pub side : Bool → Unit {0} ⊎ Unit {0}
side false = inl tt
side true = inr tt

abbrev pub value_form : NewValue → ValueForm
value_form (values.Literal l) = inr (literal_form l)
value_form (values.Changed c s d) = inl (name_of c, (side s, d.digits.now))

abbrev pub assignment_form : Assignment → AssignmentForm
assignment_form a = (name_of a.column, value_form a.value)

abbrev pub insert_form : Insert → InsertForm
insert_form i = (name_of i.table, (names_of i.columns.items, map literal_form i.values.items))

abbrev pub update_form : Update → UpdateForm
update_form u = (name_of u.table, (option_map portion_form u.portion, (map assignment_form u.assignments.items, option_map (λ v. map comparison_form v.items) u.comparisons)))

abbrev pub delete_form : Delete → DeleteForm
delete_form d = (name_of d.table, (option_map portion_form d.portion, option_map (λ v. map comparison_form v.items) d.comparisons))

abbrev pub statement_form : Statement → StatementForm
statement_form (kinds.Insert i) = inl (insert_form i)
statement_form (kinds.Update u) = inr (inl (update_form u))
statement_form (kinds.Delete d) = inr (inr (delete_form d))

abbrev pub transaction_form : List Statement → List StatementForm
transaction_form xs = map statement_form xs
