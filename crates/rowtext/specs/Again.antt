-- What lines say when they are read.
use Rattle.std.specs.Prelude.{◌≡◌, ℕ, ◌<◌, ◌≤◌, ◌==◌, false, List, [], ◌∷◌, ◌++◌, length, slice_get, Some, Result, Ok, map, flat_map}
use Rattle.fault.specs.declared.refusal.Refusal.{Refusal}
use Rattle.phrase.specs.Grammar.{Phrase}
use Rattle.schema.specs.declared.table.Kind.{Kind}
use Rattle.schema.specs.declared.syntax.CreateTable.{CreateTable}
use Rattle.schema.specs.Shape.{TableShape}
use Rattle.schema.specs.Tables.{schema_of}
use Rattle.sqlsyntax.specs.Shared.{literal, comparison}
use Rattle.sqlchecks.specs.Literals.{literal_in}
use Rattle.std.specs.List.{AllByRecursion}
use Rattle.sqltokens.specs.What.{What}
use Rattle.sqltokens.specs.Lexing.{token_of, tokens_of}
use Rattle.sqltokens.specs.Syntax.{said, Spells}
use Rattle.sqlsyntax.specs.Transactions.{StatementForm, portion, assignment, statement, statements}
use Rattle.namesyntax.specs.Parsing.{parsed}
use Rattle.sqlchecks.specs.declared.field.Field.{Field}
use Rattle.sqlchecks.specs.Columns.{Tables, field_at}
use Rattle.sqlchecks.specs.Comparisons.{comparison_in}
use Rattle.sqlread.specs.declared.statement.Assignment.{Assignment}
use Rattle.sqlread.specs.Changes.{is_system, portion_in, assignment_in, statements_in}
use Rattle.sqlread.specs.Texts.{transaction_in}
use Rattle.sqlread.specs.Shapes.{StatementShape}
use Rattle.rowtext.specs.Transactions.{literal_of, comparison_of, portion_of, assignment_of, forms_of, transaction_text}
use Rattle.rowtext.specs.Spacing.{Start, token_text, line}

-- the bytes of the token are that token
abbrev pub IsWritten : What → Type 0
IsWritten t = token_of (token_text t) ≡ Some t

-- each on a line, which LF ends
abbrev pub lines : List (List What) → List ℕ
lines list = flat_map (λ ts. line Start ts ++ 10 ∷ []) list

-- the tokens of lines are the tokens that were written on them
abbrev pub SaysWhatIsWritten : Type 0
SaysWhatIsWritten = (list : List (List What)) → AllByRecursion (AllByRecursion IsWritten) list → said (tokens_of (lines list)) ≡ flat_map (λ ts. ts) list

-- statements that the grammar has, each written on a line, are read as these statements
abbrev pub ReadsWhatIsWritten : Type 0
ReadsWhatIsWritten =
    (forms : List StatementForm) → statements.fits forms → AllByRecursion (AllByRecursion IsWritten) (map statement.spell forms)
    → parsed statements (lines (map statement.spell forms)) ≡ Ok forms

-- the text of a transaction is read as the forms of its statements, where the grammar has these
abbrev pub ReadsTransactions : Type 0
ReadsTransactions =
    (tables : Tables) (list : List StatementShape) → statements.fits (forms_of tables list) → AllByRecursion (AllByRecursion IsWritten) (map statement.spell (forms_of tables list))
    → parsed statements (transaction_text tables list) ≡ Ok (forms_of tables list)

-- ---- what is read, written, and read again

-- a form of the grammar whose tokens are written, and which the checks let through to this value
pub record IsReadAs {A B : Type 0} (phrase : Phrase What A) (checked : A → Result B Refusal) (form : A) (value : B) : Type 0 where
  pub fits : phrase.fits form
  pub written : AllByRecursion IsWritten (phrase.spell form)
  pub let_through : checked form ≡ Ok value

-- where any form is read as a value, the form that is written of the value is read as it again
abbrev pub ReadsAgain : {A B : Type 0} → Phrase What A → (A → Result B Refusal) → (B → A) → Type 0
ReadsAgain {A} {B} phrase checked written = (form : A) (value : B) → IsReadAs phrase checked form value → IsReadAs phrase checked (written value) value

abbrev pub ReadsLiterals : Type 0
ReadsLiterals = (kind : Kind) → ReadsAgain literal (literal_in kind) literal_of

abbrev pub ReadsComparisons : Type 0
ReadsComparisons = (table : TableShape) → ReadsAgain comparison (comparison_in table) (comparison_of table)

abbrev pub ReadsPortions : Type 0
ReadsPortions = (table : TableShape) → ReadsAgain portion (portion_in table) (portion_of table)

abbrev pub ReadsAssignments : Type 0
ReadsAssignments = (table : TableShape) (before : List Assignment) → ReadsAgain assignment (assignment_in table before) (assignment_of table)

-- a row of the table has each of its columns: in its key, among its values, or as an end of one of its two periods
abbrev pub KeepsColumns : TableShape → Type 0
KeepsColumns table = (c : ℕ) → c < length table.columns → is_system table c ≡ false → (c == table.start) ≡ false → (c == table.end) ≡ false → (f : Field) × (field_at table c ≡ Some f)

abbrev pub AllKeepColumns : Tables → Type 0
AllKeepColumns tables = (place : ℕ) (table : List ℕ × TableShape) → slice_get tables place ≡ Some table → KeepsColumns table.1

abbrev pub ReadsStatements : Type 0
ReadsStatements = (tables : Tables) → AllKeepColumns tables → ReadsAgain statements (statements_in tables) (forms_of tables)

-- the text spells some statements that the checks let through as these
abbrev pub SaysStatements : Tables → List ℕ → List StatementShape → Type 0
SaysStatements tables text list = (forms : List StatementForm) × Spells statements text forms × (statements_in tables forms ≡ Ok list)

-- Where any text is read as a transaction, the text that is written of it spells statements that the checks let through as the
-- same, and is read as the same where it is no longer than a transaction may be.
abbrev pub SaysAgain : Tables → Type 0
SaysAgain tables =
    (text : List ℕ) (list : List StatementShape) → transaction_in tables text ≡ Ok list
    → SaysStatements tables (transaction_text tables list) list × (length (transaction_text tables list) ≤ 4096 → transaction_in tables (transaction_text tables list) ≡ Ok list)

-- so it is of all tables whose rows have each of their columns
abbrev pub SaysKeptAgain : Type 0
SaysKeptAgain = (tables : Tables) → AllKeepColumns tables → SaysAgain tables

-- and so of all that CREATE TABLE statements make
abbrev pub SaysTransactionsAgain : Type 0
SaysTransactionsAgain = (written : List CreateTable) → SaysAgain (schema_of written)
