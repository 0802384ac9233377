-- The text that is written of a transaction says that transaction.
use Rattle.std.proofs.Common.{◌≡◌, ℕ, true, false, ◌≤◌, List, [], ◌∷◌, length, map, Ok, inl, inr, sym, subst, ◌∙◌}
use Rattle.std.specs.Prelude.{◌⊎◌}
use Rattle.std.specs.List.{AllByRecursion}
use Rattle.std.proofs.Math.Dec.{ltb}
use Rattle.std.proofs.lemmas.Bool.{ltb-true, ltb-false}
use Rattle.sqltokens.specs.Syntax.{Spells}
use Rattle.sqlsyntax.specs.Transactions.{StatementForm, statement, is_statement, statements}
use Rattle.sqlchecks.specs.Columns.{Tables}
use Rattle.sqlread.specs.Shapes.{StatementShape}
use Rattle.sqlread.specs.Texts.{transaction_in}
use Rattle.sqlread.specs.Laws.{SaysTransaction, IsBounded}
use Rattle.rowtext.specs.Transactions.{forms_of, transaction_text}
use Rattle.rowtext.specs.Again.{IsWritten, SaysStatements, SaysKeptAgain, SaysTransactionsAgain}
use Rattle.rowtext.proofs.Steps.{decided, fits_row, all_row}
use Rattle.rowtext.proofs.ReadAgain.{lines_spell, transaction_lines}
use Rattle.rowtext.proofs.StatementsAgain.{statements_again, text_read}
use Rattle.rowtext.proofs.KeptColumns.{schema_keeps}

spellings : (forms : List StatementForm) → AllByRecursion (λ f. AllByRecursion IsWritten (statement.spell f)) forms → AllByRecursion (AllByRecursion IsWritten) (map statement.spell forms)
spellings [] all = tt
spellings (form ∷ forms) all = (all.0, spellings forms all.1)

written_spells : (tables : Tables) (list : List StatementShape) → statements.fits (forms_of tables list) → AllByRecursion IsWritten (statements.spell (forms_of tables list)) → Spells statements (transaction_text tables list) (forms_of tables list)
unfolding statements
written_spells tables list fits written =
    let forms = forms_of tables list in
    let row_of = fits_row statement statement is_statement (λ a f. f) forms fits in
    let each = all_row statement statement is_statement IsWritten (λ a w. w) forms row_of.0 written in
    subst (λ (text : List ℕ). Spells statements text forms) (sym (transaction_lines tables list)) (lines_spell forms fits (spellings forms each))

short : (tables : Tables) → IsBounded (transaction_in tables) → (text : List ℕ) (list : List StatementShape) → transaction_in tables text ≡ Ok list → length text ≤ 4096
short tables bounded text list e = by (decided (ltb 4096 (length text))) where
  by : (ltb 4096 (length text) ≡ true) ⊎ (ltb 4096 (length text) ≡ false) → length text ≤ 4096
  by (inl h) = let never = sym (bounded text (ltb-true 4096 (length text) h)) ∙ e in absurd cc
  by (inr h) = ltb-false 4096 (length text) h

pub kept_again : SaysTransaction → ((tables : Tables) → IsBounded (transaction_in tables)) → SaysKeptAgain
kept_again says bounded tables kept text list e =
    let read = ((says tables text (short tables (bounded tables) text list e)).0 list).0 e in
    let again = statements_again tables kept read.0 list (text_read tables text read.0 list read.1 read.2) in
    let spells = written_spells tables list again.fits again.written in
    let found : SaysStatements tables (transaction_text tables list) list = (forms_of tables list, spells, again.let_through) in
    (found, λ le. ((says tables (transaction_text tables list) le).0 list).1 found)

pub transactions_again : SaysTransaction → ((tables : Tables) → IsBounded (transaction_in tables)) → SaysTransactionsAgain
transactions_again says bounded written = kept_again says bounded _ (schema_keeps written)
