-- Written statements are read as what they are.
use Rattle.std.proofs.Common.{◌≡◌, ℕ, List, [], ◌∷◌, ◌++◌, map, flat_map, Ok, Option, None, Some, refl, ap, ◌∙◌}
use Rattle.std.specs.Prelude.{slice_get, option_map}
use Rattle.std.specs.List.{AllByRecursion, cons_option}
use Rattle.std.specs.Option.{option_map_or}
use Rattle.schema.specs.Shape.{TableShape}
use Rattle.sqlchecks.specs.Columns.{Tables}
use Rattle.sqlread.specs.Shapes.{StatementShape}
use Rattle.sqlread.specs.Meaning.{table_of}
use Rattle.rowtext.specs.Spacing.{Start, line}
use Rattle.rowtext.specs.Transactions.{form_of, forms_of, statement_text, transaction_text}
use Rattle.sqltokens.specs.Lexing.{tokens_of}
use Rattle.sqltokens.specs.Syntax.{Spells, IsTold}
use Rattle.sqltokens.proofs.Functions.{are_tokens}
use Rattle.phrase.specs.Grammar.{spell_all}
use Rattle.sqlsyntax.specs.Transactions.{StatementForm, statement, statements}
use Rattle.namesyntax.specs.Parsing.{parsed, or_syntax}
use Rattle.rowtext.specs.Again.{IsWritten, lines}
use Rattle.rowtext.proofs.Lexing.{lines_are_said}

spelled_all : (forms : List StatementForm) → flat_map (λ ts. ts) (map statement.spell forms) ≡ spell_all statement.spell forms
spelled_all [] = refl
spelled_all (form ∷ forms) = ap (λ ts. statement.spell form ++ ts) (spelled_all forms)

row_spelled : (forms : List StatementForm) → statements.fits forms → spell_all statement.spell forms ≡ statements.spell forms
unfolding statements
row_spelled [] fits = let never = fits.1 in absurd cc
row_spelled (form ∷ forms) fits = refl

pub lines_spell : (forms : List StatementForm) → statements.fits forms → AllByRecursion (AllByRecursion IsWritten) (map statement.spell forms) → Spells statements (lines (map statement.spell forms)) forms
lines_spell forms fits written =
    let text = lines (map statement.spell forms) in
    record {
      tokens = tokens_of text;
      are_tokens = are_tokens text;
      fits = fits;
      spelled = lines_are_said (map statement.spell forms) written ∙ spelled_all forms ∙ row_spelled forms fits;
    }

pub read_again : IsTold statements → (forms : List StatementForm) → statements.fits forms → AllByRecursion (AllByRecursion IsWritten) (map statement.spell forms)
    → parsed statements (lines (map statement.spell forms)) ≡ Ok forms
read_again told forms fits written =
    let text = lines (map statement.spell forms) in
    ap or_syntax (((told text).0 forms).0 (lines_spell forms fits written))

one_line : (s : StatementShape) (found : Option (List ℕ × TableShape)) (rest : List StatementForm)
    → option_map_or (λ t. line Start (statement.spell (form_of t.0 t.1 s)) ++ 10 ∷ []) found [] ++ lines (map statement.spell rest)
    ≡ lines (map statement.spell (cons_option (option_map (λ t. form_of t.0 t.1 s) found) rest))
one_line s None rest = refl
one_line s (Some t) rest = refl

pub transaction_lines : (tables : Tables) (list : List StatementShape) → transaction_text tables list ≡ lines (map statement.spell (forms_of tables list))
unfolding statement_text
transaction_lines tables [] = refl
transaction_lines tables (s ∷ list) =
    ap (λ l. statement_text tables s ++ l) (transaction_lines tables list) ∙ one_line s (slice_get tables (table_of s)) (forms_of tables list)

pub transaction_again : IsTold statements → (tables : Tables) (list : List StatementShape) → statements.fits (forms_of tables list) → AllByRecursion (AllByRecursion IsWritten) (map statement.spell (forms_of tables list))
    → parsed statements (transaction_text tables list) ≡ Ok (forms_of tables list)
transaction_again told tables list fits written = ap (parsed statements) (transaction_lines tables list) ∙ read_again told (forms_of tables list) fits written
