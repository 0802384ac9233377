-- Statements and transactions that are read, and what is written of them.
use Rattle.std.proofs.Common.{◌≡◌, ℕ, ◌<◌, true, false, List, [], ◌∷◌, ◌++◌, length, map, slice_get, Option, Some, Result, Ok, refl, sym, ap, subst, ◌∙◌, append_assoc, arith, inl, inr}
use Rattle.std.specs.Prelude.{◌⊎◌, nat_lt, position, option_map}
use Rattle.std.specs.List.{AllByRecursion, cons_option}
use Rattle.std.proofs.lemmas.List.{append-nil, length-map}
use Rattle.std.proofs.lemmas.Option.{slice_get-map}
use Rattle.fault.specs.declared.refusal.Refusal.{Refusal}
use Rattle.fault.specs.declared.refusal.Refusal.TheVariants.{UnknownTable}
use Rattle.model.specs.Tables.{Period}
use Rattle.phrase.specs.Grammar.{one, spell_some, spell_all}
use Rattle.schema.specs.Name.{same_name}
use Rattle.schema.specs.Shape.{TableShape}
use Rattle.sqltokens.specs.declared.token.Keyword.TheVariants as keyword
use Rattle.sqltokens.specs.declared.token.Sign.TheVariants as sign
use Rattle.sqltokens.specs.What.{What, Word as Keyed, Symbol, Name, is_symbol}
use Rattle.sqltokens.specs.Syntax.{Spells}
use Rattle.namesyntax.specs.Words.{is_name_text}
use Rattle.namesyntax.specs.Names.{Bytes, names, another_name, name_list}
use Rattle.sqlsyntax.specs.Shared.{literal, condition}
use Rattle.sqlsyntax.specs.Transactions.{another_literal, literals, portion, assignments, InsertForm, insert, UpdateForm, update, DeleteForm, delete, StatementForm, statement, is_statement, statements}
use Rattle.sqlchecks.specs.declared.comparison.Comparison.{Comparison}
use Rattle.sqlchecks.specs.Answering.{◌>>=◌, or_refuse, each_of}
use Rattle.sqlchecks.specs.Columns.{Tables, table_named}
use Rattle.sqlchecks.specs.Comparisons.{comparisons_in}
use Rattle.sqlread.specs.declared.statement.Assignment.{Assignment}
use Rattle.sqlread.specs.Shapes.{InsertShape, UpdateShape, DeleteShape, StatementShape, Insert, Update, Delete}
use Rattle.sqlread.specs.Meaning.{table_of}
use Rattle.sqlread.specs.Changes.{in_table, insert_into, insert_in, portion_in, if_given, all_given, assignments_after, update_in, delete_in, statement_in, statements_in}
use Rattle.rowtext.specs.Transactions.{column_name, given_columns, cell_of, portion_of, assignment_of, conditions_of, insert_form, update_form, delete_form, form_of, forms_of}
use Rattle.rowtext.specs.Again.{IsWritten, IsReadAs, ReadsAgain, AllKeepColumns}
use Rattle.rowtext.proofs.Steps.{decided, ok_is, after_ok, some_of, all_both, all_before, all_behind, row_fits, fits_row, row_all, all_row}
use Rattle.rowtext.proofs.Tokens.{sign_written, keyword_written, tokens_written}
use Rattle.rowtext.proofs.SameNames.{same_lower, table_same, name_again, position_is}
use Rattle.rowtext.proofs.ChangesAgain.{AreForms, portion_again, assignments_again, conditions_again}
use Rattle.rowtext.proofs.InsertsAgain.{AreNames, insert_row_again}

-- ---- the table of a statement

-- the tables have one of this name and shape at this place, and a name that differs by case alone named it
record IsTableOf (tables : Tables) (name : Bytes) (place : ℕ) (entry : Bytes × TableShape) : Type 0 where
  at : slice_get tables place ≡ Some entry
  same : same_name name entry.0 ≡ true
  found : table_named tables name ≡ Ok place

table_is : (tables : Tables) (name : Bytes) (place : ℕ) (entry : Bytes × TableShape) → table_named tables name ≡ Ok place → slice_get tables place ≡ Some entry → IsTableOf tables name place entry
unfolding table_named
table_is tables name place entry e at =
    let found = position_is (same_name name) (map (λ t. t.0) tables) place (some_of UnknownTable (position (same_name name) (map (λ t. t.0) tables)) place e) in
    let own : Some entry.0 ≡ Some found.0 = sym (slice_get-map (λ (t : Bytes × TableShape). t.0) tables place ∙ ap (option_map (λ (t : Bytes × TableShape). t.0)) at) ∙ found.1 in
    let is : found.0 ≡ entry.0 = cc in
    record { at = at; same = ap (same_name name) (sym is) ∙ found.2; found = e }

-- a statement on a table, read again on the table's own name
record InTable {A : Type 0} (tables : Tables) (f : ℕ → TableShape → Result A Refusal) (name : Bytes) (value : A) : Type 0 where
  place : ℕ
  entry : Bytes × TableShape
  is : IsTableOf tables name place entry
  let_through : f place entry.1 ≡ Ok value

in_table_is : {A : Type 0} (tables : Tables) (f : ℕ → TableShape → Result A Refusal) (name : Bytes) (value : A) → in_table tables name f ≡ Ok value → InTable tables f name value
unfolding in_table
in_table_is {A} tables f name value e =
    let place = after_ok (table_named tables name) (λ (p : ℕ). or_refuse UnknownTable (slice_get tables p) >>= λ t. f p t.1) value e in
    let entry = after_ok (or_refuse UnknownTable (slice_get tables place.0)) (λ (t : Bytes × TableShape). f place.0 t.1) value place.2 in
    record { place = place.0; entry = entry.0; is = table_is tables name place.0 entry.0 place.1 (some_of UnknownTable (slice_get tables place.0) entry.0 entry.1); let_through = entry.2 }

-- by the name that is declared
in_own_table : {A : Type 0} (tables : Tables) (f : ℕ → TableShape → Result A Refusal) (name : Bytes) (place : ℕ) (entry : Bytes × TableShape) (value : A) → IsTableOf tables name place entry → f place entry.1 ≡ Ok value → in_table tables entry.0 f ≡ Ok value
unfolding in_table
in_own_table {A} tables f name place entry value is e = rw (sym (table_same name entry.0 (same_lower name entry.0 is.same) tables) ∙ is.found, is.at) e

-- ---- INSERT, UPDATE and DELETE

-- what is read is written and read again on a table that is there
record OnTable (tables : Tables) (place : ℕ) (Reads : Bytes → TableShape → Type 0) : Type 0 where
  entry : Bytes × TableShape
  at : slice_get tables place ≡ Some entry
  again : Reads entry.0 entry.1

names_written : (list : List Bytes) → AllByRecursion (λ n. AllByRecursion IsWritten (Name n ∷ [])) list → AllByRecursion (λ n. IsWritten (Name n)) list
names_written [] all = tt
names_written (n ∷ list) all = (all.0.0, names_written list all.1)

written_names : (list : List Bytes) → AllByRecursion (λ n. IsWritten (Name n)) list → AllByRecursion (λ n. AllByRecursion IsWritten (Name n ∷ [])) list
written_names [] all = tt
written_names (n ∷ list) all = ((all.0, tt), written_names list all.1)

insert_again : (tables : Tables) → AllKeepColumns tables → (form : InsertForm) (s : InsertShape) → IsReadAs insert (insert_in tables) form s
    → OnTable tables s.table (λ name table. IsReadAs insert (insert_in tables) (insert_form name table s) s)
unfolding insert insert_in insert_into names name_list another_name literals another_literal
insert_again tables kept form s r =
    let t = in_table_is tables (λ p table. insert_into p table form) form.0 s r.let_through in
    let table = t.entry.1 in
    let name = name_again form.0 t.entry.0 t.is.same r.fits.0 r.written.1.1.0 in
    let close : List What = Symbol sign.Close ∷ [] in
    let semicolon : List What = Symbol sign.Semicolon ∷ [] in
    let tail : List What = Symbol sign.Close ∷ Keyed keyword.Values ∷ Symbol sign.Open ∷ ((literals.spell form.1.1 ++ close) ++ semicolon) in
    let name_tokens = all_before IsWritten (name_list.spell form.1.0) tail r.written.1.1.1.1 in
    let behind = (all_behind IsWritten (name_list.spell form.1.0) tail r.written.1.1.1.1).1.1.1 in
    let literal_tokens = all_before IsWritten (literals.spell form.1.1) close (all_before IsWritten (literals.spell form.1.1 ++ close) semicolon behind) in
    let listed = fits_row (one names) another_name (is_symbol sign.Comma) (λ a f. f) form.1.0 r.fits.1.0 in
    let given = fits_row literal another_literal (is_symbol sign.Comma) (λ a f. f) form.1.1 r.fits.1.1 in
    let own : AreNames form.1.0 = record { fit = listed.1; written = names_written form.1.0 (all_row (one names) another_name (is_symbol sign.Comma) IsWritten (λ a w. w.1) form.1.0 listed.0 name_tokens) } in
    let values : AreForms literal form.1.1 = record { fit = given.1; written = all_row literal another_literal (is_symbol sign.Comma) IsWritten (λ a w. w.1) form.1.1 given.0 literal_tokens } in
    let again = insert_row_again t.place table form.1.0 form.1.1 s (kept t.place t.entry t.is.at) own values t.let_through in
    let columns = map (column_name table) (given_columns table) in
    let cells = map (cell_of table s) (given_columns table) in
    let some_columns : 0 < length columns = rw (length-map (given_columns table) (column_name table)) again.some in
    let some_cells : 0 < length cells = rw (length-map (given_columns table) (cell_of table s)) again.some in
    let rest : List What = Symbol sign.Close ∷ Keyed keyword.Values ∷ Symbol sign.Open ∷ ((literals.spell cells ++ close) ++ semicolon) in
    record {
      entry = t.entry;
      at = ap (slice_get tables) again.stands ∙ t.is.at;
      again = record {
        fits = (name.0, (row_fits (one names) another_name (is_symbol sign.Comma) (λ a f. f) columns some_columns again.names.fit, row_fits literal another_literal (is_symbol sign.Comma) (λ a f. f) cells some_cells again.cells.fit));
        written = (
          keyword_written keyword.Insert,
          (
            keyword_written keyword.Into,
            (
              name.1,
              (
                sign_written sign.Open,
                all_both IsWritten (name_list.spell columns) rest
                    (row_all (one names) another_name (is_symbol sign.Comma) IsWritten (λ a w. (sign_written sign.Comma, w)) columns some_columns (written_names columns again.names.written)) (
                      sign_written sign.Close,
                      (
                        keyword_written keyword.Values,
                        (
                          sign_written sign.Open,
                          all_both IsWritten (literals.spell cells ++ close) semicolon
                              (all_both IsWritten (literals.spell cells) close
                              (row_all literal another_literal (is_symbol sign.Comma) IsWritten (λ a w. (sign_written sign.Comma, w)) cells some_cells again.cells.written) (sign_written sign.Close, tt))
                              (sign_written sign.Semicolon, tt),
                        ),
                      ),
                    ),
              ),
            ),
          ),
        );
        let_through = in_own_table tables (λ p shape. insert_into p shape (insert_form t.entry.0 table s)) form.0 t.place t.entry s t.is again.let_through;
      };
    }

abbrev updates : UpdateForm → ℕ → TableShape → Result UpdateShape Refusal
updates form place table =
    if_given (portion_in table) form.1.0 >>= λ p. assignments_after table [] form.1.1.0 >>= λ a. all_given (comparisons_in table) form.1.1.1 >>= λ c. Ok (record { table = place; portion = p; assignments = a; conditions = c })

update_again : (tables : Tables) (form : UpdateForm) (u : UpdateShape) → IsReadAs update (update_in tables) form u
    → OnTable tables u.table (λ name table. IsReadAs update (update_in tables) (update_form name table u) u)
unfolding update update_in names
update_again tables form u r =
    let t = in_table_is tables (updates form) form.0 u r.let_through in
    let table = t.entry.1 in
    let name = name_again form.0 t.entry.0 t.is.same r.fits.0 r.written.1.0 in
    let semicolon : List What = Symbol sign.Semicolon ∷ [] in
    let p = after_ok (if_given (portion_in table) form.1.0) (λ (p : Option Period). assignments_after table [] form.1.1.0 >>= λ a. all_given (comparisons_in table) form.1.1.1 >>= λ c. Ok (record { table = t.place; portion = p; assignments = a; conditions = c })) u t.let_through in
    let a = after_ok (assignments_after table [] form.1.1.0) (λ (a : List Assignment). all_given (comparisons_in table) form.1.1.1 >>= λ c. Ok (record { table = t.place; portion = p.0; assignments = a; conditions = c })) u p.2 in
    let c = after_ok (all_given (comparisons_in table) form.1.1.1) (λ (c : List Comparison). Ok (record { table = t.place; portion = p.0; assignments = a.0; conditions = c })) u a.2 in
    let made : UpdateShape = record { table = t.place; portion = p.0; assignments = a.0; conditions = c.0 } in
    let set : List What = Keyed keyword.Set ∷ (assignments.spell form.1.1.0 ++ (spell_some condition form.1.1.1 ++ semicolon)) in
    let p_tokens = all_before IsWritten (spell_some portion form.1.0) set r.written.1.1 in
    let behind = (all_behind IsWritten (spell_some portion form.1.0) set r.written.1.1).1 in
    let a_tokens = all_before IsWritten (assignments.spell form.1.1.0) (spell_some condition form.1.1.1 ++ semicolon) behind in
    let c_tokens = all_before IsWritten (spell_some condition form.1.1.1) semicolon (all_behind IsWritten (assignments.spell form.1.1.0) (spell_some condition form.1.1.1 ++ semicolon) behind) in
    let p_again = portion_again table form.1.0 p.0 (record { fits = r.fits.1.0; written = p_tokens; let_through = p.1 }) in
    let a_again = assignments_again table form.1.1.0 a.0 (record { fits = r.fits.1.1.0; written = a_tokens; let_through = a.1 }) in
    let c_again = conditions_again table form.1.1.1 c.0 (record { fits = r.fits.1.1.1; written = c_tokens; let_through = c.1 }) in
    let p_form = option_map (portion_of table) p.0 in
    let a_form = map (assignment_of table) a.0 in
    let c_form = conditions_of table c.0 in
    let own : updates (update_form t.entry.0 table made) t.place table ≡ Ok made = rw (p_again.let_through, a_again.let_through, c_again.let_through) refl in
    let here : OnTable tables made.table (λ n shape. IsReadAs update (update_in tables) (update_form n shape made) made) = record {
      entry = t.entry;
      at = t.is.at;
      again = record {
        fits = (name.0, (p_again.fits, (a_again.fits, c_again.fits)));
        written = (
          keyword_written keyword.Update,
          (
            name.1,
            all_both IsWritten (spell_some portion p_form) (Keyed keyword.Set ∷ (assignments.spell a_form ++ (spell_some condition c_form ++ semicolon))) p_again.written (
              keyword_written keyword.Set,
              all_both IsWritten (assignments.spell a_form) (spell_some condition c_form ++ semicolon) a_again.written
                  (all_both IsWritten (spell_some condition c_form) semicolon c_again.written (sign_written sign.Semicolon, tt)),
            ),
          ),
        );
        let_through = in_own_table tables (updates (update_form t.entry.0 table made)) form.0 t.place t.entry made t.is own;
      };
    } in
    subst (λ (v : UpdateShape). OnTable tables v.table (λ n shape. IsReadAs update (update_in tables) (update_form n shape v) v)) (ok_is made u c.2) here

abbrev deletes : DeleteForm → ℕ → TableShape → Result DeleteShape Refusal
deletes form place table =
    if_given (portion_in table) form.1.0 >>= λ p. all_given (comparisons_in table) form.1.1 >>= λ c. Ok (record { table = place; portion = p; conditions = c })

delete_again : (tables : Tables) (form : DeleteForm) (d : DeleteShape) → IsReadAs delete (delete_in tables) form d
    → OnTable tables d.table (λ name table. IsReadAs delete (delete_in tables) (delete_form name table d) d)
unfolding delete delete_in names
delete_again tables form d r =
    let t = in_table_is tables (deletes form) form.0 d r.let_through in
    let table = t.entry.1 in
    let name = name_again form.0 t.entry.0 t.is.same r.fits.0 r.written.1.1.0 in
    let semicolon : List What = Symbol sign.Semicolon ∷ [] in
    let p = after_ok (if_given (portion_in table) form.1.0) (λ (p : Option Period). all_given (comparisons_in table) form.1.1 >>= λ c. Ok (record { table = t.place; portion = p; conditions = c })) d t.let_through in
    let c = after_ok (all_given (comparisons_in table) form.1.1) (λ (c : List Comparison). Ok (record { table = t.place; portion = p.0; conditions = c })) d p.2 in
    let made : DeleteShape = record { table = t.place; portion = p.0; conditions = c.0 } in
    let p_tokens = all_before IsWritten (spell_some portion form.1.0) (spell_some condition form.1.1 ++ semicolon) r.written.1.1.1 in
    let c_tokens = all_before IsWritten (spell_some condition form.1.1) semicolon (all_behind IsWritten (spell_some portion form.1.0) (spell_some condition form.1.1 ++ semicolon) r.written.1.1.1) in
    let p_again = portion_again table form.1.0 p.0 (record { fits = r.fits.1.0; written = p_tokens; let_through = p.1 }) in
    let c_again = conditions_again table form.1.1 c.0 (record { fits = r.fits.1.1; written = c_tokens; let_through = c.1 }) in
    let p_form = option_map (portion_of table) p.0 in
    let c_form = conditions_of table c.0 in
    let own : deletes (delete_form t.entry.0 table made) t.place table ≡ Ok made = rw (p_again.let_through, c_again.let_through) refl in
    let here : OnTable tables made.table (λ n shape. IsReadAs delete (delete_in tables) (delete_form n shape made) made) = record {
      entry = t.entry;
      at = t.is.at;
      again = record {
        fits = (name.0, (p_again.fits, c_again.fits));
        written = (
          keyword_written keyword.Delete,
          (
            keyword_written keyword.From,
            (
              name.1,
              all_both IsWritten (spell_some portion p_form) (spell_some condition c_form ++ semicolon) p_again.written
                  (all_both IsWritten (spell_some condition c_form) semicolon c_again.written (sign_written sign.Semicolon, tt)),
            ),
          ),
        );
        let_through = in_own_table tables (deletes (delete_form t.entry.0 table made)) form.0 t.place t.entry made t.is own;
      };
    } in
    subst (λ (v : DeleteShape). OnTable tables v.table (λ n shape. IsReadAs delete (delete_in tables) (delete_form n shape v) v)) (ok_is made d c.2) here

-- ---- statements

abbrev StatementAgain : Tables → StatementShape → Type 0
StatementAgain tables s = OnTable tables (table_of s) (λ name table. IsReadAs statement (statement_in tables) (form_of name table s) s)

statement_again : (tables : Tables) → AllKeepColumns tables → (form : StatementForm) (s : StatementShape) → IsReadAs statement (statement_in tables) form s → StatementAgain tables s
unfolding statement statement_in
statement_again tables kept (inl form) s r =
    let own = after_ok (insert_in tables form) (λ (i : InsertShape). Ok (Insert i)) s r.let_through in
    let on = insert_again tables kept form own.0 (record { fits = r.fits; written = r.written; let_through = own.1 }) in
    let here : StatementAgain tables (Insert own.0) = record { entry = on.entry; at = on.at; again = record { fits = on.again.fits; written = on.again.written; let_through = rw on.again.let_through refl } } in
    subst (StatementAgain tables) (ok_is (Insert own.0) s own.2) here
statement_again tables kept (inr (inl form)) s r =
    let own = after_ok (update_in tables form) (λ (u : UpdateShape). Ok (Update u)) s r.let_through in
    let on = update_again tables form own.0 (record { fits = r.fits; written = r.written; let_through = own.1 }) in
    let here : StatementAgain tables (Update own.0) = record { entry = on.entry; at = on.at; again = record { fits = on.again.fits; written = on.again.written; let_through = rw on.again.let_through refl } } in
    subst (StatementAgain tables) (ok_is (Update own.0) s own.2) here
statement_again tables kept (inr (inr form)) s r =
    let own = after_ok (delete_in tables form) (λ (d : DeleteShape). Ok (Delete d)) s r.let_through in
    let on = delete_again tables form own.0 (record { fits = r.fits; written = r.written; let_through = own.1 }) in
    let here : StatementAgain tables (Delete own.0) = record { entry = on.entry; at = on.at; again = record { fits = on.again.fits; written = on.again.written; let_through = rw on.again.let_through refl } } in
    subst (StatementAgain tables) (ok_is (Delete own.0) s own.2) here

record AllAgain (tables : Tables) (forms : List StatementForm) (list : List StatementShape) : Type 0 where
  count : length (forms_of tables list) ≡ length forms
  are : AreForms statement (forms_of tables list)
  let_through : each_of (statement_in tables) (forms_of tables list) ≡ Ok list

all_again : (tables : Tables) → AllKeepColumns tables → (forms : List StatementForm) (list : List StatementShape) → AreForms statement forms → each_of (statement_in tables) forms ≡ Ok list → AllAgain tables forms list
all_again tables kept [] list are e = subst (AllAgain tables []) (ok_is [] list e) (record { count = refl; are = record { fit = tt; written = tt }; let_through = refl })
all_again tables kept (form ∷ forms) list are e =
    let first = after_ok (statement_in tables form) (λ (s : StatementShape). each_of (statement_in tables) forms >>= λ ss. Ok (s ∷ ss)) list e in
    let others = after_ok (each_of (statement_in tables) forms) (λ (ss : List StatementShape). Ok (first.0 ∷ ss)) list first.2 in
    let one = statement_again tables kept form first.0 (record { fits = are.fit.0; written = are.written.0; let_through = first.1 }) in
    let rest = all_again tables kept forms others.0 (record { fit = are.fit.1; written = are.written.1 }) others.1 in
    let own = form_of one.entry.0 one.entry.1 first.0 in
    let is : own ∷ forms_of tables others.0 ≡ forms_of tables (first.0 ∷ others.0) =
    ap (λ (o : Option (Bytes × TableShape)). cons_option (option_map (λ t. form_of t.0 t.1 first.0) o) (forms_of tables others.0)) (sym one.at) in
    let fits : AreForms statement (own ∷ forms_of tables others.0) = record { fit = (one.again.fits, rest.are.fit); written = (one.again.written, rest.are.written) } in
    let through : each_of (statement_in tables) (own ∷ forms_of tables others.0) ≡ Ok (first.0 ∷ others.0) = rw (one.again.let_through, rest.let_through) refl in
    let long : length (own ∷ forms_of tables others.0) ≡ length (form ∷ forms) = omega (arith, rest.count) in
    let here : AllAgain tables (form ∷ forms) (first.0 ∷ others.0) = record {
      count = subst (λ (l : List StatementForm). length l ≡ length (form ∷ forms)) is long;
      are = subst (AreForms statement) is fits;
      let_through = subst (λ (l : List StatementForm). each_of (statement_in tables) l ≡ Ok (first.0 ∷ others.0)) is through;
    } in
    subst (AllAgain tables (form ∷ forms)) (ok_is (first.0 ∷ others.0) list others.2) here

few : (tables : Tables) (forms : List StatementForm) (list : List StatementShape) → statements_in tables forms ≡ Ok list → (nat_lt 16 (length forms) ≡ false) × (each_of (statement_in tables) forms ≡ Ok list)
unfolding statements_in
few tables forms list e = by (decided (nat_lt 16 (length forms))) where
  by : (nat_lt 16 (length forms) ≡ true) ⊎ (nat_lt 16 (length forms) ≡ false) → (nat_lt 16 (length forms) ≡ false) × (each_of (statement_in tables) forms ≡ Ok list)
  by (inl h) = let never = rw h at e in absurd cc
  by (inr h) = (h, rw h at e)

are_few : (tables : Tables) (forms : List StatementForm) (list : List StatementShape) → nat_lt 16 (length forms) ≡ false → each_of (statement_in tables) forms ≡ Ok list → statements_in tables forms ≡ Ok list
unfolding statements_in
are_few tables forms list h e = rw h e

pub statements_again : (tables : Tables) → AllKeepColumns tables → ReadsAgain statements (statements_in tables) (forms_of tables)
unfolding statements
statements_again tables kept forms list r =
    let own = few tables forms list r.let_through in
    let row_of = fits_row statement statement is_statement (λ a f. f) forms r.fits in
    let tokens = all_row statement statement is_statement IsWritten (λ a w. w) forms row_of.0 r.written in
    let again = all_again tables kept forms list (record { fit = row_of.1; written = tokens }) own.1 in
    let some : 0 < length (forms_of tables list) = omega (arith, again.count, row_of.0) in
    record {
      fits = row_fits statement statement is_statement (λ a f. f) (forms_of tables list) some again.are.fit;
      written = row_all statement statement is_statement IsWritten (λ a w. w) (forms_of tables list) some again.are.written;
      let_through = are_few tables (forms_of tables list) list (ap (λ (n : ℕ). nat_lt 16 n) again.count ∙ own.0) again.let_through;
    }

-- ---- the tokens of a text that spells statements

abbrev Ends : List What → Type 0
Ends ts = (front : List What) × (ts ≡ front ++ Symbol sign.Semicolon ∷ [])

ends_behind : (xs ys : List What) → Ends ys → Ends (xs ++ ys)
ends_behind xs ys ends = (xs ++ ends.0, ap (λ (l : List What). xs ++ l) ends.1 ∙ sym (append_assoc xs ends.0 (Symbol sign.Semicolon ∷ [])))

insert_ends : (form : InsertForm) → Ends (insert.spell form)
unfolding insert names
insert_ends (name, (ns, ls)) =
    let values : List What = literals.spell ls ++ Symbol sign.Close ∷ [] in
    let opened : List What = Symbol sign.Close ∷ Keyed keyword.Values ∷ Symbol sign.Open ∷ [] in
    let head : List What = Keyed keyword.Insert ∷ Keyed keyword.Into ∷ Name name ∷ Symbol sign.Open ∷ [] in
    let last : List What = values ++ Symbol sign.Semicolon ∷ [] in
    ends_behind head (name_list.spell ns ++ (opened ++ last)) (ends_behind (name_list.spell ns) (opened ++ last) (ends_behind opened last (values, refl)))

update_ends : (form : UpdateForm) → Ends (update.spell form)
unfolding update names
update_ends (name, (p, (list, cs))) =
    let semicolon : List What = Symbol sign.Semicolon ∷ [] in
    let tests : List What = spell_some condition cs ++ semicolon in
    let head : List What = Keyed keyword.Update ∷ Name name ∷ [] in
    let set : List What = Keyed keyword.Set ∷ [] in
    ends_behind head (spell_some portion p ++ (set ++ (assignments.spell list ++ tests)))
    (ends_behind (spell_some portion p) (set ++ (assignments.spell list ++ tests))
    (ends_behind set (assignments.spell list ++ tests) (ends_behind (assignments.spell list) tests (spell_some condition cs, refl))))

delete_ends : (form : DeleteForm) → Ends (delete.spell form)
unfolding delete names
delete_ends (name, (p, cs)) =
    let semicolon : List What = Symbol sign.Semicolon ∷ [] in
    let tests : List What = spell_some condition cs ++ semicolon in
    let head : List What = Keyed keyword.Delete ∷ Keyed keyword.From ∷ Name name ∷ [] in
    ends_behind head (spell_some portion p ++ tests) (ends_behind (spell_some portion p) tests (spell_some condition cs, refl))

statement_ends : (form : StatementForm) → Ends (statement.spell form)
unfolding statement
statement_ends (inl form) = insert_ends form
statement_ends (inr (inl form)) = update_ends form
statement_ends (inr (inr form)) = delete_ends form

all_end : (form : StatementForm) (forms : List StatementForm) → Ends (statement.spell form ++ spell_all statement.spell forms)
all_end form [] = let own = statement_ends form in (own.0, append-nil (statement.spell form) ∙ own.1)
all_end form (next ∷ forms) = ends_behind (statement.spell form) (statement.spell next ++ spell_all statement.spell forms) (all_end next forms)

statements_end : (forms : List StatementForm) → statements.fits forms → Ends (statements.spell forms)
unfolding statements
statements_end [] fits = let never = fits.1 in absurd cc
statements_end (form ∷ forms) fits = all_end form forms

-- the statements of a text are read from it, and its tokens are written
pub text_read : (tables : Tables) (text : List ℕ) (forms : List StatementForm) (list : List StatementShape) → Spells statements text forms → statements_in tables forms ≡ Ok list → IsReadAs statements (statements_in tables) forms list
text_read tables text forms list s e =
    let ends = statements_end forms s.fits in
    let tokens = tokens_written text s.tokens ends.0 s.are_tokens (s.spelled ∙ ends.1) in
    record { fits = s.fits; written = subst (AllByRecursion IsWritten) s.spelled tokens; let_through = e }
