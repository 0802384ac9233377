-- Comparisons, portions and assignments that are read, and what is written of them.
use Rattle.std.proofs.Common.{◌≡◌, ℕ, ◌<◌, true, false, List, [], ◌∷◌, ◌++◌, length, map, slice_get, Option, Some, None, Result, Ok, refl, sym, ap, subst, ◌∙◌, append_assoc, arith, inl, inr}
use Rattle.std.specs.Prelude.{◌⊎◌, ◌==◌, not, nat_lt, position, decimal, option_map, option_and_then}
use Rattle.std.specs.List.{AllByRecursion}
use Rattle.std.specs.Option.{option_map_or}
use Rattle.std.specs.Str.Parse.{digits_value}
use Rattle.std.proofs.lemmas.Bool.{eqb-true, eq-eqb, ltb-true, lt-ltb}
use Rattle.std.proofs.lemmas.List.{append-nil, length-map}
use Rattle.std.proofs.lemmas.Option.{slice_get-map}
use Rattle.fault.specs.declared.refusal.Refusal.{Refusal}
use Rattle.fault.specs.declared.refusal.Refusal.TheVariants.{UnknownColumn, WrongType, NotAssignable, EmptyPeriod}
use Rattle.period.specs.Day.{day_text}
use Rattle.model.specs.declared.value.Value.{Value as RowValue}
use Rattle.model.specs.Tables.{Period}
use Rattle.phrase.specs.Grammar.{Phrase, optional}
use Rattle.schema.specs.Name.{same_name}
use Rattle.schema.specs.Shape.{TableShape}
use Rattle.schema.specs.declared.table.Kind.{Kind}
use Rattle.sqltokens.specs.declared.token.Keyword.TheVariants as keyword
use Rattle.sqltokens.specs.declared.token.Sign.TheVariants as sign
use Rattle.sqltokens.specs.What.{What, Name, is_word, is_symbol}
use Rattle.sqltokens.specs.Classes.{digits, dates}
use Rattle.sqlsyntax.specs.declared.forms.Operator.{Operator}
use Rattle.namesyntax.specs.Words.{is_name_text}
use Rattle.namesyntax.specs.Names.{Bytes, names}
use Rattle.sqlsyntax.specs.Shared.{operators, operator_sign, date, literal, comparison, another_comparison, comparisons, condition}
use Rattle.sqlsyntax.specs.Transactions.{portion, new_value, AssignmentForm, assignment, another_assignment, assignments}
use Rattle.std.specs.Option.{option_or}
use Rattle.sqlchecks.specs.declared.field.Field.{Field}
use Rattle.sqlchecks.specs.declared.field.Field.TheVariants as fields
use Rattle.sqlchecks.specs.declared.comparison.Comparison.{Comparison}
use Rattle.sqlchecks.specs.Answering.{◌>>=◌, ◌>>◌, refuse_if, or_refuse, each_of}
use Rattle.sqlchecks.specs.Columns.{column_at, column_named, field_at}
use Rattle.sqlchecks.specs.Comparisons.{compared_kind, comparison_in, comparisons_in}
use Rattle.sqlchecks.specs.Literals.{literal_in, day_named, period_named}
use Rattle.sqlread.specs.declared.statement.NewValue.{NewValue}
use Rattle.sqlread.specs.declared.statement.NewValue.TheVariants as values
use Rattle.sqlread.specs.declared.statement.Assignment.{Assignment}
use Rattle.sqlread.specs.Changes.{is_among, portion_in, if_given, all_given, value_place, assignable, amount, is_integer, changed_by, changed_in, new_value_in, assignment_in, assignments_after}
use Rattle.rowtext.specs.Transactions.{literal_of, column_name, column_of, field_name, portion_of, value_of, assignment_of, comparison_of, conditions_of}
use Rattle.rowtext.specs.Again.{IsWritten, IsReadAs, ReadsAgain}
use Rattle.rowtext.proofs.Steps.{decided, not_false, ok_is, after_ok, not_refused, unrefused, some_of, row_fits, fits_row, row_all, all_row}
use Rattle.rowtext.proofs.Tokens.{sign_written, keyword_written}
use Rattle.rowtext.proofs.SameNames.{same_lower, same_self, column_same, name_again, position_is}
use Rattle.rowtext.proofs.LiteralsAgain.{day_is, decimal_written, decimal_value, literals_again}

-- ---- columns

-- a name of the grammar that is written, and that is this column's
pub record NamesColumn (table : TableShape) (name : Bytes) (column : ℕ × Kind) : Type 0 where
  pub fits : is_name_text name ≡ true
  pub written : IsWritten (Name name)
  pub found : column_named table name ≡ Ok column

-- the column of this place and kind has a name that is the same
pub record HasName (table : TableShape) (name : Bytes) (column : ℕ × Kind) : Type 0 where
  pub same : same_name name (column_name table column.0) ≡ true
  pub stands : slice_get table.columns column.0 ≡ Some (column_name table column.0, column.1)

at_place : (table : TableShape) (name : Bytes) (place : ℕ) (entry : Option (Bytes × Kind)) (column : ℕ × Kind) (found : Bytes) → slice_get table.columns place ≡ entry → option_map (λ c. c.0) entry ≡ Some found → same_name name found ≡ true
    → option_map (λ c. (place, c.1)) entry ≡ Some column → HasName table name column
at_place table name place None column found stands named same e = absurd cc
at_place table name place (Some entry) column found stands named same e =
    let is : (place, entry.1) ≡ column = cc in
    let its : entry.0 ≡ found = cc in
    let own : column_name table place ≡ entry.0 = ap (λ (o : Option (Bytes × Kind)). option_map_or (λ c. c.0) o []) stands in
    subst (HasName table name) is (record {
      same = ap (same_name name) (own ∙ its) ∙ same;
      stands = stands ∙ ap (λ (n : Bytes). Some (n, entry.1)) (sym own);
    })

by_position : (table : TableShape) (name : Bytes) (o : Option ℕ) (column : ℕ × Kind) → position (same_name name) (map (λ c. c.0) table.columns) ≡ o → option_and_then (column_at table) o ≡ Some column → HasName table name column
by_position table name None column at e = absurd cc
by_position table name (Some place) column at e =
    let found = position_is (same_name name) (map (λ c. c.0) table.columns) place at in
    at_place table name place (slice_get table.columns place) column found.0 refl (sym (slice_get-map (λ c. c.0) table.columns place) ∙ found.1) found.2 e

pub column_found : (table : TableShape) (name : Bytes) (column : ℕ × Kind) → column_named table name ≡ Ok column → HasName table name column
unfolding column_named
column_found table name column e =
    let place = position (same_name name) (map (λ c. c.0) table.columns) in
    by_position table name place column refl (some_of UnknownColumn (option_and_then (column_at table) place) column e)

-- the declared name of a column that was named
pub column_again : (table : TableShape) (name : Bytes) (column : ℕ × Kind) → NamesColumn table name column → NamesColumn table (column_name table column.0) column
column_again table name column names =
    let own = column_found table name column names.found in
    let again = name_again name (column_name table column.0) own.same names.fits names.written in
    record {
      fits = again.0;
      written = again.1;
      found = sym (column_same name (column_name table column.0) (same_lower name (column_name table column.0) own.same) table) ∙ names.found;
    }

-- ---- where a row keeps a column

place_among : (places : List ℕ) (column i : ℕ) → position (λ c. c == column) places ≡ Some i → slice_get places i ≡ Some column
place_among places column i at =
    let found = position_is (λ c. c == column) places i at in
    found.1 ∙ ap (λ (c : ℕ). Some c) (eqb-true found.0 column found.2)

field_stands : (table : TableShape) (column : ℕ) (k v : Option ℕ) (f : Field) → position (λ c. c == column) table.key ≡ k → position (λ c. c == column) table.values ≡ v
    → option_or (option_map fields.Key k) (option_map fields.Value v) ≡ Some f → column_of table f ≡ Some column
field_stands table column (Some i) v f key others e =
    let is : fields.Key i ≡ f = cc in
    ap (column_of table) (sym is) ∙ place_among table.key column i key
field_stands table column None (Some i) f key others e =
    let is : fields.Value i ≡ f = cc in
    ap (column_of table) (sym is) ∙ place_among table.values column i others
field_stands table column None None f key others e = absurd cc

pub field_column : (table : TableShape) (column : ℕ) (f : Field) → field_at table column ≡ Some f → column_of table f ≡ Some column
unfolding field_at
field_column table column f e = field_stands table column (position (λ c. c == column) table.key) (position (λ c. c == column) table.values) f refl refl e

pub field_named : (table : TableShape) (column : ℕ) (f : Field) → field_at table column ≡ Some f → field_name table f ≡ column_name table column
field_named table column f e = ap (λ (o : Option ℕ). option_map_or (column_name table) o []) (field_column table column f e)

-- ---- comparisons

compared : (table : TableShape) (name : Bytes) (column : ℕ × Kind) (o : Operator) (f : Field) (v : RowValue) → NamesColumn table name column → field_at table column.0 ≡ Some f
    → IsReadAs literal (literal_in (compared_kind column.1)) (literal_of v) v
    → IsReadAs comparison (comparison_in table) (name, (o, literal_of v)) (record { field = f; operator = o; value = v })
unfolding comparison comparison_in names operators
compared table name column o f v named at again = record {
  fits = (named.fits, (tt, again.fits));
  written = (named.written, (sign_written (operator_sign o), again.written));
  let_through = rw (named.found, at, again.let_through) refl;
}

pub comparisons_again : (table : TableShape) → ReadsAgain comparison (comparison_in table) (comparison_of table)
unfolding comparison comparison_in names operators
comparisons_again table form value r =
    let column = after_ok (column_named table form.0) (λ (c : ℕ × Kind). or_refuse UnknownColumn (field_at table c.0) >>= λ f. literal_in (compared_kind c.1) form.1.1 >>= λ v. Ok (record { field = f; operator = form.1.0; value = v })) value r.let_through in
    let field = after_ok (or_refuse UnknownColumn (field_at table column.0.0)) (λ (f : Field). literal_in (compared_kind column.0.1) form.1.1 >>= λ v. Ok (record { field = f; operator = form.1.0; value = v })) value column.2 in
    let own = after_ok (literal_in (compared_kind column.0.1) form.1.1) (λ (v : RowValue). Ok (record { field = field.0; operator = form.1.0; value = v })) value field.2 in
    let made : Comparison = record { field = field.0; operator = form.1.0; value = own.0 } in
    let at = some_of UnknownColumn (field_at table column.0.0) field.0 field.1 in
    let named : NamesColumn table form.0 column.0 = record { fits = r.fits.0; written = r.written.0; found = column.1 } in
    let read : IsReadAs literal (literal_in (compared_kind column.0.1)) form.1.1 own.0 = record { fits = r.fits.1.1; written = r.written.1.1; let_through = own.1 } in
    let again = compared table (column_name table column.0.0) column.0 form.1.0 field.0 own.0 (column_again table form.0 column.0 named) at (literals_again (compared_kind column.0.1) form.1.1 own.0 read) in
    let here = subst (λ (n : Bytes). IsReadAs comparison (comparison_in table) (n, (form.1.0, literal_of own.0)) made) (sym (field_named table column.0.0 field.0 at)) again in
    subst (λ (c : Comparison). IsReadAs comparison (comparison_in table) (comparison_of table c) c) (ok_is made value own.2) here

-- ---- portions

pub portions_again : (table : TableShape) → ReadsAgain portion (portion_in table) (portion_of table)
unfolding portion portion_in period_named date dates names
portions_again table form value r =
    let named = not_refused (not (same_name form.0 table.period)) UnknownColumn (period_named form.1.0 form.1.1) value r.let_through in
    let start = after_ok (day_named form.1.0) (λ (s : ℕ). day_named form.1.1 >>= λ e. refuse_if (not (nat_lt s e)) EmptyPeriod >> Ok (record { start = s; end = e })) value named.1 in
    let end = after_ok (day_named form.1.1) (λ (e : ℕ). refuse_if (not (nat_lt start.0 e)) EmptyPeriod >> Ok (record { start = start.0; end = e })) value start.2 in
    let done = not_refused (not (nat_lt start.0 end.0)) EmptyPeriod (Ok (record { start = start.0; end = end.0 })) value end.2 in
    let made : Period = record { start = start.0; end = end.0 } in
    let name = name_again form.0 table.period (not_false (same_name form.0 table.period) named.0) r.fits.0 r.written.1.1.1.0 in
    let again : IsReadAs portion (portion_in table) (table.period, form.1) value = record {
      fits = (name.0, r.fits.1);
      written = (r.written.0, (r.written.1.0, (r.written.1.1.0, (name.1, r.written.1.1.1.1))));
      let_through = unrefused (not (same_name table.period table.period)) UnknownColumn (period_named form.1.0 form.1.1) value (ap not (same_self table.period)) named.1;
    } in
    let days : form.1 ≡ (day_text start.0, day_text end.0) = sym (rw ((day_is form.1.0 start.0 start.1).0, (day_is form.1.1 end.0 end.1).0) refl) in
    let here = subst (λ (d : Bytes × Bytes). IsReadAs portion (portion_in table) (table.period, d) value) days again in
    subst (λ (p : Period). IsReadAs portion (portion_in table) (table.period, (day_text p.start, day_text p.end)) value) (ok_is made value done.1) here

-- ---- assignments

amount_is : (ds : Bytes) (n : ℕ) → amount ds ≡ Ok n → n < 9_223_372_036_854_775_808
unfolding amount
amount_is ds n e = by (decided (nat_lt (digits_value 10 ds) 9_223_372_036_854_775_808)) where
  by : (nat_lt (digits_value 10 ds) 9_223_372_036_854_775_808 ≡ true) ⊎ (nat_lt (digits_value 10 ds) 9_223_372_036_854_775_808 ≡ false) → n < 9_223_372_036_854_775_808
  by (inl h) =
      let same = ok_is (digits_value 10 ds) n (rw h at e) in
      let lt = ltb-true (digits_value 10 ds) 9_223_372_036_854_775_808 h in
      subst (λ (k : ℕ). k < 9_223_372_036_854_775_808) same lt
  by (inr h) = let never = rw h at e in absurd cc

amount_again : (n : ℕ) → n < 9_223_372_036_854_775_808 → amount (decimal n) ≡ Ok n
unfolding amount
amount_again n lt = rw (decimal_value n (omega arith), lt-ltb n 9_223_372_036_854_775_808 lt) refl

-- a column's own name, plus or minus a number
changed : (table : TableShape) (column : ℕ × Kind) (name : Bytes) (side : Unit {0} ⊎ Unit {0}) (n : ℕ) → NamesColumn table name column → is_integer column.1 ≡ true → n < 9_223_372_036_854_775_808
    → IsReadAs new_value (new_value_in table column) (value_of name (changed_by side n)) (changed_by side n)
unfolding new_value new_value_in changed_in names digits
changed table column name (inl plus) n named whole lt = record {
  fits = (named.fits, (tt, tt));
  written = (named.written, (sign_written sign.Plus, (decimal_written n (omega arith), tt)));
  let_through = rw (named.found, eq-eqb column.0 column.0 refl, whole, amount_again n lt) refl;
}
changed table column name (inr minus) n named whole lt = record {
  fits = (named.fits, (tt, tt));
  written = (named.written, (sign_written sign.Minus, (decimal_written n (omega arith), tt)));
  let_through = rw (named.found, eq-eqb column.0 column.0 refl, whole, amount_again n lt) refl;
}

new_values_again : (table : TableShape) (column : ℕ × Kind) (name : Bytes) → NamesColumn table name column → ReadsAgain new_value (new_value_in table column) (value_of name)
unfolding new_value new_value_in changed_in
new_values_again table column name named (inr l) value r =
    let own = after_ok (literal_in column.1 l) (λ (v : RowValue). Ok (values.Literal v)) value r.let_through in
    let again = literals_again column.1 l own.0 (record { fits = r.fits; written = r.written; let_through = own.1 }) in
    let here : IsReadAs new_value (new_value_in table column) (value_of name (values.Literal own.0)) (values.Literal own.0) = record {
      fits = again.fits;
      written = again.written;
      let_through = rw again.let_through refl;
    } in
    subst (λ (v : NewValue). IsReadAs new_value (new_value_in table column) (value_of name v) v) (ok_is (values.Literal own.0) value own.2) here
new_values_again table column name named (inl (other, (side, ds))) value r =
    let found = after_ok (column_named table other) (λ (o : ℕ × Kind). refuse_if (not (o.0 == column.0)) NotAssignable >> (refuse_if (not (is_integer column.1)) WrongType >> (amount ds >>= λ n. Ok (changed_by side n)))) value r.let_through in
    let same = not_refused (not (found.0.0 == column.0)) NotAssignable (refuse_if (not (is_integer column.1)) WrongType >> (amount ds >>= λ n. Ok (changed_by side n))) value found.2 in
    let whole = not_refused (not (is_integer column.1)) WrongType (amount ds >>= λ n. Ok (changed_by side n)) value same.1 in
    let n = after_ok (amount ds) (λ (k : ℕ). Ok (changed_by side k)) value whole.1 in
    let here = changed table column name side n.0 named (not_false (is_integer column.1) whole.0) (amount_is ds n.0 n.1) in
    subst (λ (v : NewValue). IsReadAs new_value (new_value_in table column) (value_of name v) v) (ok_is (changed_by side n.0) value n.2) here

value_place_is : (f : Field) (place : ℕ) → value_place f ≡ Some place → f ≡ fields.Value place
value_place_is (fields.Key i) place e = absurd cc
value_place_is (fields.Value i) place e = let same : i ≡ place = cc in ap fields.Value same

value_field : (o : Option Field) (place : ℕ) → option_and_then value_place o ≡ Some place → o ≡ Some (fields.Value place)
value_field None place e = absurd cc
value_field (Some f) place e = ap (λ (g : Field). Some g) (value_place_is f place e)

assigned : (table : TableShape) (before : List Assignment) (name : Bytes) (column : ℕ × Kind) (place : ℕ) (v : NewValue) → NamesColumn table name column → assignable table column.0 ≡ Ok place
    → is_among place (map (λ a. a.place) before) ≡ false → IsReadAs new_value (new_value_in table column) (value_of name v) v
    → IsReadAs assignment (assignment_in table before) (name, value_of name v) (record { place = place; value = v })
unfolding assignment assignment_in names
assigned table before name column place v named at new again = record {
  fits = (named.fits, again.fits);
  written = (named.written, (sign_written sign.Equal, again.written));
  let_through = rw (named.found, at, new, again.let_through) refl;
}

pub assignment_again : (table : TableShape) (before : List Assignment) → ReadsAgain assignment (assignment_in table before) (assignment_of table)
unfolding assignment assignment_in assignable names
assignment_again table before form value r =
    let column = after_ok (column_named table form.0) (λ (c : ℕ × Kind). assignable table c.0 >>= λ p. refuse_if (is_among p (map (λ a. a.place) before)) NotAssignable >> (new_value_in table c form.1 >>= λ v. Ok (record { place = p; value = v }))) value r.let_through in
    let place = after_ok (assignable table column.0.0) (λ (p : ℕ). refuse_if (is_among p (map (λ a. a.place) before)) NotAssignable >> (new_value_in table column.0 form.1 >>= λ v. Ok (record { place = p; value = v }))) value column.2 in
    let new = not_refused (is_among place.0 (map (λ a. a.place) before)) NotAssignable (new_value_in table column.0 form.1 >>= λ v. Ok (record { place = place.0; value = v })) value place.2 in
    let own = after_ok (new_value_in table column.0 form.1) (λ (v : NewValue). Ok (record { place = place.0; value = v })) value new.1 in
    let made : Assignment = record { place = place.0; value = own.0 } in
    let field = value_field (field_at table column.0.0) place.0 (some_of NotAssignable (option_and_then value_place (field_at table column.0.0)) place.0 place.1) in
    let named : NamesColumn table form.0 column.0 = record { fits = r.fits.0; written = r.written.0; found = column.1 } in
    let again = column_again table form.0 column.0 named in
    let read = new_values_again table column.0 (column_name table column.0.0) again form.1 own.0 (record { fits = r.fits.1; written = r.written.1.1; let_through = own.1 }) in
    let done = assigned table before (column_name table column.0.0) column.0 place.0 own.0 again place.1 new.0 read in
    let here = subst (λ (n : Bytes). IsReadAs assignment (assignment_in table before) (n, value_of n own.0) made) (sym (field_named table column.0.0 (fields.Value place.0) field)) done in
    subst (λ (a : Assignment). IsReadAs assignment (assignment_in table before) (assignment_of table a) a) (ok_is made value own.2) here

-- ---- lists

-- the forms of a list, whose tokens are written
pub record AreForms {A : Type 0} (phrase : Phrase What A) (forms : List A) : Type 0 where
  pub fit : AllByRecursion phrase.fits forms
  pub written : AllByRecursion (λ a. AllByRecursion IsWritten (phrase.spell a)) forms

-- what each of a list is read as is written and read again
pub record EachAgain {A B : Type 0} (phrase : Phrase What A) (checked : A → Result B Refusal) (written : B → A) (forms : List A) (all : List B) : Type 0 where
  pub count : length all ≡ length forms
  pub are : AreForms phrase (map written all)
  pub let_through : each_of checked (map written all) ≡ Ok all

pub each_again : {A B : Type 0} (phrase : Phrase What A) (checked : A → Result B Refusal) (written : B → A) → ReadsAgain phrase checked written
    → (forms : List A) (all : List B) → AreForms phrase forms → each_of checked forms ≡ Ok all → EachAgain phrase checked written forms all
each_again {A} {B} phrase checked written again [] all are e =
    subst (EachAgain phrase checked written []) (ok_is [] all e) (record { count = refl; are = record { fit = tt; written = tt }; let_through = refl })
each_again {A} {B} phrase checked written again (form ∷ forms) all are e =
    let first = after_ok (checked form) (λ (b : B). each_of checked forms >>= λ bs. Ok (b ∷ bs)) all e in
    let others = after_ok (each_of checked forms) (λ (bs : List B). Ok (first.0 ∷ bs)) all first.2 in
    let one = again form first.0 (record { fits = are.fit.0; written = are.written.0; let_through = first.1 }) in
    let rest = each_again phrase checked written again forms others.0 (record { fit = are.fit.1; written = are.written.1 }) others.1 in
    let both : EachAgain phrase checked written (form ∷ forms) (first.0 ∷ others.0) = record {
      count = omega (arith, rest.count);
      are = record { fit = (one.fits, rest.are.fit); written = (one.written, rest.are.written) };
      let_through = rw (one.let_through, rest.let_through) refl;
    } in
    subst (EachAgain phrase checked written (form ∷ forms)) (ok_is (first.0 ∷ others.0) all others.2) both

-- the conditions of a statement
some_conditions : (table : TableShape) (all : List Comparison) → 0 < length all → AreForms comparison (map (comparison_of table) all) → comparisons_in table (map (comparison_of table) all) ≡ Ok all
    → IsReadAs (optional (is_word keyword.Where) condition) (all_given (comparisons_in table)) (conditions_of table all) all
unfolding condition comparisons another_comparison
some_conditions table [] some are e = absurd (omega arith)
some_conditions table (c ∷ cs) some are e = record {
  fits = row_fits comparison another_comparison (is_word keyword.And) (λ a f. f) (map (comparison_of table) (c ∷ cs)) (omega arith) are.fit;
  written = (keyword_written keyword.Where, row_all comparison another_comparison (is_word keyword.And) IsWritten (λ a w. (keyword_written keyword.And, w)) (map (comparison_of table) (c ∷ cs)) (omega arith) are.written);
  let_through = e;
}

pub conditions_again : (table : TableShape) → ReadsAgain (optional (is_word keyword.Where) condition) (all_given (comparisons_in table)) (conditions_of table)
unfolding condition comparisons another_comparison comparisons_in
conditions_again table None value r =
    subst (λ (l : List Comparison). IsReadAs (optional (is_word keyword.Where) condition) (all_given (comparisons_in table)) (conditions_of table l) l) (ok_is [] value r.let_through)
    (record { fits = tt; written = tt; let_through = refl })
conditions_again table (Some forms) value r =
    let row_of = fits_row comparison another_comparison (is_word keyword.And) (λ a f. f) forms r.fits in
    let tokens = all_row comparison another_comparison (is_word keyword.And) IsWritten (λ a w. w.1) forms row_of.0 r.written.1 in
    let again = each_again comparison (comparison_in table) (comparison_of table) (comparisons_again table) forms value (record { fit = row_of.1; written = tokens }) r.let_through in
    some_conditions table value (omega (arith, again.count, row_of.0)) again.are again.let_through

-- the portion of a statement
pub portion_again : (table : TableShape) → ReadsAgain (optional (is_word keyword.For) portion) (if_given (portion_in table)) (option_map (portion_of table))
portion_again table None value r =
    subst (λ (o : Option Period). IsReadAs (optional (is_word keyword.For) portion) (if_given (portion_in table)) (option_map (portion_of table) o) o) (ok_is None value r.let_through)
    (record { fits = tt; written = tt; let_through = refl })
portion_again table (Some form) value r =
    let own = after_ok (portion_in table form) (λ (p : Period). Ok (Some p)) value r.let_through in
    let again = portions_again table form own.0 (record { fits = r.fits; written = r.written; let_through = own.1 }) in
    let here : IsReadAs (optional (is_word keyword.For) portion) (if_given (portion_in table)) (Some (portion_of table own.0)) (Some own.0) = record {
      fits = again.fits;
      written = again.written;
      let_through = rw again.let_through refl;
    } in
    subst (λ (o : Option Period). IsReadAs (optional (is_word keyword.For) portion) (if_given (portion_in table)) (option_map (portion_of table) o) o) (ok_is (Some own.0) value own.2) here

-- the assignments of a statement, behind others
record SetAgain (table : TableShape) (before : List Assignment) (forms : List AssignmentForm) (all : List Assignment) : Type 0 where
  new : List Assignment
  is : before ++ new ≡ all
  count : length new ≡ length forms
  are : AreForms assignment (map (assignment_of table) new)
  let_through : assignments_after table before (map (assignment_of table) new) ≡ Ok all

set_again : (table : TableShape) (before : List Assignment) (forms : List AssignmentForm) (all : List Assignment) → AreForms assignment forms → assignments_after table before forms ≡ Ok all → SetAgain table before forms all
set_again table before [] all are e = record { new = []; is = append-nil before ∙ ok_is before all e; count = refl; are = record { fit = tt; written = tt }; let_through = e }
set_again table before (form ∷ forms) all are e =
    let first = after_ok (assignment_in table before form) (λ (a : Assignment). assignments_after table (before ++ a ∷ []) forms) all e in
    let one = assignment_again table before form first.0 (record { fits = are.fit.0; written = are.written.0; let_through = first.1 }) in
    let rest = set_again table (before ++ first.0 ∷ []) forms all (record { fit = are.fit.1; written = are.written.1 }) first.2 in
    record {
      new = first.0 ∷ rest.new;
      is = sym (append_assoc before (first.0 ∷ []) rest.new) ∙ rest.is;
      count = omega (arith, rest.count);
      are = record { fit = (one.fits, rest.are.fit); written = (one.written, rest.are.written) };
      let_through = rw one.let_through rest.let_through;
    }

pub assignments_again : (table : TableShape) → ReadsAgain assignments (assignments_after table []) (λ all. map (assignment_of table) all)
unfolding assignments another_assignment
assignments_again table forms all r =
    let row_of = fits_row assignment another_assignment (is_symbol sign.Comma) (λ a f. f) forms r.fits in
    let tokens = all_row assignment another_assignment (is_symbol sign.Comma) IsWritten (λ a w. w.1) forms row_of.0 r.written in
    let again = set_again table [] forms all (record { fit = row_of.1; written = tokens }) r.let_through in
    let some : 0 < length (map (assignment_of table) again.new) = omega (arith, length-map again.new (assignment_of table), again.count, row_of.0) in
    let here : IsReadAs assignments (assignments_after table []) (map (assignment_of table) again.new) all = record {
      fits = row_fits assignment another_assignment (is_symbol sign.Comma) (λ a f. f) (map (assignment_of table) again.new) some again.are.fit;
      written = row_all assignment another_assignment (is_symbol sign.Comma) IsWritten (λ a w. (sign_written sign.Comma, w)) (map (assignment_of table) again.new) some again.are.written;
      let_through = again.let_through;
    } in
    subst (λ (l : List Assignment). IsReadAs assignments (assignments_after table []) (map (assignment_of table) l) all) again.is here
