-- An INSERT that is read, and the INSERT that is written of it.
use Rattle.std.specs.Str.Parse.{digits_value}
use Rattle.std.proofs.Common.{◌≡◌, ℕ, ℤ, zero, suc, ◌+◌, ◌<◌, ◌≤◌, Bool, true, false, List, [], ◌∷◌, ◌++◌, length, map, filter, zip, slice_get, eqb, Option, Some, Result, Ok, refl, sym, ap, subst, ◌∙◌, append_assoc, arith, inl, inr}
use Rattle.std.specs.Prelude.{◌⊎◌, ◌==◌, ◌||◌, not, nat_lt}
use Rattle.std.specs.List.{AllByRecursion, list_all, range_with_len}
use Rattle.std.specs.Option.{option_map_or}
use Rattle.std.proofs.lemmas.Bool.{eqb-true, eq-eqb, ne_eqb}
use borrow.Author.Tests.{eqb-false}
use Rattle.std.proofs.lemmas.List.{append-nil, length-map}
use Rattle.std.proofs.lemmas.Option.{slice_get_within}
use Rattle.fault.specs.declared.refusal.Refusal.{Refusal}
use Rattle.fault.specs.declared.refusal.Refusal.TheVariants.{UnknownColumn, WrongType, NotAssignable, EmptyPeriod}
use Rattle.period.specs.Day.{day_text}
use Rattle.model.specs.declared.value.Value.{Value as RowValue}
use Rattle.model.specs.declared.value.Value.TheVariants as value
use Rattle.schema.specs.Shape.{TableShape}
use Rattle.schema.specs.declared.table.Kind.{Kind}
use Rattle.schema.specs.declared.table.Kind.TheVariants as kind
use Rattle.sqltokens.specs.What.{Name}
use Rattle.namesyntax.specs.Words.{is_name_text}
use Rattle.namesyntax.specs.Names.{Bytes, names}
use Rattle.sqlsyntax.specs.Shared.{LiteralForm, literal}
use Rattle.sqlchecks.specs.declared.field.Field.{Field}
use Rattle.sqlchecks.specs.declared.field.Field.TheVariants as fields
use Rattle.sqlchecks.specs.Answering.{◌>>=◌, ◌>>◌, refuse_if, each_of}
use Rattle.sqlchecks.specs.Columns.{column_named, field_at, kept_at}
use Rattle.sqlchecks.specs.Literals.{signed, day_named, text_within, undoubled, literal_in}
use Rattle.sqlread.specs.Shapes.{InsertShape}
use Rattle.sqlread.specs.Changes.{is_among, is_system, listed, listed_after, has_all, list_in, Given, given, values_in, value_given, day_of, day_given, row_given}
use Rattle.rowtext.specs.Transactions.{literal_of, column_name, column_of, given_columns, cell_of}
use Rattle.rowtext.specs.Again.{IsWritten, IsReadAs}
use Rattle.rowtext.proofs.Steps.{decided, both_true, none_true, not_false, not_true, ok_is, after_ok, not_refused, all_both}
use Rattle.rowtext.proofs.LiteralsAgain.{day_is, day_literal, literals_again}
use Rattle.rowtext.proofs.ChangesAgain.{NamesColumn, column_found, column_again, field_column, AreForms}

-- ---- lists of numbers in order

module _ (p : ℕ → Bool) where
  pub all_in_range : (from n c : ℕ) → list_all p (range_with_len from n) ≡ true → from ≤ c → c < from + n → p c ≡ true
  all_in_range from zero c e lo hi = absurd (omega arith)
  all_in_range from (suc n) c e lo hi = by (decided (eqb from c)) (all_in_range (from + 1) n c) where
    by : (eqb from c ≡ true) ⊎ (eqb from c ≡ false) → (list_all p (range_with_len (from + 1) n) ≡ true → from + 1 ≤ c → c < from + 1 + n → p c ≡ true) → p c ≡ true
    by (inl h) rest = ap p (sym (eqb-true from c h)) ∙ (both_true (p from) (list_all p (range_with_len (from + 1) n)) e).0
    by (inr h) rest = let other = eqb-false from c h in rest (both_true (p from) (list_all p (range_with_len (from + 1) n)) e).1 (omega (arith, other)) (omega arith)

  pub range_all : (from n : ℕ) → ((c : ℕ) → from ≤ c → c < from + n → p c ≡ true) → list_all p (range_with_len from n) ≡ true
  range_all from zero all = refl
  range_all from (suc n) all = rw (all from (omega arith) (omega arith), range_all (from + 1) n (λ c lo hi. all c (omega arith) (omega arith))) refl

  -- those that pass
  pub among_filtered : (from n c : ℕ) → from ≤ c → c < from + n → p c ≡ true → is_among c (filter p (range_with_len from n)) ≡ true
  among_filtered from zero c lo hi e = absurd (omega arith)
  among_filtered from (suc n) c lo hi e = by (decided (p from)) (decided (eqb from c)) (among_filtered (from + 1) n c) where
    by : (p from ≡ true) ⊎ (p from ≡ false) → (eqb from c ≡ true) ⊎ (eqb from c ≡ false) → (from + 1 ≤ c → c < from + 1 + n → p c ≡ true → is_among c (filter p (range_with_len (from + 1) n)) ≡ true)
        → is_among c (filter p (range_with_len from (suc n))) ≡ true
    by (inl h) (inl same) rest = rw (h, same) refl
    by (inl h) (inr other) rest = let ne = eqb-false from c other in rw (h, other) (rest (omega (arith, ne)) (omega arith) e)
    by (inr h) (inl same) rest = let never = sym (ap p (eqb-true from c same) ∙ e) ∙ h in absurd cc
    by (inr h) (inr other) rest = let ne = eqb-false from c other in rw h (rest (omega (arith, ne)) (omega arith) e)

  pub all_filtered : (P : ℕ → Type 0) (from n : ℕ) → ((c : ℕ) → c < from + n → p c ≡ true → P c) → AllByRecursion P (filter p (range_with_len from n))
  all_filtered P from zero all = tt
  all_filtered P from (suc n) all = by (decided (p from)) (all_filtered P (from + 1) n (λ c hi e. all c (omega arith) e)) where
    by : (p from ≡ true) ⊎ (p from ≡ false) → AllByRecursion P (filter p (range_with_len (from + 1) n)) → AllByRecursion P (filter p (range_with_len from (suc n)))
    by (inl h) rest = rw h (all from (omega arith) h, rest)
    by (inr h) rest = rw h rest

-- ---- the columns that were listed

abbrev pub kind_at : TableShape → ℕ → Kind
kind_at table c = option_map_or (λ e. e.1) (slice_get table.columns c) kind.Date

abbrev pub placed : TableShape → ℕ → ℕ × Kind
placed table c = (c, kind_at table c)

-- a column that an INSERT may name, which its declared name finds
record IsNamed (table : TableShape) (c : ℕ) : Type 0 where
  named : NamesColumn table (column_name table c) (placed table c)
  given : is_system table c ≡ false
  within : c < length table.columns

record IsListed (table : TableShape) (column : ℕ × Kind) : Type 0 where
  own : IsNamed table column.0
  kind : column ≡ placed table column.0

listed_is : (table : TableShape) (before : List (ℕ × Kind)) (name : Bytes) (column : ℕ × Kind) → is_name_text name ≡ true → IsWritten (Name name) → listed table before name ≡ Ok column → IsListed table column
unfolding listed
listed_is table before name column fits written e =
    let found = after_ok (column_named table name) (λ (c : ℕ × Kind). refuse_if (is_system table c.0 || is_among c.0 (map (λ d. d.0) before)) NotAssignable >> Ok c) column e in
    let free = not_refused (is_system table found.0.0 || is_among found.0.0 (map (λ d. d.0) before)) NotAssignable (Ok found.0) column found.2 in
    let is : found.0 ≡ column = ok_is found.0 column free.1 in
    let stands = (column_found table name found.0 found.1).stands in
    let its : found.0 ≡ placed table found.0.0 = ap (λ (k : Kind). (found.0.0, k)) (sym (ap (λ (o : Option (Bytes × Kind)). option_map_or (λ d. d.1) o kind.Date) stands)) in
    let named = column_again table name found.0 (record { fits = fits; written = written; found = found.1 }) in
    subst (IsListed table) is (record {
      own = record {
        named = subst (NamesColumn table (column_name table found.0.0)) its named;
        given = (none_true (is_system table found.0.0) (is_among found.0.0 (map (λ d. d.0) before)) free.0).0;
        within = slice_get_within table.columns found.0.0 (column_name table found.0.0, found.0.1) stands;
      };
      kind = its;
    })

-- names of the grammar that are written
pub record AreNames (list : List Bytes) : Type 0 where
  pub fit : AllByRecursion (λ n. is_name_text n ≡ true) list
  pub written : AllByRecursion (λ n. IsWritten (Name n)) list

listed_are : (table : TableShape) (before : List (ℕ × Kind)) (list : List Bytes) (columns : List (ℕ × Kind)) → AllByRecursion (IsListed table) before → AreNames list → listed_after table before list ≡ Ok columns → AllByRecursion (IsListed table) columns
listed_are table before [] columns all are e = subst (AllByRecursion (IsListed table)) (ok_is before columns e) all
listed_are table before (name ∷ list) columns all are e =
    let first = after_ok (listed table before name) (λ (c : ℕ × Kind). listed_after table (before ++ c ∷ []) list) columns e in
    let one = listed_is table before name first.0 are.fit.0 are.written.0 first.1 in
    listed_are table (before ++ first.0 ∷ []) list columns (all_both (IsListed table) before (first.0 ∷ []) all (one, tt)) (record { fit = are.fit.1; written = are.written.1 }) first.2

-- ---- the values that columns were given

-- what a column was given, which is written and read again
record IsValueOf (table : TableShape) (values : List Given) (c : ℕ) : Type 0 where
  own : IsNamed table c
  value : RowValue
  at : value_given values c ≡ Ok value
  again : IsReadAs literal (literal_in (kind_at table c)) (literal_of value) value

value_first : (c : ℕ) (v : RowValue) (values : List Given) → value_given ((c, v) ∷ values) c ≡ Ok v
unfolding value_given
value_first c v values = rw (eq-eqb c c refl) refl

value_later : (g : Given) (values : List Given) (c : ℕ) → eqb g.0 c ≡ false → value_given (g ∷ values) c ≡ value_given values c
unfolding value_given
value_later g values c other = rw other refl

value_of_first : (g : Given) (values : List Given) (c : ℕ) → eqb g.0 c ≡ true → value_given (g ∷ values) c ≡ Ok g.1
unfolding value_given
value_of_first g values c same = rw same refl

no_value : (c : ℕ) (v : RowValue) → value_given [] c ≡ Ok v → ⊥
unfolding value_given
no_value c v e = cc

-- the values of literals at their columns
record AreGiven (table : TableShape) (columns : List (ℕ × Kind)) (values : List Given) : Type 0 where
  each : (c : ℕ) → is_among c (map (λ d. d.0) columns) ≡ true → IsValueOf table values c
  only : (c : ℕ) (v : RowValue) → value_given values c ≡ Ok v → is_among c (map (λ d. d.0) columns) ≡ true

given_parts : (x : (ℕ × Kind) × LiteralForm) (g : Given) → given x ≡ Ok g → (v : RowValue) × (literal_in x.0.1 x.1 ≡ Ok v) × ((x.0.0, v) ≡ g)
unfolding given
given_parts x g e =
    let v = after_ok (literal_in x.0.1 x.1) (λ (w : RowValue). Ok (x.0.0, w)) g e in
    (v.0, v.1, ok_is (x.0.0, v.0) g v.2)

one_given : (table : TableShape) (column : ℕ × Kind) (l : LiteralForm) (g : Given) (values : List Given) → IsListed table column → literal.fits l → AllByRecursion IsWritten (literal.spell l) → given (column, l) ≡ Ok g
    → IsValueOf table (g ∷ values) column.0
one_given table column l g values is fits written e =
    let parts = given_parts (column, l) g e in
    let same : column.1 ≡ kind_at table column.0 = ap (λ (c : ℕ × Kind). c.1) is.kind in
    let read : IsReadAs literal (literal_in column.1) l parts.0 = record { fits = fits; written = written; let_through = parts.1 } in
    subst (λ (h : Given). IsValueOf table (h ∷ values) column.0) parts.2 (record {
      own = is.own;
      value = parts.0;
      at = value_first column.0 parts.0 values;
      again = literals_again (kind_at table column.0) l parts.0 (subst (λ (k : Kind). IsReadAs literal (literal_in k) l parts.0) same read);
    })

given_place : (x : (ℕ × Kind) × LiteralForm) (g : Given) → given x ≡ Ok g → g.0 ≡ x.0.0
given_place x g e = let parts = given_parts x g e in sym (ap (λ (h : Given). h.0) parts.2)

more_given : (table : TableShape) (column : ℕ × Kind) (columns : List (ℕ × Kind)) (l : LiteralForm) (g : Given) (values : List Given) → IsListed table column → literal.fits l → AllByRecursion IsWritten (literal.spell l) → given (column, l) ≡ Ok g
    → AreGiven table columns values → AreGiven table (column ∷ columns) (g ∷ values)
more_given table column columns l g values is fits written e rest = record {
  each = λ c among. each_by c (decided (eqb column.0 c)) among;
  only = λ c v f. only_by c v (decided (eqb column.0 c)) f;
} where
  place : g.0 ≡ column.0
  place = given_place (column, l) g e

  each_by : (c : ℕ) → (eqb column.0 c ≡ true) ⊎ (eqb column.0 c ≡ false) → is_among c (column.0 ∷ map (λ d. d.0) columns) ≡ true → IsValueOf table (g ∷ values) c
  each_by c (inl same) among = subst (IsValueOf table (g ∷ values)) (eqb-true column.0 c same) (one_given table column l g values is fits written e)
  each_by c (inr other) among =
      let later = rest.each c (rw other at among) in
      record {
        own = later.own;
        value = later.value;
        at = value_later g values c (ap (λ (d : ℕ). eqb d c) place ∙ other) ∙ later.at;
        again = later.again;
      }

  only_by : (c : ℕ) (v : RowValue) → (eqb column.0 c ≡ true) ⊎ (eqb column.0 c ≡ false) → value_given (g ∷ values) c ≡ Ok v → is_among c (column.0 ∷ map (λ d. d.0) columns) ≡ true
  only_by c v (inl same) f = rw same refl
  only_by c v (inr other) f = rw other (rest.only c v (sym (value_later g values c (ap (λ (d : ℕ). eqb d c) place ∙ other)) ∙ f))

values_are : (table : TableShape) (columns : List (ℕ × Kind)) (literals : List LiteralForm) (values : List Given) → AllByRecursion (IsListed table) columns → AreForms literal literals → length literals ≡ length columns
    → each_of given (zip columns literals) ≡ Ok values → AreGiven table columns values
values_are table [] literals values all are long e = record {
  each = λ c among. absurd (let never : false ≡ true = among in cc);
  only = λ c v f. absurd (no_value c v (subst (λ (vs : List Given). value_given vs c ≡ Ok v) (sym (ok_is [] values e)) f));
}
values_are table (column ∷ columns) [] values all are long e = absurd (omega arith)
values_are table (column ∷ columns) (l ∷ literals) values all are long e =
    let first = after_ok (given (column, l)) (λ (g : Given). each_of given (zip columns literals) >>= λ gs. Ok (g ∷ gs)) values e in
    let others = after_ok (each_of given (zip columns literals)) (λ (gs : List Given). Ok (first.0 ∷ gs)) values first.2 in
    let rest = values_are table columns literals others.0 all.1 (record { fit = are.fit.1; written = are.written.1 }) (omega arith) others.1 in
    subst (AreGiven table (column ∷ columns)) (ok_is (first.0 ∷ others.0) values others.2) (more_given table column columns l first.0 others.0 all.0 are.fit.0 are.written.0 first.1 rest)

-- ---- the row

module _ {A B : Type 0} (f : A → Result B Refusal) where
  each_at : (xs : List A) (ys : List B) (i : ℕ) (x : A) (y : B) → each_of f xs ≡ Ok ys → slice_get xs i ≡ Some x → f x ≡ Ok y → slice_get ys i ≡ Some y
  each_at [] ys i x y e at is = absurd cc
  each_at (a ∷ xs) ys zero x y e at is =
      let first = after_ok (f a) (λ (b : B). each_of f xs >>= λ bs. Ok (b ∷ bs)) ys e in
      let others = after_ok (each_of f xs) (λ (bs : List B). Ok (first.0 ∷ bs)) ys first.2 in
      let same : a ≡ x = cc in
      let own : first.0 ≡ y = ok_is first.0 y (sym first.1 ∙ ap f same ∙ is) in
      ap (λ (l : List B). slice_get l 0) (sym (ok_is (first.0 ∷ others.0) ys others.2)) ∙ ap (λ (b : B). Some b) own
  each_at (a ∷ xs) ys (suc i) x y e at is =
      let first = after_ok (f a) (λ (b : B). each_of f xs >>= λ bs. Ok (b ∷ bs)) ys e in
      let others = after_ok (each_of f xs) (λ (bs : List B). Ok (first.0 ∷ bs)) ys first.2 in
      ap (λ (l : List B). slice_get l (suc i)) (sym (ok_is (first.0 ∷ others.0) ys others.2)) ∙ each_at xs others.0 i x y others.1 at is

  each_same : (g : A → Result B Refusal) → ((x : A) (y : B) → f x ≡ Ok y → g x ≡ Ok y) → (xs : List A) (ys : List B) → each_of f xs ≡ Ok ys → each_of g xs ≡ Ok ys
  each_same g same [] ys e = e
  each_same g same (a ∷ xs) ys e =
      let first = after_ok (f a) (λ (b : B). each_of f xs >>= λ bs. Ok (b ∷ bs)) ys e in
      let others = after_ok (each_of f xs) (λ (bs : List B). Ok (first.0 ∷ bs)) ys first.2 in
      rw (same a first.0 first.1, each_same g same xs others.0 others.1) others.2

-- the parts of a row that was given
record IsRowOf (place : ℕ) (table : TableShape) (values : List Given) (row : InsertShape) : Type 0 where
  start : value_given values table.start ≡ Ok (value.Day row.period.start)
  end : value_given values table.end ≡ Ok (value.Day row.period.end)
  some : not (nat_lt row.period.start row.period.end) ≡ false
  key : each_of (value_given values) table.key ≡ Ok row.key
  others : each_of (value_given values) table.values ≡ Ok row.values
  stands : row.table ≡ place

day_from : (v : RowValue) (d : ℕ) → day_of v ≡ Ok d → v ≡ value.Day d
day_from (value.Day e) d is = ap value.Day (ok_is e d is)
day_from (value.Number n) d is = absurd cc
day_from (value.Text t) d is = absurd cc

day_given_is : (values : List Given) (c d : ℕ) → day_given values c ≡ Ok d → value_given values c ≡ Ok (value.Day d)
unfolding day_given
day_given_is values c d e =
    let v = after_ok (value_given values c) day_of d e in
    v.1 ∙ ap (λ (w : RowValue). Ok w) (day_from v.0 d v.2)

row_is : (place : ℕ) (table : TableShape) (values : List Given) (row : InsertShape) → row_given place table values ≡ Ok row → IsRowOf place table values row
unfolding row_given
row_is place table values row e =
    let start = after_ok (day_given values table.start) (λ (s : ℕ). day_given values table.end >>= λ t. refuse_if (not (nat_lt s t)) EmptyPeriod >> (each_of (value_given values) table.key >>= λ k. each_of (value_given values) table.values >>= λ o. Ok (record { table = place; key = k; values = o; period = record { start = s; end = t } }))) row e in
    let end = after_ok (day_given values table.end) (λ (t : ℕ). refuse_if (not (nat_lt start.0 t)) EmptyPeriod >> (each_of (value_given values) table.key >>= λ k. each_of (value_given values) table.values >>= λ o. Ok (record { table = place; key = k; values = o; period = record { start = start.0; end = t } }))) row start.2 in
    let some = not_refused (not (nat_lt start.0 end.0)) EmptyPeriod (each_of (value_given values) table.key >>= λ k. each_of (value_given values) table.values >>= λ o. Ok (record { table = place; key = k; values = o; period = record { start = start.0; end = end.0 } })) row end.2 in
    let key = after_ok (each_of (value_given values) table.key) (λ (k : List RowValue). each_of (value_given values) table.values >>= λ o. Ok (record { table = place; key = k; values = o; period = record { start = start.0; end = end.0 } })) row some.1 in
    let others = after_ok (each_of (value_given values) table.values) (λ (o : List RowValue). Ok (record { table = place; key = key.0; values = o; period = record { start = start.0; end = end.0 } })) row key.2 in
    let made : InsertShape = record { table = place; key = key.0; values = others.0; period = record { start = start.0; end = end.0 } } in
    subst (IsRowOf place table values) (ok_is made row others.2) (record {
      start = day_given_is values table.start start.0 start.1;
      end = day_given_is values table.end end.0 end.1;
      some = some.0;
      key = key.1;
      others = others.1;
      stands = refl;
    })

is_row : (place : ℕ) (table : TableShape) (values : List Given) (row : InsertShape) → IsRowOf place table values row → row_given place table values ≡ Ok row
unfolding row_given day_given
is_row place table values row is = rw (is.start, is.end, is.some, is.key, is.others, is.stands) refl

row_same : (place : ℕ) (table : TableShape) (old new : List Given) (row : InsertShape) → ((c : ℕ) (v : RowValue) → value_given old c ≡ Ok v → value_given new c ≡ Ok v) → IsRowOf place table old row → IsRowOf place table new row
row_same place table old new row same is = record {
  start = same table.start (value.Day row.period.start) is.start;
  end = same table.end (value.Day row.period.end) is.end;
  some = is.some;
  key = each_same (value_given old) (value_given new) same table.key row.key is.key;
  others = each_same (value_given old) (value_given new) same table.values row.values is.others;
  stands = is.stands;
}

-- ---- what is written of the row

-- a column that is no system column and no end of the period is kept in the key or among the values
abbrev pub IsKept : TableShape → ℕ → Type 0
IsKept table c = (c == table.start) ≡ false → (c == table.end) ≡ false → (f : Field) × (field_at table c ≡ Some f)

day_within : (k : Kind) (l : LiteralForm) (d : ℕ) → literal_in k l ≡ Ok (value.Day d) → d ≤ 3_652_058
unfolding literal_in
day_within kind.Integer (inl t) d e = absurd cc
day_within kind.Integer (inr (inl t)) d e = absurd cc
day_within kind.Integer (inr (inr (minus, ds))) d e =
    let n = after_ok (signed minus (digits_value 10 ds)) (λ (m : ℤ). Ok (value.Number m)) (value.Day d) e in
    let never = ok_is (value.Number n.0) (value.Day d) n.2 in
    absurd cc
day_within (kind.Varchar most) (inl t) d e = absurd cc
day_within (kind.Varchar most) (inr (inl t)) d e =
    let text = after_ok (text_within most (undoubled t)) (λ (u : Bytes). Ok (value.Text u)) (value.Day d) e in
    let never = ok_is (value.Text text.0) (value.Day d) text.2 in
    absurd cc
day_within (kind.Varchar most) (inr (inr (minus, ds))) d e = absurd cc
day_within kind.Date (inl t) d e =
    let day = after_ok (day_named t) (λ (k : ℕ). Ok (value.Day k)) (value.Day d) e in
    let same : day.0 ≡ d = (let is = ok_is (value.Day day.0) (value.Day d) day.2 in cc) in
    let within = (day_is t day.0 day.1).1 in
    omega arith
day_within kind.Date (inr (inl t)) d e = absurd cc
day_within kind.Date (inr (inr (minus, ds))) d e = absurd cc
day_within kind.SystemStart (inl t) d e = absurd cc
day_within kind.SystemStart (inr (inl t)) d e = absurd cc
day_within kind.SystemStart (inr (inr (minus, ds))) d e = absurd cc
day_within kind.SystemEnd (inl t) d e = absurd cc
day_within kind.SystemEnd (inr (inl t)) d e = absurd cc
day_within kind.SystemEnd (inr (inr (minus, ds))) d e = absurd cc

day_cell : (k : Kind) (d : ℕ) (v : RowValue) → v ≡ value.Day d → IsReadAs literal (literal_in k) (literal_of v) v → inl (day_text d) ≡ literal_of v
day_cell k d v is r =
    let let_through : literal_in k (literal_of (value.Day d)) ≡ Ok (value.Day d) = subst (λ (w : RowValue). literal_in k (literal_of w) ≡ Ok w) is r.let_through in
    sym (ap literal_of is ∙ day_literal d (day_within k (literal_of (value.Day d)) d let_through))

kept_value : (place : ℕ) (table : TableShape) (values : List Given) (row : InsertShape) (c : ℕ) (f : Field) (v : RowValue) → IsRowOf place table values row → column_of table f ≡ Some c → value_given values c ≡ Ok v → kept_at row.key row.values f ≡ Some v
unfolding kept_at
kept_value place table values row c (fields.Key i) v is at own = each_at (value_given values) table.key row.key i c v is.key at own
kept_value place table values row c (fields.Value i) v is at own = each_at (value_given values) table.values row.values i c v is.others at own

cell_is : (place : ℕ) (table : TableShape) (values : List Given) (row : InsertShape) (c : ℕ) → IsRowOf place table values row → IsKept table c → (own : IsValueOf table values c) → cell_of table row c ≡ literal_of own.value
cell_is place table values row c is kept own = by (decided (c == table.start)) (decided (c == table.end)) where
  same_value : (v : RowValue) → value_given values c ≡ Ok v → own.value ≡ v
  same_value v e = ok_is own.value v (sym own.at ∙ e)

  by : ((c == table.start) ≡ true) ⊎ ((c == table.start) ≡ false) → ((c == table.end) ≡ true) ⊎ ((c == table.end) ≡ false) → cell_of table row c ≡ literal_of own.value
  by (inl start) end =
      let e = same_value (value.Day row.period.start) (ap (value_given values) (eqb-true c table.start start) ∙ is.start) in
      rw start (day_cell (kind_at table c) row.period.start own.value e own.again)
  by (inr start) (inl end) =
      let e = same_value (value.Day row.period.end) (ap (value_given values) (eqb-true c table.end end) ∙ is.end) in
      rw (start, end) (day_cell (kind_at table c) row.period.end own.value e own.again)
  by (inr start) (inr end) =
      let f = kept start end in
      let there = kept_value place table values row c f.0 own.value is (field_column table c f.0 f.1) own.at in
      rw (start, end, f.1, there) refl

-- the cells of some columns
record CellsAgain (table : TableShape) (values : List Given) (row : InsertShape) (cs : List ℕ) : Type 0 where
  cells : AreForms literal (map (cell_of table row) cs)
  new : List Given
  read : each_of given (zip (map (placed table) cs) (map (cell_of table row) cs)) ≡ Ok new
  same : (c : ℕ) (v : RowValue) → is_among c cs ≡ true → value_given values c ≡ Ok v → value_given new c ≡ Ok v

abbrev IsCell : ℕ → TableShape → List Given → InsertShape → ℕ → Type 0
IsCell place table values row c = IsKept table c × IsValueOf table values c

one_cell : (table : TableShape) (c : ℕ) (l : LiteralForm) (v : RowValue) → literal_in (kind_at table c) l ≡ Ok v → given (placed table c, l) ≡ Ok (c, v)
unfolding given
one_cell table c l v e = rw e refl

cells_again : (place : ℕ) (table : TableShape) (values : List Given) (row : InsertShape) (cs : List ℕ) → IsRowOf place table values row → AllByRecursion (IsCell place table values row) cs → CellsAgain table values row cs
cells_again place table values row [] is all = record { cells = record { fit = tt; written = tt }; new = []; read = refl; same = λ c v among. absurd (let never : false ≡ true = among in cc) }
cells_again place table values row (c ∷ cs) is all =
    let own = all.0.1 in
    let rest = cells_again place table values row cs is all.1 in
    let cell = cell_is place table values row c is all.0.0 own in
    let again : IsReadAs literal (literal_in (kind_at table c)) (cell_of table row c) own.value =
    subst (λ (l : LiteralForm). IsReadAs literal (literal_in (kind_at table c)) l own.value) (sym cell) own.again in
    record {
      cells = record { fit = (again.fits, rest.cells.fit); written = (again.written, rest.cells.written) };
      new = (c, own.value) ∷ rest.new;
      read = rw (one_cell table c (cell_of table row c) own.value again.let_through, rest.read) refl;
      same = λ d v among e. same_by d v own.value own.at rest.new rest.same (decided (eqb c d)) among e;
    } where
      same_by : (d : ℕ) (v w : RowValue) → value_given values c ≡ Ok w → (new : List Given) → ((d : ℕ) (v : RowValue) → is_among d cs ≡ true → value_given values d ≡ Ok v → value_given new d ≡ Ok v)
          → (eqb c d ≡ true) ⊎ (eqb c d ≡ false) → is_among d (c ∷ cs) ≡ true → value_given values d ≡ Ok v → value_given ((c, w) ∷ new) d ≡ Ok v
      same_by d v w at new later (inl h) among e = value_of_first (c, w) new d h ∙ sym at ∙ ap (value_given values) (eqb-true c d h) ∙ e
      same_by d v w at new later (inr h) among e = value_later (c, w) new d h ∙ later d v (rw h at among) e

-- ---- the columns that are written

abbrev is_given : TableShape → ℕ → Bool
is_given table c = not (is_system table c)

abbrev AreBelow : ℕ → List (ℕ × Kind) → Type 0
AreBelow n columns = AllByRecursion (λ (c : ℕ × Kind). c.0 < n) columns

none_among : (n : ℕ) (columns : List (ℕ × Kind)) → AreBelow n columns → is_among n (map (λ c. c.0) columns) ≡ false
none_among n [] below = refl
none_among n (c ∷ columns) below = rw (ne_eqb c.0 n (λ e. absurd (omega (arith, e, below.0))), none_among n columns below.1) refl

below_more : (n : ℕ) (columns : List (ℕ × Kind)) → AreBelow n columns → AreBelow (n + 1) columns
below_more n [] below = tt
below_more n (c ∷ columns) below = (let lt = below.0 in omega arith, below_more n columns below.1)

one_listed : (table : TableShape) (before : List (ℕ × Kind)) (c : ℕ) → IsNamed table c → AreBelow c before → listed table before (column_name table c) ≡ Ok (placed table c)
unfolding listed
one_listed table before c own below = rw (own.named.found, own.given, none_among c before below) refl

all_listed : (table : TableShape) (before : List (ℕ × Kind)) (from n : ℕ) → AreBelow from before → ((c : ℕ) → c < from + n → is_given table c ≡ true → IsNamed table c)
    → listed_after table before (map (column_name table) (filter (is_given table) (range_with_len from n))) ≡ Ok (before ++ map (placed table) (filter (is_given table) (range_with_len from n)))
all_listed table before from zero below named = ap (λ (l : List (ℕ × Kind)). Ok l) (sym (append-nil before))
all_listed table before from (suc n) below named =
    by (decided (is_given table from))
    (all_listed table before (from + 1) n (below_more from before below) (λ c lt g. named c (omega arith) g))
    (all_listed table (before ++ placed table from ∷ []) (from + 1) n (all_both (λ (c : ℕ × Kind). c.0 < from + 1) before (placed table from ∷ []) (below_more from before below) (omega arith, tt)) (λ c lt g. named c (omega arith) g)) where
      by : (is_given table from ≡ true) ⊎ (is_given table from ≡ false)
          → listed_after table before (map (column_name table) (filter (is_given table) (range_with_len (from + 1) n))) ≡ Ok (before ++ map (placed table) (filter (is_given table) (range_with_len (from + 1) n)))
          → listed_after table (before ++ placed table from ∷ []) (map (column_name table) (filter (is_given table) (range_with_len (from + 1) n))) ≡ Ok ((before ++ placed table from ∷ []) ++ map (placed table) (filter (is_given table) (range_with_len (from + 1) n)))
          → listed_after table before (map (column_name table) (filter (is_given table) (range_with_len from (suc n)))) ≡ Ok (before ++ map (placed table) (filter (is_given table) (range_with_len from (suc n))))
      by (inl h) skipped taken =
          rw (h, one_listed table before from (named from (omega arith) h) below)
          (taken ∙ ap (λ (l : List (ℕ × Kind)). Ok l) (append_assoc before (placed table from ∷ []) (map (placed table) (filter (is_given table) (range_with_len (from + 1) n)))))
      by (inr h) skipped taken = rw h skipped

places_of : (table : TableShape) (cs : List ℕ) → map (λ (c : ℕ × Kind). c.0) (map (placed table) cs) ≡ cs
places_of table [] = refl
places_of table (c ∷ cs) = ap (λ (l : List ℕ). c ∷ l) (places_of table cs)

or_true : (a b : Bool) → (a ≡ false → b ≡ true) → (a || b) ≡ true
or_true true b f = refl
or_true false b f = f refl

given_among : (table : TableShape) (c : ℕ) → c < length table.columns → is_system table c ≡ false → is_among c (given_columns table) ≡ true
given_among table c lt system = among_filtered (is_given table) 0 (length table.columns) c (omega arith) (omega arith) (ap not system)

all_there : (table : TableShape) → has_all table (map (placed table) (given_columns table)) ≡ true
all_there table =
    range_all (λ c. is_system table c || is_among c (map (λ l. l.0) (map (placed table) (given_columns table)))) 0 (length table.columns)
    (λ c lo hi. or_true (is_system table c) (is_among c (map (λ l. l.0) (map (placed table) (given_columns table))))
    (λ system. ap (is_among c) (places_of table (given_columns table)) ∙ given_among table c (omega arith) system))

names_of_columns : (table : TableShape) (values : List Given) (cs : List ℕ) → AllByRecursion (IsValueOf table values) cs → AreNames (map (column_name table) cs)
names_of_columns table values [] all = record { fit = tt; written = tt }
names_of_columns table values (c ∷ cs) all =
    let rest = names_of_columns table values cs all.1 in
    let named = all.0.own.named in
    record { fit = (named.fits, rest.fit); written = (named.written, rest.written) }

cells_of : (place : ℕ) (table : TableShape) (values : List Given) (row : InsertShape) (cs : List ℕ) → AllByRecursion (IsValueOf table values) cs → ((c : ℕ) → IsNamed table c → IsKept table c) → AllByRecursion (IsCell place table values row) cs
cells_of place table values row [] all kept = tt
cells_of place table values row (c ∷ cs) all kept = ((kept c all.0.own, all.0), cells_of place table values row cs all.1 kept)

length_zip_is : {A B : Type 0} (f : ℕ → A) (g : ℕ → B) (cs : List ℕ) → (length (map f cs) == length (map g cs)) ≡ true
length_zip_is f g cs = rw (length-map cs f, length-map cs g) (eq-eqb (length cs) (length cs) refl)

some_among : (c : ℕ) (cs : List ℕ) → is_among c cs ≡ true → 0 < length cs
some_among c [] e = absurd (let never : false ≡ true = e in cc)
some_among c (d ∷ cs) e = omega arith

-- the columns and the cells of a row that was read
pub record RowAgain (place : ℕ) (table : TableShape) (row : InsertShape) : Type 0 where
  pub some : 0 < length (given_columns table)
  pub names : AreNames (map (column_name table) (given_columns table))
  pub cells : AreForms literal (map (cell_of table row) (given_columns table))
  pub let_through : (list_in table (map (column_name table) (given_columns table)) >>= λ columns. values_in columns (map (cell_of table row) (given_columns table)) >>= row_given place table) ≡ Ok row
  pub stands : row.table ≡ place

row_again : (place : ℕ) (table : TableShape) (columns : List (ℕ × Kind)) (values : List Given) (row : InsertShape) → ((c : ℕ) → IsNamed table c → IsKept table c) → has_all table columns ≡ true
    → AreGiven table columns values → IsRowOf place table values row → RowAgain place table row
unfolding list_in values_in
row_again place table columns values row kept all are is =
    let cs = given_columns table in
    let each = all_filtered (is_given table) (IsValueOf table values) 0 (length table.columns) (λ c lt given. value_there c lt given) in
    let cells = cells_again place table values row cs is (cells_of place table values row cs each kept) in
    let same = row_same place table values cells.new row (λ c v e. cells.same c v (own_among c v e) e) is in
    record {
      some = some_among table.start cs (own_among table.start (value.Day row.period.start) is.start);
      names = names_of_columns table values cs each;
      cells = cells.cells;
      let_through = rw (
        all_listed table [] 0 (length table.columns) tt (λ c lt given. (value_there c lt given).own),
        all_there table,
        length_zip_is (cell_of table row) (placed table) cs,
        cells.read,
      ) (is_row place table cells.new row same);
      stands = is.stands;
    } where
      value_there : (c : ℕ) → c < 0 + length table.columns → is_given table c ≡ true → IsValueOf table values c
      value_there c lt given =
          let listed = all_in_range (λ d. is_system table d || is_among d (map (λ l. l.0) columns)) 0 (length table.columns) c all (omega arith) lt in
          are.each c (rw (not_true (is_system table c) given) at listed)

      own_among : (c : ℕ) (v : RowValue) → value_given values c ≡ Ok v → is_among c (given_columns table) ≡ true
      own_among c v e = let own = (are.each c (are.only c v e)).own in given_among table c own.within own.given

pub insert_row_again : (place : ℕ) (table : TableShape) (list : List Bytes) (literals : List LiteralForm) (row : InsertShape) → ((c : ℕ) → c < length table.columns → is_system table c ≡ false → IsKept table c) → AreNames list → AreForms literal literals
    → (list_in table list >>= λ columns. values_in columns literals >>= row_given place table) ≡ Ok row → RowAgain place table row
unfolding list_in values_in
insert_row_again place table list literals row kept names are e =
    let columns = after_ok (list_in table list) (λ (cs : List (ℕ × Kind)). values_in cs literals >>= row_given place table) row e in
    let found = after_ok (listed_after table [] list) (λ (cs : List (ℕ × Kind)). refuse_if (not (has_all table cs)) UnknownColumn >> Ok cs) columns.0 columns.1 in
    let whole = not_refused (not (has_all table found.0)) UnknownColumn (Ok found.0) columns.0 found.2 in
    let is : found.0 ≡ columns.0 = ok_is found.0 columns.0 whole.1 in
    let listed = listed_are table [] list columns.0 tt names (found.1 ∙ ap (λ (cs : List (ℕ × Kind)). Ok cs) is) in
    let values = after_ok (values_in columns.0 literals) (row_given place table) row columns.2 in
    let long = not_refused (not (length literals == length columns.0)) WrongType (each_of given (zip columns.0 literals)) values.0 values.1 in
    let count : length literals ≡ length columns.0 = eqb-true (length literals) (length columns.0) (not_false (length literals == length columns.0) long.0) in
    let given_are = values_are table columns.0 literals values.0 listed are count long.1 in
    let all : has_all table columns.0 ≡ true = ap (has_all table) (sym is) ∙ not_false (has_all table found.0) whole.0 in
    row_again place table columns.0 values.0 row (λ c own. kept c own.within own.given) all given_are (row_is place table values.0 row values.2)
