-- What a text inserts has a key with as many columns as its table's.
use Rattle.std.specs.List.{AllByRecursion}
use Rattle.std.specs.Option.{option_map_or}
use Rattle.std.specs.Result.{result_unwrap_or}
use Rattle.std.specs.Prelude.{slice_get, nat_lt}
use Rattle.std.proofs.Common.{◌≡◌, ℕ, suc, not, List, [], ◌∷◌, length, Some, Result, Ok, Err, refl, sym, ap, ◌∙◌, subst, inl, inr, arith}
use Rattle.fault.specs.declared.refusal.Refusal.{Refusal}
use Rattle.fault.specs.declared.refusal.Refusal.TheVariants.{UnknownTable, EmptyPeriod}
use Rattle.rowlaws.specs.Rows.{Has}
use Rattle.schema.specs.Shape.{TableShape}
use Rattle.namesyntax.specs.Names.{Bytes}
use Rattle.namesyntax.specs.Parsing.{parsed}
use Rattle.sqlsyntax.specs.Transactions.{InsertForm, StatementForm, statements}
use Rattle.sqlchecks.specs.Answering.{or_refuse, refuse_if, each_of}
use Rattle.sqlchecks.specs.Columns.{Tables, table_named}
use Rattle.sqlread.specs.Shapes.{StatementShape, InsertShape}
use Rattle.sqlread.specs.Shapes as shapes
use Rattle.sqlread.specs.Changes.{Given, in_table, list_in, values_in, value_given, day_given, row_given, insert_into, insert_in, update_in, delete_in, statement_in, statements_in}
use Rattle.sqlread.specs.Texts.{transaction_in}
use Rattle.current.specs.Current.{IsNarrow}
use Rattle.apply.specs.Reads.{key_columns}
use Rattle.apply.proofs.Fine.{bind_ok, then_ok, some_of, each_in, unless_long}

each_as_many : {A B : Type 0} (f : A → Result B Refusal) (as' : List A) (bs : List B) → each_of f as' ≡ Ok bs → length bs ≡ length as'
each_as_many {A} {B} f [] bs e = let k : bs ≡ [] = cc in ap length k
each_as_many {A} {B} f (a ∷ as') bs e =
    let x = bind_ok (f a) _ bs e in
    let y = bind_ok (each_of f as') _ bs x.2 in
    let k : bs ≡ x.0 ∷ y.0 = let g = y.2 in cc in
    ap length k ∙ ap suc (each_as_many f as' y.0 y.1)

row_width : (place : ℕ) (table : TableShape) (values : List Given) (s : InsertShape) → row_given place table values ≡ Ok s → (s.table ≡ place) × (length s.key ≡ length table.key)
unfolding row_given
row_width place table values s e =
    let a = bind_ok (day_given values table.start) _ s e in
    let b = bind_ok (day_given values table.end) _ s a.2 in
    let c = then_ok (refuse_if (not (nat_lt a.0 b.0)) EmptyPeriod) _ s b.2 in
    let d = bind_ok (each_of (value_given values) table.key) _ s c.1 in
    let f = bind_ok (each_of (value_given values) table.values) _ s d.2 in
    let k : record { table = place; key = d.0; values = f.0; period = record { start = a.0; end = b.0 } } ≡ s = let h = f.2 in cc in
    (sym (ap (λ (x : InsertShape). x.table) k), sym (ap (λ (x : InsertShape). length x.key) k) ∙ each_as_many (value_given values) table.key d.0 d.1)

into_width : (place : ℕ) (table : TableShape) (form : InsertForm) (s : InsertShape) → insert_into place table form ≡ Ok s → (s.table ≡ place) × (length s.key ≡ length table.key)
unfolding insert_into
into_width place table form s e =
    let a = bind_ok (list_in table form.1.0) _ s e in
    let b = bind_ok (values_in a.0 form.1.1) _ s a.2 in
    row_width place table b.0 s b.2

in_its_table : {A : Type 0} (tables : Tables) (name : Bytes) (f : ℕ → TableShape → Result A Refusal) (a : A) → in_table tables name f ≡ Ok a → (place : ℕ) × (table : List ℕ × TableShape) × (slice_get tables place ≡ Some table) × (f place table.1 ≡ Ok a)
unfolding in_table
in_its_table tables name f a e =
    let x = bind_ok (table_named tables name) _ a e in
    let y = bind_ok (or_refuse UnknownTable (slice_get tables x.0)) (λ table. f x.0 table.1) a x.2 in
    (x.0, y.0, some_of UnknownTable (slice_get tables x.0) y.0 y.1, y.2)

insert_width : (tables : Tables) (form : InsertForm) (s : InsertShape) → insert_in tables form ≡ Ok s → IsNarrow (key_columns tables) (shapes.Insert s)
unfolding insert_in
insert_width tables form s e =
    let t = in_its_table tables form.0 (λ place table. insert_into place table form) s e in
    let w = into_width t.0 t.1.1 form s t.3 in
    let k : key_columns tables s.table ≡ length t.1.1.key = ap (key_columns tables) w.0 ∙ ap (λ o. option_map_or (λ (table : List ℕ × TableShape). length table.1.key) o 0) t.2 in
    let l = w.1 in
    omega (arith, k, l)

read_width : (tables : Tables) (form : StatementForm) (s : StatementShape) → statement_in tables form ≡ Ok s → IsNarrow (key_columns tables) s
unfolding statement_in
read_width tables (inl insert) s e = let a = bind_ok (insert_in tables insert) _ s e in let k : shapes.Insert a.0 ≡ s = let h = a.2 in cc in subst (IsNarrow (key_columns tables)) k (insert_width tables insert a.0 a.1)
read_width tables (inr (inl update)) s e = let a = bind_ok (update_in tables update) _ s e in let k : shapes.Update a.0 ≡ s = let h = a.2 in cc in subst (IsNarrow (key_columns tables)) k tt
read_width tables (inr (inr delete)) s e = let a = bind_ok (delete_in tables delete) _ s e in let k : shapes.Delete a.0 ≡ s = let h = a.2 in cc in subst (IsNarrow (key_columns tables)) k tt

all_of : {A : Type 0} (P : A → Type 0) (xs : List A) → ((x : A) → Has xs x → P x) → AllByRecursion P xs
all_of P [] h = tt
all_of P (x ∷ xs) h = (h x (inl refl), all_of P xs (λ y g. h y (inr g)))

statements_width : (tables : Tables) (forms : List StatementForm) (ss : List StatementShape) → statements_in tables forms ≡ Ok ss → AllByRecursion (IsNarrow (key_columns tables)) ss
unfolding statements_in
statements_width tables forms ss e = all_of (IsNarrow (key_columns tables)) ss (each_in (statement_in tables) (IsNarrow (key_columns tables)) (read_width tables) forms ss (unless_long _ _ _ ss e))

text_width : (tables : Tables) (text : List ℕ) (ss : List StatementShape) → transaction_in tables text ≡ Ok ss → AllByRecursion (IsNarrow (key_columns tables)) ss
unfolding transaction_in
text_width tables text ss e =
    let a = bind_ok (parsed statements text) (statements_in tables) ss (unless_long _ _ _ ss e) in
    statements_width tables a.0 ss a.2

pub all_narrow : (tables : Tables) (text : List ℕ) → AllByRecursion (IsNarrow (key_columns tables)) (result_unwrap_or (transaction_in tables text) [])
all_narrow tables text = by (transaction_in tables text) refl
  where
    by : (r : Result (List StatementShape) Refusal) → transaction_in tables text ≡ r → AllByRecursion (IsNarrow (key_columns tables)) (result_unwrap_or r [])
    by (Ok ss) e = text_width tables text ss e
    by (Err refusal) e = tt
