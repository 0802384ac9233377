-- Names, literals and comparisons are checked for the same.
use Rattle.std.proofs.Common.{◌≡◌, ℕ, suc, ◌+◌, Bool, true, false, cond, not, Option, Some, None, List, [], ◌∷◌, map, length, refl, sym, ap, ◌∙◌, Result, Ok, Err}
use Rattle.std.specs.Prelude.{nat_lt, nat_le, find, bytes_eq, slice_get, option_map, option_and_then, ok_or, position}
use Rattle.std.specs.List.{prefix_len, list_all, range_with_len}
use mathlib.Core.Logic.{inl, inr}
use Rattle.fault.specs.declared.refusal.Refusal.{Refusal}
use Rattle.fault.specs.declared.refusal.Refusal.TheVariants.{UnknownTable, UnknownColumn, EmptyPeriod, OutOfRange}
use Rattle.model.specs.declared.value.Value.{Value}
use Rattle.model.specs.declared.value.Value.TheVariants as value
use Rattle.model.specs.Tables.{Period, Row}
use Rattle.schema.specs.Name.{same_name}
use Rattle.schema.specs.Shape.{TableShape}
use Rattle.schema.specs.declared.table.Kind.{Kind}
use Rattle.schema.specs.declared.table.Kind.TheVariants.{Integer, Varchar, Date, SystemStart, SystemEnd}
use Rattle.namesyntax.specs.Names.{Bytes}
use Rattle.sqlsyntax.specs.Shared.{LiteralForm, ComparisonForm}
use Rattle.sqlchecks.specs.declared.comparison.Comparison.{Comparison}
use Rattle.sqlsyntax.specs.declared.forms.Operator.{Operator}
use Rattle.sqlchecks.specs.declared.field.Field.{Field}
use Rattle.sqlchecks.specs.Answering.{each_of}
use Rattle.sqlchecks.specs.Columns.{Tables, field_at}
use Rattle.sqlchecks.specs.Columns as columns
use Rattle.sqlchecks.specs.Literals as literals
use Rattle.sqlchecks.specs.Literals.{undoubled, signed}
use Rattle.sqlchecks.specs.Comparisons.{compared_kind, passes_all}
use Rattle.sqlchecks.specs.Comparisons as comparisons
use Rattle.sqlread.specs.Changes as before
use Rattle.believed.specs.Results.{◌>>=◌, ◌>>◌, refuse_if}
use Rattle.believed.proofs.DaysSame.{day_same as texts_same}
use Rattle.believed.specs.Checks as now
use Rattle.believed.proofs.Binding.{mapped, bind_same, same_or, each_same}

-- ---- names

places_same : {A : Type 0} (p : List ℕ → Bool) (items : List (List ℕ × A)) → prefix_len (λ (x : List ℕ × A). not (p x.0)) items ≡ prefix_len (λ x. not (p x)) (map (λ (x : List ℕ × A). x.0) items)
places_same p [] = refl
places_same p (x ∷ xs) = ap (λ k. cond (not (p x.0)) (1 + k) 0) (places_same p xs)

as_long : {A : Type 0} (items : List (List ℕ × A)) → length items ≡ length (map (λ (x : List ℕ × A). x.0) items)
as_long [] = refl
as_long (x ∷ xs) = ap suc (as_long xs)

position_same : {A : Type 0} (p : List ℕ → Bool) (items : List (List ℕ × A)) → position (λ (x : List ℕ × A). p x.0) items ≡ position p (map (λ (x : List ℕ × A). x.0) items)
position_same p items = λ i. cond (nat_lt (places_same p items i) (as_long items i)) (Some (places_same p items i)) None

pub column_same : (table : TableShape) (name : Bytes) → now.column_named table name ≡ columns.column_named table name
unfolding columns.column_named
column_same table name = ap (λ o. ok_or (option_and_then (columns.column_at table) o) UnknownColumn) (position_same (same_name name) table.columns)

abbrev at_place : ℕ → List ℕ × TableShape → ℕ × TableShape
at_place place x = (place, x.1)

table_cases : {B C : Type 0} (h : C → B) (tables : Tables) (o : Option ℕ) (f : ℕ → TableShape → Result B Refusal) (g : ℕ → TableShape → Result C Refusal) → ((place : ℕ) (table : TableShape) → f place table ≡ mapped h (g place table)) →
    (ok_or (option_and_then (λ place. option_map (at_place place) (slice_get tables place)) o) UnknownTable >>= λ t. f t.0 t.1)
    ≡ mapped h (ok_or o UnknownTable >>= λ place. ok_or (slice_get tables place) UnknownTable >>= λ table. g place table.1)
table_cases h tables None f g same = refl
table_cases h tables (Some place) f g same = by (slice_get tables place)
  where
    by : (o : Option (List ℕ × TableShape)) → (ok_or (option_map (at_place place) o) UnknownTable >>= λ t. f t.0 t.1) ≡ mapped h (ok_or o UnknownTable >>= λ table. g place table.1)
    by None = refl
    by (Some x) = same place x.1

pub in_table_same : {B C : Type 0} (h : C → B) (tables : Tables) (name : Bytes) (f : ℕ → TableShape → Result B Refusal) (g : ℕ → TableShape → Result C Refusal) → ((place : ℕ) (table : TableShape) → f place table ≡ mapped h (g place table)) →
    now.in_table tables name f ≡ mapped h (before.in_table tables name g)
unfolding before.in_table columns.table_named
in_table_same h tables name f g same =
    ap (λ o. ok_or (option_and_then (λ place. option_map (at_place place) (slice_get tables place)) o) UnknownTable >>= λ t. f t.0 t.1) (position_same (same_name name) tables)
    ∙ table_cases h tables (position (same_name name) (map (λ t. t.0) tables)) f g same

-- ---- literals

pub day_same : (text : Bytes) → now.day_named text ≡ literals.day_named text
unfolding literals.day_named literals.named
day_same text = λ i. ok_or (find (λ d. bytes_eq (texts_same d i) text) (range_with_len 0 3_652_059)) OutOfRange

text_cases : (b : Bool) (text : Bytes) → ◌≡◌ {A = Result Value Refusal} (cond b (Ok (value.Text text)) (Err OutOfRange)) (cond b (Ok text) (Err OutOfRange) >>= λ t. Ok (value.Text t))
text_cases true text = refl
text_cases false text = refl

text_same : (most : ℕ) (text : Bytes) → ◌≡◌ {A = Result Value Refusal} (cond (nat_le (length text) most) (Ok (value.Text text)) (Err OutOfRange)) (literals.text_within most text >>= λ t. Ok (value.Text t))
unfolding literals.text_within
text_same most text = text_cases (nat_le (length text) most) text

pub literal_same : (kind : Kind) (form : LiteralForm) → now.literal_in kind form ≡ literals.literal_in kind form
unfolding literals.literal_in
literal_same Date (inl text) = ap (λ r. r >>= λ d. Ok (value.Day d)) (day_same text)
literal_same Date (inr (inl text)) = refl
literal_same Date (inr (inr x)) = refl
literal_same (Varchar most) (inl text) = refl
literal_same (Varchar most) (inr (inl text)) = text_same most (undoubled text)
literal_same (Varchar most) (inr (inr x)) = refl
literal_same Integer (inl text) = refl
literal_same Integer (inr (inl text)) = refl
literal_same Integer (inr (inr x)) = refl
literal_same SystemStart (inl text) = refl
literal_same SystemStart (inr (inl text)) = refl
literal_same SystemStart (inr (inr x)) = refl
literal_same SystemEnd (inl text) = refl
literal_same SystemEnd (inr (inl text)) = refl
literal_same SystemEnd (inr (inr x)) = refl

pub period_cases : {B : Type 0} (b : Bool) (p : Period) (f : Period → Result B Refusal) → (cond b (Ok p) (Err EmptyPeriod) >>= f) ≡ (refuse_if (not b) EmptyPeriod >> f p)
period_cases true p f = refl
period_cases false p f = refl

-- ---- comparisons

abbrev compared : Field → Operator → Value → Result Comparison Refusal
compared field operator v = Ok (record { field = field; operator = operator; value = v })

pub comparison_same : (table : TableShape) (form : ComparisonForm) → now.comparison_in table form ≡ comparisons.comparison_in table form
unfolding comparisons.comparison_in
comparison_same table form =
    bind_same (λ (c : Comparison). c) (now.column_named table form.0) (columns.column_named table form.0)
    (λ column. ok_or (field_at table column.0) UnknownColumn >>= λ field. now.literal_in (compared_kind column.1) form.1.1 >>= λ v. compared field form.1.0 v)
    (λ column. ok_or (field_at table column.0) UnknownColumn >>= λ field. literals.literal_in (compared_kind column.1) form.1.1 >>= λ v. compared field form.1.0 v)
    (column_same table form.0)
    (λ column. ap (λ (r : Result Value Refusal). ok_or (field_at table column.0) UnknownColumn >>= λ field. r >>= λ v. compared field form.1.0 v) (literal_same (compared_kind column.1) form.1.1)
    ∙ sym (same_or (ok_or (field_at table column.0) UnknownColumn >>= λ field. literals.literal_in (compared_kind column.1) form.1.1 >>= λ v. compared field form.1.0 v)))
    ∙ same_or (comparisons.comparison_in table form)

passed : (r : Result (List Comparison) Refusal) → (r >>= λ cs. Ok (λ (row : Row). list_all (λ c. comparisons.compares c row.key row.values) cs)) ≡ mapped passes_all r
unfolding passes_all
passed (Ok cs) = refl
passed (Err e) = refl

pub condition_same : (table : TableShape) (forms : Option (List ComparisonForm)) → now.condition_in table forms ≡ mapped passes_all (before.all_given (comparisons.comparisons_in table) forms)
unfolding comparisons.comparisons_in
condition_same table None = passed (Ok [])
condition_same table (Some forms) =
    ap (λ (r : Result (List Comparison) Refusal). r >>= λ cs. Ok (λ (row : Row). list_all (λ c. comparisons.compares c row.key row.values) cs)) (each_same (now.comparison_in table) (comparisons.comparison_in table) (comparison_same table) forms)
    ∙ passed (each_of (comparisons.comparison_in table) forms)
