-- No check answers a syntax error.
use Rattle.std.proofs.Common.{◌≡◌, ℕ, Bool, true, false, cond, nat_lt, List, [], ◌∷◌, ◌++◌, length, Option, Some, None, Result, Ok, Err, ap, inl, inr}
use Rattle.std.specs.Prelude.{◌⊎◌, slice_get, zip}
use Rattle.fault.specs.declared.refusal.Refusal.{Refusal}
use Rattle.fault.specs.declared.refusal.Refusal.TheVariants.{Syntax, TooLarge, UnknownTable, UnknownColumn, WrongType, NotAssignable, EmptyPeriod, OutOfRange}
use Rattle.model.specs.declared.value.Value.{Value as RowValue}
use Rattle.model.specs.declared.value.Value.TheVariants as value
use Rattle.schema.specs.Shape.{TableShape}
use Rattle.schema.specs.declared.table.Kind.{Kind}
use Rattle.schema.specs.declared.table.Kind.TheVariants.{Integer, Varchar, Date, SystemStart, SystemEnd}
use Rattle.namesyntax.specs.Names.{Bytes}
use Rattle.sqlsyntax.specs.Shared.{LiteralForm, ComparisonForm}
use Rattle.sqlsyntax.specs.Transactions.{PortionForm, ValueForm, AssignmentForm, InsertForm, UpdateForm, DeleteForm, StatementForm}
use Rattle.sqlsyntax.specs.Queries.{PredicateForm, TermForm, TimeForm, QueryForm}
use Rattle.sqlchecks.specs.Answering.{◌>>=◌, ◌>>◌, refuse_if, or_refuse, each_of}
use Rattle.sqlchecks.specs.Literals.{signed, day_named, instant_named, period_named, undoubled, text_within, literal_in}
use Rattle.sqlchecks.specs.Columns.{Tables, table_named, column_named, field_at}
use Rattle.sqlchecks.specs.Comparisons.{compared_kind, comparison_in, comparisons_in}
use Rattle.sqlread.specs.declared.statement.Assignment.{Assignment}
use Rattle.sqlread.specs.Changes.{in_table, listed, listed_after, Given, given, value_given, day_of, day_given, row_given, list_in, values_in, insert_into, insert_in, portion_in, if_given, all_given, assignable, amount, changed_in, new_value_in, assignment_in, assignments_after, update_in, delete_in, statement_in, statements_in}
use Rattle.sqlread.specs.Questions.{time_in, of_period, predicate_in, term_in, question_in}

abbrev pub refused : {A : Type 0} → Refusal → Result A Refusal
refused r = Err r

pub record IsCheck {A : Type 0} (r : Result A Refusal) : Type 0 where
  pub not_syntax : (at : ℕ) → r ≡ Err (Syntax at) → ⊥

-- ---- one check after another

passes : {A : Type 0} (a : A) → IsCheck (Ok a)
passes a = record { not_syntax = λ at e. absurd cc }

then_check : {A B : Type 0} (r : Result A Refusal) (f : A → Result B Refusal) → IsCheck r → ((a : A) → IsCheck (f a)) → IsCheck (r >>= f)
then_check (Ok a) f h k = k a
then_check (Err e) f h k = record { not_syntax = λ at same. h.not_syntax at (let k : e ≡ Syntax at = cc in ap (λ (r : Refusal). Err r) k) }

also_check : {B : Type 0} (r : Result (Unit {0}) Refusal) (s : Result B Refusal) → IsCheck r → IsCheck s → IsCheck (r >> s)
also_check (Ok a) s h k = k
also_check (Err e) s h k = record { not_syntax = λ at same. h.not_syntax at (let k : e ≡ Syntax at = cc in ap (λ (r : Refusal). Err r) k) }

either_check : {A : Type 0} (b : Bool) (x y : Result A Refusal) → IsCheck x → IsCheck y → IsCheck (cond b x y)
either_check true x y h k = h
either_check false x y h k = k

or_check : {A : Type 0} (r : Refusal) (o : Option A) → IsCheck (refused {A = A} r) → IsCheck (or_refuse r o)
or_check r None h = h
or_check r (Some a) h = passes a

each_check : {A B : Type 0} (f : A → Result B Refusal) → ((a : A) → IsCheck (f a)) → (all : List A) → IsCheck (each_of f all)
each_check f h [] = passes []
each_check f h (a ∷ rest) = then_check (f a) _ (h a) (λ b. then_check (each_of f rest) _ (each_check f h rest) (λ bs. passes (b ∷ bs)))

too_large : {A : Type 0} → IsCheck (refused {A = A} TooLarge)
too_large {A} = record { not_syntax = λ at e. absurd cc }

unknown_table : {A : Type 0} → IsCheck (refused {A = A} UnknownTable)
unknown_table {A} = record { not_syntax = λ at e. absurd cc }

unknown : {A : Type 0} → IsCheck (refused {A = A} UnknownColumn)
unknown {A} = record { not_syntax = λ at e. absurd cc }

unassignable : {A : Type 0} → IsCheck (refused {A = A} NotAssignable)
unassignable {A} = record { not_syntax = λ at e. absurd cc }

wrong_type : {A : Type 0} → IsCheck (refused {A = A} WrongType)
wrong_type {A} = record { not_syntax = λ at e. absurd cc }

out_of_range : {A : Type 0} → IsCheck (refused {A = A} OutOfRange)
out_of_range {A} = record { not_syntax = λ at e. absurd cc }

empty : {A : Type 0} → IsCheck (refused {A = A} EmptyPeriod)
empty {A} = record { not_syntax = λ at e. absurd cc }

refuse_check : (b : Bool) (r : Refusal) → IsCheck (refused {A = Unit {0}} r) → IsCheck (refuse_if b r)
refuse_check b r h = either_check b (Err r) (Ok tt) h (passes tt)

-- ---- names and literals

table_check : (tables : Tables) (name : Bytes) → IsCheck (table_named tables name)
unfolding table_named
table_check tables name = or_check UnknownTable _ unknown_table

column_check : (table : TableShape) (name : Bytes) → IsCheck (column_named table name)
unfolding column_named
column_check table name = or_check UnknownColumn _ unknown

signed_check : (minus : Option (Unit {0})) (n : ℕ) → IsCheck (signed minus n)
unfolding signed
signed_check None n = either_check _ _ _ (passes _) out_of_range
signed_check (Some u) n = either_check _ _ _ (passes _) out_of_range

day_check : (text : Bytes) → IsCheck (day_named text)
unfolding day_named
day_check text = or_check OutOfRange _ out_of_range

instant_check : (text : Bytes) → IsCheck (instant_named text)
unfolding instant_named
instant_check text = or_check OutOfRange _ out_of_range

period_check : (from to : Bytes) → IsCheck (period_named from to)
unfolding period_named
period_check from to =
    then_check (day_named from) _ (day_check from) (λ start.
    then_check (day_named to) _ (day_check to) (λ end.
    also_check _ _ (refuse_check _ EmptyPeriod empty) (passes _)))

text_check : (most : ℕ) (text : Bytes) → IsCheck (text_within most text)
unfolding text_within
text_check most text = either_check _ _ _ (passes _) out_of_range

literal_check : (kind : Kind) (literal : LiteralForm) → IsCheck (literal_in kind literal)
unfolding literal_in
literal_check Integer (inl d) = wrong_type
literal_check Integer (inr (inl t)) = wrong_type
literal_check Integer (inr (inr (minus, digits))) = then_check (signed minus _) _ (signed_check minus _) (λ n. passes _)
literal_check (Varchar most) (inl d) = wrong_type
literal_check (Varchar most) (inr (inl t)) = then_check (text_within most (undoubled t)) _ (text_check most (undoubled t)) (λ s. passes _)
literal_check (Varchar most) (inr (inr n)) = wrong_type
literal_check Date (inl d) = then_check (day_named d) _ (day_check d) (λ n. passes _)
literal_check Date (inr (inl t)) = wrong_type
literal_check Date (inr (inr n)) = wrong_type
literal_check SystemStart (inl d) = wrong_type
literal_check SystemStart (inr (inl t)) = wrong_type
literal_check SystemStart (inr (inr n)) = wrong_type
literal_check SystemEnd (inl d) = wrong_type
literal_check SystemEnd (inr (inl t)) = wrong_type
literal_check SystemEnd (inr (inr n)) = wrong_type

comparison_check : (table : TableShape) (form : ComparisonForm) → IsCheck (comparison_in table form)
unfolding comparison_in
comparison_check table form =
    then_check (column_named table form.0) _ (column_check table form.0) (λ column.
    then_check (or_refuse UnknownColumn (field_at table column.0)) _ (or_check UnknownColumn _ unknown) (λ field.
    then_check (literal_in (compared_kind column.1) form.1.1) _ (literal_check (compared_kind column.1) form.1.1) (λ v. passes _)))

comparisons_check : (table : TableShape) (forms : List ComparisonForm) → IsCheck (comparisons_in table forms)
unfolding comparisons_in
comparisons_check table forms = each_check (comparison_in table) (comparison_check table) forms

in_table_check : {A : Type 0} (tables : Tables) (name : Bytes) (f : ℕ → TableShape → Result A Refusal) → ((place : ℕ) (table : TableShape) → IsCheck (f place table)) → IsCheck (in_table tables name f)
unfolding in_table
in_table_check tables name f h =
    then_check (table_named tables name) _ (table_check tables name) (λ place.
    then_check (or_refuse UnknownTable (slice_get tables place)) _ (or_check UnknownTable _ unknown_table) (λ table. h place table.1))

given_check : {A B : Type 0} (f : A → Result B Refusal) → ((a : A) → IsCheck (f a)) → (o : Option A) → IsCheck (if_given f o)
given_check f h None = passes None
given_check f h (Some a) = then_check (f a) _ (h a) (λ b. passes _)

all_check : {A B : Type 0} (f : List A → Result (List B) Refusal) → ((list : List A) → IsCheck (f list)) → (o : Option (List A)) → IsCheck (all_given f o)
all_check f h None = passes []
all_check f h (Some list) = h list

-- ---- statements

listed_check : (table : TableShape) (before : List (ℕ × Kind)) (name : Bytes) → IsCheck (listed table before name)
unfolding listed
listed_check table before name = then_check (column_named table name) _ (column_check table name) (λ c. also_check _ _ (refuse_check _ NotAssignable unassignable) (passes _))

names_check : (table : TableShape) (before : List (ℕ × Kind)) (names : List Bytes) → IsCheck (listed_after table before names)
names_check table before [] = passes before
names_check table before (name ∷ names) = then_check (listed table before name) _ (listed_check table before name) (λ c. names_check table (before ++ c ∷ []) names)

value_check : (x : (ℕ × Kind) × LiteralForm) → IsCheck (given x)
unfolding given
value_check x = then_check (literal_in x.0.1 x.1) _ (literal_check x.0.1 x.1) (λ v. passes _)

value_given_check : (values : List Given) (column : ℕ) → IsCheck (value_given values column)
unfolding value_given
value_given_check values column = or_check UnknownColumn _ unknown

day_of_check : (v : RowValue) → IsCheck (day_of v)
day_of_check (value.Day d) = passes d
day_of_check (value.Number n) = wrong_type
day_of_check (value.Text t) = wrong_type

day_given_check : (values : List Given) (column : ℕ) → IsCheck (day_given values column)
unfolding day_given
day_given_check values column = then_check (value_given values column) _ (value_given_check values column) day_of_check

row_check : (place : ℕ) (table : TableShape) (values : List Given) → IsCheck (row_given place table values)
unfolding row_given
row_check place table values =
    then_check (day_given values table.start) _ (day_given_check values table.start) (λ start.
    then_check (day_given values table.end) _ (day_given_check values table.end) (λ end.
    also_check _ _ (refuse_check _ EmptyPeriod empty) (
    then_check (each_of (value_given values) table.key) _ (each_check (value_given values) (value_given_check values) table.key) (λ key.
    then_check (each_of (value_given values) table.values) _ (each_check (value_given values) (value_given_check values) table.values) (λ others. passes _)))))

list_check : (table : TableShape) (names : List Bytes) → IsCheck (list_in table names)
unfolding list_in
list_check table names = then_check (listed_after table [] names) _ (names_check table [] names) (λ columns. also_check _ _ (refuse_check _ UnknownColumn unknown) (passes columns))

values_check : (columns : List (ℕ × Kind)) (literals : List LiteralForm) → IsCheck (values_in columns literals)
unfolding values_in
values_check columns literals = also_check _ _ (refuse_check _ WrongType wrong_type) (each_check given value_check (zip columns literals))

into_check : (place : ℕ) (table : TableShape) (form : InsertForm) → IsCheck (insert_into place table form)
unfolding insert_into
into_check place table form =
    then_check (list_in table form.1.0) _ (list_check table form.1.0) (λ columns.
    then_check (values_in columns form.1.1) _ (values_check columns form.1.1) (λ values. row_check place table values))

insert_check : (tables : Tables) (form : InsertForm) → IsCheck (insert_in tables form)
unfolding insert_in
insert_check tables form = in_table_check tables form.0 _ (λ place table. into_check place table form)

portion_check : (table : TableShape) (form : PortionForm) → IsCheck (portion_in table form)
unfolding portion_in
portion_check table form = also_check _ _ (refuse_check _ UnknownColumn unknown) (period_check form.1.0 form.1.1)

assignable_check : (table : TableShape) (column : ℕ) → IsCheck (assignable table column)
unfolding assignable
assignable_check table column = or_check NotAssignable _ unassignable

amount_check : (digits : Bytes) → IsCheck (amount digits)
unfolding amount
amount_check digits = either_check _ _ _ (passes _) out_of_range

changed_check : (table : TableShape) (column : ℕ × Kind) (name : Bytes) (sign : Unit {0} ⊎ Unit {0}) (digits : Bytes) → IsCheck (changed_in table column name sign digits)
unfolding changed_in
changed_check table column name sign digits =
    then_check (column_named table name) _ (column_check table name) (λ other.
    also_check _ _ (refuse_check _ NotAssignable unassignable) (
    also_check _ _ (refuse_check _ WrongType wrong_type) (
    then_check (amount digits) _ (amount_check digits) (λ n. passes _))))

new_value_check : (table : TableShape) (column : ℕ × Kind) (form : ValueForm) → IsCheck (new_value_in table column form)
unfolding new_value_in
new_value_check table column (inr literal) = then_check (literal_in column.1 literal) _ (literal_check column.1 literal) (λ v. passes _)
new_value_check table column (inl (name, (sign, digits))) = changed_check table column name sign digits

assignment_check : (table : TableShape) (before : List Assignment) (form : AssignmentForm) → IsCheck (assignment_in table before form)
unfolding assignment_in
assignment_check table before form =
    then_check (column_named table form.0) _ (column_check table form.0) (λ column.
    then_check (assignable table column.0) _ (assignable_check table column.0) (λ place.
    also_check _ _ (refuse_check _ NotAssignable unassignable) (
    then_check (new_value_in table column form.1) _ (new_value_check table column form.1) (λ v. passes _))))

assignments_check : (table : TableShape) (before : List Assignment) (forms : List AssignmentForm) → IsCheck (assignments_after table before forms)
assignments_check table before [] = passes before
assignments_check table before (form ∷ forms) = then_check (assignment_in table before form) _ (assignment_check table before form) (λ a. assignments_check table (before ++ a ∷ []) forms)

update_check : (tables : Tables) (form : UpdateForm) → IsCheck (update_in tables form)
unfolding update_in
update_check tables form = in_table_check tables form.0 _ (λ place table.
    then_check (if_given (portion_in table) form.1.0) _ (given_check (portion_in table) (portion_check table) form.1.0) (λ portion.
    then_check (assignments_after table [] form.1.1.0) _ (assignments_check table [] form.1.1.0) (λ assignments.
    then_check (all_given (comparisons_in table) form.1.1.1) _ (all_check (comparisons_in table) (comparisons_check table) form.1.1.1) (λ conditions. passes _))))

delete_check : (tables : Tables) (form : DeleteForm) → IsCheck (delete_in tables form)
unfolding delete_in
delete_check tables form = in_table_check tables form.0 _ (λ place table.
    then_check (if_given (portion_in table) form.1.0) _ (given_check (portion_in table) (portion_check table) form.1.0) (λ portion.
    then_check (all_given (comparisons_in table) form.1.1) _ (all_check (comparisons_in table) (comparisons_check table) form.1.1) (λ conditions. passes _)))

statement_check : (tables : Tables) (form : StatementForm) → IsCheck (statement_in tables form)
unfolding statement_in
statement_check tables (inl insert) = then_check (insert_in tables insert) _ (insert_check tables insert) (λ s. passes _)
statement_check tables (inr (inl update)) = then_check (update_in tables update) _ (update_check tables update) (λ s. passes _)
statement_check tables (inr (inr delete)) = then_check (delete_in tables delete) _ (delete_check tables delete) (λ s. passes _)

pub statements_check : (tables : Tables) (forms : List StatementForm) → IsCheck (statements_in tables forms)
unfolding statements_in
statements_check tables forms = either_check (nat_lt 16 (length forms)) (Err TooLarge) (each_of (statement_in tables) forms) too_large (each_check (statement_in tables) (statement_check tables) forms)

-- ---- queries

time_check : (form : TimeForm) → IsCheck (time_in form)
unfolding time_in
time_check (inl at) = then_check (instant_named at) _ (instant_check at) (λ t. passes _)
time_check (inr (inl (from, to))) =
    then_check (instant_named from) _ (instant_check from) (λ start.
    then_check (instant_named to) _ (instant_check to) (λ end.
    also_check _ _ (refuse_check _ EmptyPeriod empty) (passes _)))
time_check (inr (inr (from, to))) =
    then_check (instant_named from) _ (instant_check from) (λ start.
    then_check (instant_named to) _ (instant_check to) (λ end.
    also_check _ _ (refuse_check _ EmptyPeriod empty) (passes _)))

of_period_check : (table : TableShape) (name : Bytes) → IsCheck (of_period table name)
of_period_check table name = refuse_check _ UnknownColumn unknown

predicate_check : (table : TableShape) (name : Bytes) (form : PredicateForm) → IsCheck (predicate_in table name form)
unfolding predicate_in
predicate_check table name (inl (inl (from, to))) = also_check _ _ (of_period_check table name) (then_check (period_named from to) _ (period_check from to) (λ p. passes _))
predicate_check table name (inl (inr day)) = also_check _ _ (of_period_check table name) (then_check (day_named day) _ (day_check day) (λ d. passes _))
predicate_check table name (inr (inl comparison)) = then_check (comparison_in table (name, comparison)) _ (comparison_check table (name, comparison)) (λ c. passes _)
predicate_check table name (inr (inr (relation, (from, to)))) = also_check _ _ (of_period_check table name) (then_check (period_named from to) _ (period_check from to) (λ p. passes _))

term_check : (table : TableShape) (form : TermForm) → IsCheck (term_in table form)
unfolding term_in
term_check table form = predicate_check table form.0 form.1

pub question_check : (tables : Tables) (form : QueryForm) → IsCheck (question_in tables form)
unfolding question_in
question_check tables form = in_table_check tables form.0 _ (λ place table.
    then_check (if_given time_in form.1.0) _ (given_check time_in time_check form.1.0) (λ time.
    then_check (all_given (each_of (term_in table)) form.1.1) _ (all_check (each_of (term_in table)) (each_check (term_in table) (term_check table)) form.1.1) (λ terms. passes _)))
