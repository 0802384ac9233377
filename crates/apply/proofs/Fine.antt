-- What is read is well formed: a period that is inserted and a portion have a day, and none past the last.
use Rattle.std.specs.Result.{result_unwrap_or}
use Rattle.std.proofs.Common.{◌≡◌, ℕ, ◌<◌, ◌≤◌, Bool, true, false, not, cond, List, [], ◌∷◌, map, Option, Some, None, option_map, Result, Ok, Err, refl, sym, subst, arith, inl, inr}
use Rattle.std.specs.Prelude.{find, nat_lt, unwrap_or, ◌==◌, zip}
use Rattle.std.proofs.lemmas.Bool.{ltb-true, leb-true}
use Rattle.fault.specs.declared.refusal.Refusal.{Refusal}
use Rattle.fault.specs.declared.refusal.Refusal.TheVariants.{UnknownColumn, EmptyPeriod}
use Rattle.period.specs.declared.period.Period.{Period as Declared}
use Rattle.model.specs.declared.value.Value.{Value as RowValue}
use Rattle.model.specs.declared.value.Value.TheVariants as value
use Rattle.model.specs.Tables.{days, Period}
use Rattle.rowlaws.specs.Changes.{IsFine}
use Rattle.rowlaws.specs.Statements.{AreFine}
use Rattle.rowlaws.specs.Logs.{ReadsFine}
use Rattle.schema.specs.Shape.{TableShape}
use Rattle.schema.specs.declared.table.Kind.{Kind}
use Rattle.namesyntax.specs.Names.{Bytes}
use Rattle.sqlsyntax.specs.Shared.{LiteralForm}
use Rattle.namesyntax.specs.Parsing.{parsed}
use Rattle.sqlsyntax.specs.Transactions.{PortionForm, InsertForm, UpdateForm, DeleteForm, StatementForm, statements}
use Rattle.sqlchecks.specs.Answering.{◌>>=◌, ◌>>◌, refuse_if, or_refuse, each_of}
use Rattle.sqlchecks.specs.Columns.{Tables, table_named}
use Rattle.sqlchecks.specs.Comparisons.{comparisons_in}
use Rattle.sqlchecks.specs.Literals.{day_named, period_named, literal_in}
use Rattle.sqlread.specs.Calendar.{is_in_calendar, LiteralsInCalendar}
use Rattle.sqlread.specs.declared.statement.Statement.{Statement as Read}
use Rattle.sqlread.specs.declared.statement.Statement.TheVariants as read
use Rattle.sqlread.specs.Shapes.{StatementShape, InsertShape, UpdateShape, DeleteShape, statement_of}
use Rattle.model.specs.Periods.{period_of}
use Rattle.sqlread.specs.Shapes as shapes
use Rattle.sqlread.specs.Meaning.{meaning, meanings, all_days, language_of}
use Rattle.sqlread.specs.Changes.{Given, in_table, assignments_after, list_in, given, values_in, value_given, day_of, day_given, row_given, insert_into, insert_in, portion_in, if_given, all_given, update_in, delete_in, statement_in, statements_in}
use Rattle.sqlread.specs.Texts.{transaction_in}
use Rattle.rowlaws.specs.Rows.{Has}

-- ---- a statement of the code

portion_fine : (p : Option Declared) → (unwrap_or (option_map period_of p) all_days).start < (unwrap_or (option_map period_of p) all_days).end
unfolding days
portion_fine None = omega arith
portion_fine (Some p) = p.ordered

pub statement_fine : (s : Read) → IsFine (meaning (statement_of s)).action
unfolding days
statement_fine (read.Insert i) = (i.period.ordered, i.period.end.in_range)
statement_fine (read.Update u) = portion_fine u.portion
statement_fine (read.Delete d) = portion_fine d.portion

-- ---- steps that did not refuse

pub bind_ok : {A B : Type 0} (r : Result A Refusal) (f : A → Result B Refusal) (b : B) → (r >>= f) ≡ Ok b → (a : A) × (r ≡ Ok a) × (f a ≡ Ok b)
bind_ok (Ok a) f b e = (a, refl, e)
bind_ok (Err q) f b e = absurd cc

made : {A B : Type 0} (r : Result A Refusal) (f : A → B) (b : B) → (r >>= λ a. Ok (f a)) ≡ Ok b → (a : A) × (f a ≡ b)
made (Ok a) f b e = (a, cc)
made (Err q) f b e = absurd cc

pub then_ok : {B : Type 0} (r : Result (Unit {0}) Refusal) (s : Result B Refusal) (b : B) → (r >> s) ≡ Ok b → (r ≡ Ok tt) × (s ≡ Ok b)
then_ok (Ok u) s b e = (refl, e)
then_ok (Err q) s b e = absurd cc

passed : (test : Bool) (r : Refusal) → refuse_if (not test) r ≡ Ok tt → test ≡ true
passed true r e = refl
passed false r e = absurd cc

pub some_of : {A : Type 0} (r : Refusal) (o : Option A) (a : A) → or_refuse r o ≡ Ok a → o ≡ Some a
some_of r None a e = absurd cc
some_of r (Some b) a e = let k : b ≡ a = cc in cc

-- ---- periods

period_has : (from to : Bytes) (p : Period) → period_named from to ≡ Ok p → p.start < p.end
unfolding period_named
period_has from to p e =
    let a = bind_ok (day_named from) _ p e in
    let b = bind_ok (day_named to) _ p a.2 in
    let c = then_ok (refuse_if (not (nat_lt a.0 b.0)) EmptyPeriod) (Ok (record { start = a.0; end = b.0 })) p b.2 in
    let l : a.0 < b.0 = ltb-true a.0 b.0 (passed (nat_lt a.0 b.0) EmptyPeriod c.0) in
    let k : record { start = a.0; end = b.0 } ≡ p = let h = c.1 in cc in
    subst (λ (q : Period). q.start < q.end) k l

portion_has : (table : TableShape) (form : PortionForm) (p : Period) → portion_in table form ≡ Ok p → p.start < p.end
unfolding portion_in
portion_has table form p e = period_has form.1.0 form.1.1 p (then_ok _ (period_named form.1.0 form.1.1) p e).1

optional_has : (table : TableShape) (o : Option PortionForm) (p : Option Period) → if_given (portion_in table) o ≡ Ok p → (unwrap_or p all_days).start < (unwrap_or p all_days).end
unfolding days
optional_has table None p e = let k : p ≡ None = cc in subst (λ (q : Option Period). (unwrap_or q all_days).start < (unwrap_or q all_days).end) (sym k) (omega arith)
optional_has table (Some form) p e =
    let a = bind_ok (portion_in table form) (λ b. Ok (Some b)) p e in
    let k : Some a.0 ≡ p = let h = a.2 in cc in
    subst (λ (q : Option Period). (unwrap_or q all_days).start < (unwrap_or q all_days).end) k (portion_has table form a.0 a.1)

-- ---- INSERT

-- each value that is a day is one of the calendar
abbrev AllInCalendar : List Given → Type 0
AllInCalendar values = (g : Given) → Has values g → is_in_calendar g.1 ≡ true

found_has : (p : Given → Bool) (values : List Given) (g : Given) → find p values ≡ Some g → Has values g
found_has p [] g e = absurd cc
found_has p (x ∷ xs) g e = by (p x) (found_has p xs g) e
  where
    by : (b : Bool) → (find p xs ≡ Some g → Has xs g) → cond b (Some x) (find p xs) ≡ Some g → Has (x ∷ xs) g
    by true h e = let k : g ≡ x = cc in inl k
    by false h e = inr (h e)

value_in : (values : List Given) (column : ℕ) (v : RowValue) → AllInCalendar values → value_given values column ≡ Ok v → is_in_calendar v ≡ true
unfolding value_given
value_in values column v all e = by (find (λ (g : Given). g.0 == column) values) refl (some_of UnknownColumn _ v e)
  where
    by : (o : Option Given) → find (λ (g : Given). g.0 == column) values ≡ o → option_map (λ (g : Given). g.1) o ≡ Some v → is_in_calendar v ≡ true
    by None f h = absurd cc
    by (Some g) f h = let k : g.1 ≡ v = cc in subst (λ (w : RowValue). is_in_calendar w ≡ true) k (all g (found_has _ values g f))

day_in : (values : List Given) (column d : ℕ) → AllInCalendar values → day_given values column ≡ Ok d → d ≤ 3_652_058
unfolding day_given
day_in values column d all e =
    let a = bind_ok (value_given values column) day_of d e in
    by a.0 (value_in values column a.0 all a.1) a.2
  where
    by : (v : RowValue) → is_in_calendar v ≡ true → day_of v ≡ Ok d → d ≤ 3_652_058
    by (value.Day x) h f = let k : x ≡ d = cc in let l = leb-true x 3_652_058 h in omega arith
    by (value.Number n) h f = absurd cc
    by (value.Text s) h f = absurd cc

given_in : LiteralsInCalendar → (x : (ℕ × Kind) × LiteralForm) (g : Given) → given x ≡ Ok g → is_in_calendar g.1 ≡ true
unfolding given
given_in calendar x g e =
    let a = bind_ok (literal_in x.0.1 x.1) (λ v. Ok (x.0.0, v)) g e in
    let k : (x.0.0, a.0) ≡ g = let h = a.2 in cc in
    subst (λ (y : Given). is_in_calendar y.1 ≡ true) k (calendar x.0.1 x.1 a.0 a.1)

pub each_in : {A B : Type 0} (f : A → Result B Refusal) (P : B → Type 0) → ((a : A) (b : B) → f a ≡ Ok b → P b) → (as' : List A) (bs : List B) → each_of f as' ≡ Ok bs → (b : B) → Has bs b → P b
each_in {A} {B} f P h [] bs e b has = let k : bs ≡ [] = cc in absurd (subst (λ (z : List B). Has z b) k has)
each_in {A} {B} f P h (a ∷ as') bs e b has =
    let x = bind_ok (f a) _ bs e in
    let y = bind_ok (each_of f as') _ bs x.2 in
    let k : bs ≡ x.0 ∷ y.0 = let g = y.2 in cc in
    elim (subst (λ (z : List B). Has z b) k has) [
      | inl i ↦ subst P (sym i) (h a x.0 x.1)
      | inr g ↦ each_in f P h as' y.0 y.1 b g
    ]

values_fine : LiteralsInCalendar → (columns : List (ℕ × Kind)) (literals : List LiteralForm) (values : List Given) → values_in columns literals ≡ Ok values → AllInCalendar values
unfolding values_in
values_fine calendar columns literals values e g has =
    each_in given (λ (y : Given). is_in_calendar y.1 ≡ true) (given_in calendar) (zip columns literals) values (then_ok _ (each_of given (zip columns literals)) values e).1 g has

row_fine : (place : ℕ) (table : TableShape) (values : List Given) (s : InsertShape) → AllInCalendar values → row_given place table values ≡ Ok s → (s.period.start < s.period.end) × (s.period.end ≤ days)
unfolding row_given days
row_fine place table values s all e =
    let a = bind_ok (day_given values table.start) _ s e in
    let b = bind_ok (day_given values table.end) _ s a.2 in
    let c = then_ok (refuse_if (not (nat_lt a.0 b.0)) EmptyPeriod) _ s b.2 in
    let d = bind_ok (each_of (value_given values) table.key) _ s c.1 in
    let f = bind_ok (each_of (value_given values) table.values) _ s d.2 in
    let k : record { table = place; key = d.0; values = f.0; period = record { start = a.0; end = b.0 } } ≡ s = let h = f.2 in cc in
    subst (λ (x : InsertShape). (x.period.start < x.period.end) × (x.period.end ≤ 3652058)) k (ltb-true a.0 b.0 (passed (nat_lt a.0 b.0) EmptyPeriod c.0), day_in values table.end b.0 all b.1)

into_fine : LiteralsInCalendar → (place : ℕ) (table : TableShape) (form : InsertForm) (s : InsertShape) → insert_into place table form ≡ Ok s → (s.period.start < s.period.end) × (s.period.end ≤ days)
unfolding insert_into
into_fine calendar place table form s e =
    let a = bind_ok (list_in table form.1.0) _ s e in
    let b = bind_ok (values_in a.0 form.1.1) _ s a.2 in
    row_fine place table b.0 s (values_fine calendar a.0 form.1.1 b.0 b.1) b.2

-- ---- statements

in_some_table : {A : Type 0} (tables : Tables) (name : Bytes) (f : ℕ → TableShape → Result A Refusal) (a : A) → in_table tables name f ≡ Ok a → (place : ℕ) × (table : TableShape) × (f place table ≡ Ok a)
unfolding in_table
in_some_table tables name f a e =
    let x = bind_ok (table_named tables name) _ a e in
    let y = bind_ok _ (λ table. f x.0 table.1) a x.2 in
    (x.0, y.0.1, y.2)

insert_fine : LiteralsInCalendar → (tables : Tables) (form : InsertForm) (s : InsertShape) → insert_in tables form ≡ Ok s → IsFine (meaning (shapes.Insert s)).action
unfolding insert_in
insert_fine calendar tables form s e = let t = in_some_table tables form.0 _ s e in into_fine calendar t.0 t.1 form s t.2

update_fine : (tables : Tables) (form : UpdateForm) (s : UpdateShape) → update_in tables form ≡ Ok s → IsFine (meaning (shapes.Update s)).action
unfolding update_in
update_fine tables form s e =
    let t = in_some_table tables form.0 _ s e in
    let place : ℕ = t.0 in
    let table : TableShape = t.1 in
    let a = bind_ok (if_given (portion_in table) form.1.0) _ s t.2 in
    let portion : Option Period = a.0 in
    let b = bind_ok (assignments_after table [] form.1.1.0) _ s a.2 in
    let c = made (all_given (comparisons_in table) form.1.1.1) (λ conditions. record { table = place; portion = portion; assignments = b.0; conditions = conditions }) s b.2 in
    subst (λ (x : UpdateShape). (unwrap_or x.portion all_days).start < (unwrap_or x.portion all_days).end) c.1 (optional_has table form.1.0 portion a.1)

delete_fine : (tables : Tables) (form : DeleteForm) (s : DeleteShape) → delete_in tables form ≡ Ok s → IsFine (meaning (shapes.Delete s)).action
unfolding delete_in
delete_fine tables form s e =
    let t = in_some_table tables form.0 _ s e in
    let place : ℕ = t.0 in
    let table : TableShape = t.1 in
    let a = bind_ok (if_given (portion_in table) form.1.0) _ s t.2 in
    let portion : Option Period = a.0 in
    let c = made (all_given (comparisons_in table) form.1.1) (λ conditions. record { table = place; portion = portion; conditions = conditions }) s a.2 in
    subst (λ (x : DeleteShape). (unwrap_or x.portion all_days).start < (unwrap_or x.portion all_days).end) c.1 (optional_has table form.1.0 portion a.1)

read_fine : LiteralsInCalendar → (tables : Tables) (form : StatementForm) (s : StatementShape) → statement_in tables form ≡ Ok s → IsFine (meaning s).action
unfolding statement_in
read_fine calendar tables (inl insert) s e = let a = bind_ok (insert_in tables insert) _ s e in let k : shapes.Insert a.0 ≡ s = let h = a.2 in cc in subst (λ (x : StatementShape). IsFine (meaning x).action) k (insert_fine calendar tables insert a.0 a.1)
read_fine calendar tables (inr (inl update)) s e = let a = bind_ok (update_in tables update) _ s e in let k : shapes.Update a.0 ≡ s = let h = a.2 in cc in subst (λ (x : StatementShape). IsFine (meaning x).action) k (update_fine tables update a.0 a.1)
read_fine calendar tables (inr (inr delete)) s e = let a = bind_ok (delete_in tables delete) _ s e in let k : shapes.Delete a.0 ≡ s = let h = a.2 in cc in subst (λ (x : StatementShape). IsFine (meaning x).action) k (delete_fine tables delete a.0 a.1)

all_fine : (ss : List StatementShape) → ((s : StatementShape) → Has ss s → IsFine (meaning s).action) → AreFine (map meaning ss)
all_fine [] h = tt
all_fine (s ∷ ss) h = (h s (inl refl), all_fine ss (λ x g. h x (inr g)))

pub unless_long : {A : Type 0} (b : Bool) (r : Refusal) (x : Result A Refusal) (a : A) → cond b (Err r) x ≡ Ok a → x ≡ Ok a
unless_long true r x a e = absurd cc
unless_long false r x a e = e

statements_fine : LiteralsInCalendar → (tables : Tables) (forms : List StatementForm) (ss : List StatementShape) → statements_in tables forms ≡ Ok ss → AreFine (map meaning ss)
unfolding statements_in
statements_fine calendar tables forms ss e = all_fine ss (each_in (statement_in tables) (λ s. IsFine (meaning s).action) (read_fine calendar tables) forms ss (unless_long _ _ _ ss e))

text_fine : LiteralsInCalendar → (tables : Tables) (text : List ℕ) (ss : List StatementShape) → transaction_in tables text ≡ Ok ss → AreFine (map meaning ss)
unfolding transaction_in
text_fine calendar tables text ss e =
    let a = bind_ok (parsed statements text) (statements_in tables) ss (unless_long _ _ _ ss e) in
    statements_fine calendar tables a.0 ss a.2

-- what any text says is well formed
pub reads_fine : LiteralsInCalendar → (tables : Tables) → ReadsFine (language_of tables)
unfolding language_of
reads_fine calendar tables text = by (transaction_in tables text) refl
  where
    by : (r : Result (List StatementShape) Refusal) → transaction_in tables text ≡ r → AreFine (result_unwrap_or (meanings r) [])
    by (Ok ss) e = text_fine calendar tables text ss e
    by (Err refusal) e = tt
