-- Statements mean the same.
use Rattle.std.proofs.Common.{◌≡◌, ℕ, ◌+◌, Bool, true, false, cond, not, Option, Some, None, List, [], ◌∷◌, ◌++◌, map, length, refl, sym, ap, ◌∙◌, Result, Ok, Err, ◌⊎◌}
use Rattle.std.specs.Prelude.{nat_lt, ◌==◌, ◌||◌, pos, option_map, option_and_then, ok_or, find, zip, unwrap_or}
use Rattle.std.specs.List.{list_all, range_with_len, enumerate_from}
use Rattle.std.specs.Option.{option_map_or}
use Rattle.std.specs.Result.{result_ok}
use Rattle.std.specs.Str.Parse.{digits_value}
use mathlib.Core.Logic.{inl, inr}
use Rattle.fault.specs.declared.refusal.Refusal.{Refusal}
use Rattle.fault.specs.declared.refusal.Refusal.TheVariants.{UnknownColumn, WrongType, NotAssignable, EmptyPeriod, OutOfRange, TooLarge, NumberRange}
use Rattle.model.specs.declared.value.Value.{Value}
use Rattle.model.specs.declared.value.Value.TheVariants as value
use Rattle.model.specs.Tables.{Period}
use Rattle.model.specs.Transactions.{Action, Statement}
use Rattle.model.specs.Transactions as action
use Rattle.schema.specs.Name.{same_name}
use Rattle.schema.specs.Shape.{TableShape}
use Rattle.schema.specs.declared.table.Kind.{Kind}
use Rattle.schema.specs.declared.table.Kind.TheVariants.{Integer, Varchar, Date, SystemStart, SystemEnd}
use Rattle.namesyntax.specs.Names.{Bytes}
use Rattle.sqlsyntax.specs.Shared.{LiteralForm, ComparisonForm}
use Rattle.sqlsyntax.specs.Transactions.{PortionForm, ValueForm, AssignmentForm, InsertForm, StatementForm}
use Rattle.sqlchecks.specs.declared.field.Field.{Field}
use Rattle.sqlchecks.specs.declared.field.Field.TheVariants as fields
use Rattle.sqlchecks.specs.Answering.{each_of}
use Rattle.sqlchecks.specs.Columns.{Tables, field_at}
use Rattle.sqlchecks.specs.Columns as columns
use Rattle.sqlchecks.specs.Literals as literals
use Rattle.sqlchecks.specs.Comparisons.{passes_all, comparisons_in}
use Rattle.sqlread.specs.declared.statement.Assignment.{Assignment}
use Rattle.sqlread.specs.Shapes.{InsertShape, UpdateShape, DeleteShape, StatementShape, Insert, Update, Delete}
use Rattle.sqlread.specs.Changes as before
use Rattle.sqlread.specs.Meaning as mean
use Rattle.believed.specs.Results.{◌>>=◌, ◌>>◌, refuse_if, fold_ok, each, each_after}
use Rattle.believed.specs.Checks as checks
use Rattle.believed.specs.Meaning as now
use Rattle.believed.proofs.Binding.{mapped, same_or, mapped_then, bind, bind_same, refused, refused_in, alike, alike_refused, each_mapped, each_same}
use Rattle.believed.proofs.ChecksSame.{column_same, in_table_same, day_same, literal_same, period_cases, condition_same}

-- ---- INSERT

listed_same : (table : TableShape) (done : List (ℕ × Kind)) (name : Bytes) → now.listed table done name ≡ before.listed table done name
unfolding before.listed
listed_same table done name =
    ap (λ (r : Result (ℕ × Kind) Refusal). r >>= λ column. refuse_if (before.is_system table column.0 || before.is_among column.0 (map (λ c. c.0) done)) NotAssignable >> Ok column) (column_same table name)

abbrev list_rest : TableShape → List Bytes → List (ℕ × Kind) → Result (List (ℕ × Kind)) Refusal
list_rest table names next = fold_ok (λ done x. now.listed table done x >>= λ y. Ok (done ++ y ∷ [])) next names

listed_by : (table : TableShape) (names : List Bytes) (done : List (ℕ × Kind)) → ((c : ℕ × Kind) → list_rest table names (done ++ c ∷ []) ≡ before.listed_after table (done ++ c ∷ []) names) → (r : Result (ℕ × Kind) Refusal) →
    ((r >>= λ y. Ok (done ++ y ∷ [])) >>= list_rest table names) ≡ (r >>= λ c. before.listed_after table (done ++ c ∷ []) names)
listed_by table names done more (Ok c) = more c
listed_by table names done more (Err e) = refl

all_listed : (table : TableShape) (names : List Bytes) (done : List (ℕ × Kind)) → list_rest table names done ≡ before.listed_after table done names
all_listed table [] done = refl
all_listed table (name ∷ names) done =
    ap (λ (r : Result (ℕ × Kind) Refusal). (r >>= λ y. Ok (done ++ y ∷ [])) >>= list_rest table names) (listed_same table done name)
    ∙ listed_by table names done (λ c. all_listed table names (done ++ c ∷ [])) (before.listed table done name)

given_same : (values : List (ℕ × Value)) (column : ℕ) → now.given values column ≡ before.value_given values column
unfolding before.value_given
given_same values column = refl

abbrev literal_at : (ℕ × Kind) × LiteralForm → Result (ℕ × Value) Refusal
literal_at x = checks.literal_in x.0.1 x.1 >>= λ v. Ok (x.0.0, v)

abbrev at_column : ℕ → Result Value Refusal → Result (ℕ × Value) Refusal
at_column column r = r >>= λ v. Ok (column, v)

literal_given : (x : (ℕ × Kind) × LiteralForm) → literal_at x ≡ before.given x
unfolding before.given
literal_given x = ap (at_column x.0.0) (literal_same x.0.1 x.1)

abbrev shaped : ℕ → ℕ → ℕ → List Value → List Value → Result InsertShape Refusal
shaped place start end key others = Ok (record { table = place; key = key; values = others; period = record { start = start; end = end } })

abbrev inserting : ℕ → ℕ → List Value → List Value → Result Action Refusal
inserting start end key others = Ok (action.Insert key others (record { start = start; end = end }))

abbrev insert_action : InsertShape → Action
insert_action s = action.Insert s.key s.values s.period

row_same : (place : ℕ) (table : TableShape) (values : List (ℕ × Value)) →
    ((now.given values table.start >>= now.day_of) >>= λ start. (now.given values table.end >>= now.day_of) >>= λ end. checks.period_from start end >>= λ period.
    each (now.given values) table.key >>= λ key. each (now.given values) table.values >>= λ others. Ok (action.Insert key others period))
    ≡ mapped insert_action (before.row_given place table values)
unfolding before.row_given before.day_given before.value_given
row_same place table values =
    bind_same insert_action (now.given values table.start >>= now.day_of) (before.day_given values table.start) _ _ refl
    (λ start. bind_same insert_action (now.given values table.end >>= now.day_of) (before.day_given values table.end) _ _ refl
    (λ end. let p : Period = record { start = start; end = end } in
    period_cases (nat_lt start end) p (λ period. each (now.given values) table.key >>= λ key. each (now.given values) table.values >>= λ others. Ok (action.Insert key others period))
    ∙ refused insert_action (not (nat_lt start end)) (not (nat_lt start end)) EmptyPeriod _ _ refl
    (bind_same insert_action (each (now.given values) table.key) (each_of (before.value_given values) table.key) _ _ (each_same (now.given values) (before.value_given values) (given_same values) table.key)
    (λ key. bind_same insert_action (each (now.given values) table.values) (each_of (before.value_given values) table.values) (inserting start end key) (shaped place start end key) (each_same (now.given values) (before.value_given values) (given_same values) table.values)
    (λ others. refl)))))

values_same : (place : ℕ) (table : TableShape) (columns : List (ℕ × Kind)) (forms : List LiteralForm) →
    (refuse_if (not (length forms == length columns)) WrongType >> (each literal_at (zip columns forms) >>= λ values.
    (now.given values table.start >>= now.day_of) >>= λ start. (now.given values table.end >>= now.day_of) >>= λ end. checks.period_from start end >>= λ period.
    each (now.given values) table.key >>= λ key. each (now.given values) table.values >>= λ others. Ok (action.Insert key others period)))
    ≡ mapped insert_action (before.values_in columns forms >>= λ values. before.row_given place table values)
unfolding before.values_in
values_same place table columns forms =
    refused_in insert_action (not (length forms == length columns)) WrongType (each_of before.given (zip columns forms)) (λ values. before.row_given place table values) _
    (bind_same insert_action (each literal_at (zip columns forms)) (each_of before.given (zip columns forms)) _ (λ values. before.row_given place table values)
    (each_same literal_at before.given literal_given (zip columns forms)) (row_same place table))

abbrev insert_rest : TableShape → List LiteralForm → List (ℕ × Kind) → Result Action Refusal
insert_rest table forms columns = refuse_if (not (list_all (λ c. before.is_system table c || before.is_among c (map (λ l. l.0) columns)) (range_with_len 0 (length table.columns)))) UnknownColumn
    >> (refuse_if (not (length forms == length columns)) WrongType >> (each literal_at (zip columns forms) >>= λ values.
    (now.given values table.start >>= now.day_of) >>= λ start. (now.given values table.end >>= now.day_of) >>= λ end. checks.period_from start end >>= λ period.
    each (now.given values) table.key >>= λ key. each (now.given values) table.values >>= λ others. Ok (action.Insert key others period)))

listed_cases : (place : ℕ) (table : TableShape) (forms : List LiteralForm) (r : Result (List (ℕ × Kind)) Refusal) →
    (r >>= insert_rest table forms) ≡ mapped insert_action ((r >>= λ columns. refuse_if (not (before.has_all table columns)) UnknownColumn >> Ok columns) >>= λ columns. before.values_in columns forms >>= λ values. before.row_given place table values)
listed_cases place table forms (Ok columns) = refused_in insert_action (not (before.has_all table columns)) UnknownColumn (Ok columns) (λ columns. before.values_in columns forms >>= λ values. before.row_given place table values) _ (values_same place table columns forms)
listed_cases place table forms (Err e) = refl

insert_same : (place : ℕ) (table : TableShape) (names : List Bytes) (forms : List LiteralForm) (name : Bytes) →
    now.insert_in table names forms ≡ mapped insert_action (before.insert_into place table (name, (names, forms)))
unfolding before.insert_into before.list_in
insert_same place table names forms name =
    ap (λ (r : Result (List (ℕ × Kind)) Refusal). r >>= insert_rest table forms) (all_listed table names []) ∙ listed_cases place table forms (before.listed_after table [] names)

-- ---- FOR PORTION OF

abbrev or_all : Option Period → Period
or_all p = unwrap_or p mean.all_days

period_same : (from to : Bytes) → (checks.day_named from >>= λ start. checks.day_named to >>= λ end. checks.period_from start end) ≡ literals.period_named from to
unfolding literals.period_named
period_same from to =
    bind_same (λ (p : Period). p) (checks.day_named from) (literals.day_named from) _ _ (day_same from)
    (λ start. bind_same (λ (p : Period). p) (checks.day_named to) (literals.day_named to) _ _ (day_same to)
    (λ end. by (nat_lt start end) (record { start = start; end = end })))
    ∙ same_or (literals.period_named from to)
  where
    by : (b : Bool) (p : Period) → cond b (Ok p) (Err EmptyPeriod) ≡ mapped (λ (p : Period). p) (refuse_if (not b) EmptyPeriod >> Ok p)
    by true p = refl
    by false p = refl

portion_same : (table : TableShape) (form : Option PortionForm) → now.portion_in table form ≡ mapped or_all (before.if_given (before.portion_in table) form)
unfolding before.portion_in
portion_same table None = refl
portion_same table (Some (name, (from, to))) = by (not (same_name name table.period)) (literals.period_named from to) (checks.day_named from >>= λ start. checks.day_named to >>= λ end. checks.period_from start end) (period_same from to)
  where
    ok_case : (r : Result Period Refusal) → r ≡ mapped or_all (r >>= λ p. Ok (Some p))
    ok_case (Ok p) = refl
    ok_case (Err e) = refl

    by : (b : Bool) (r r' : Result Period Refusal) → r' ≡ r → (refuse_if b UnknownColumn >> r') ≡ mapped or_all ((refuse_if b UnknownColumn >> r) >>= λ p. Ok (Some p))
    by true r r' same = refl
    by false r r' same = same ∙ ok_case r

-- ---- SET

moved_by : (sign : Unit {0} ⊎ Unit {0}) (n : ℕ) (old : Value) → now.changed_by sign (value.Number (pos n)) old ≡ mean.new_value (before.changed_by sign n) old
unfolding mean.new_value
moved_by (inl plus) n (value.Number m) = refl
moved_by (inl plus) n (value.Text t) = refl
moved_by (inl plus) n (value.Day d) = refl
moved_by (inr minus) n (value.Number m) = refl
moved_by (inr minus) n (value.Text t) = refl
moved_by (inr minus) n (value.Day d) = refl

amount_same : (sign : Unit {0} ⊎ Unit {0}) (n : ℕ) (b : Bool) →
    ((cond b (Ok (pos n)) (Err OutOfRange) >>= λ m. Ok (value.Number m)) >>= λ v. Ok (now.changed_by sign v)) ≡ mapped mean.new_value (cond b (Ok n) (Err OutOfRange) >>= λ m. Ok (before.changed_by sign m))
amount_same sign n true = λ i. Ok (λ old. moved_by sign n old i)
amount_same sign n false = refl

kind_same : (kind : Kind) (sign : Unit {0} ⊎ Unit {0}) (digits : Bytes) →
    (checks.literal_in kind (inr (inr (None, digits))) >>= λ v. Ok (now.changed_by sign v)) ≡ mapped mean.new_value (refuse_if (not (before.is_integer kind)) WrongType >> (before.amount digits >>= λ m. Ok (before.changed_by sign m)))
unfolding literals.signed before.amount
kind_same Integer sign digits = amount_same sign (digits_value 10 digits) (nat_lt (digits_value 10 digits) 9_223_372_036_854_775_808)
kind_same (Varchar most) sign digits = refl
kind_same Date sign digits = refl
kind_same SystemStart sign digits = refl
kind_same SystemEnd sign digits = refl

new_value_same : (table : TableShape) (column : ℕ × Kind) (form : ValueForm) → now.new_value_in table column form ≡ mapped mean.new_value (before.new_value_in table column form)
unfolding before.new_value_in before.changed_in mean.new_value
new_value_same table column (inr literal) = bind_same mean.new_value (checks.literal_in column.1 literal) (literals.literal_in column.1 literal) _ _ (literal_same column.1 literal) (λ v. refl)
new_value_same table column (inl (name, (sign, digits))) =
    bind_same mean.new_value (checks.column_named table name) (columns.column_named table name) _ _ (column_same table name)
    (λ other. refused mean.new_value (not (other.0 == column.0)) (not (other.0 == column.0)) NotAssignable _ _ refl (kind_same column.1 sign digits))

abbrev pub pair : Assignment → ℕ × (Value → Option Value)
pair a = (a.place, mean.new_value a.value)

place_same : (field : Option Field) → now.value_place field ≡ ok_or (option_and_then before.value_place field) NotAssignable
place_same None = refl
place_same (Some (fields.Key i)) = refl
place_same (Some (fields.Value i)) = refl

places_same : (done : List Assignment) → map (λ (a : ℕ × (Value → Option Value)). a.0) (map pair done) ≡ map (λ a. a.place) done
places_same [] = refl
places_same (a ∷ more) = ap (λ xs. a.place ∷ xs) (places_same more)

assignment_same : (table : TableShape) (done : List Assignment) (form : AssignmentForm) → now.assignment_in table (map pair done) form ≡ mapped pair (before.assignment_in table done form)
unfolding before.assignment_in before.assignable
assignment_same table done form =
    bind_same pair (checks.column_named table form.0) (columns.column_named table form.0) _ _ (column_same table form.0)
    (λ column. bind_same pair (now.value_place (field_at table column.0)) (before.assignable table column.0) _ _ (place_same (field_at table column.0))
    (λ place. refused pair (before.is_among place (map (λ a. a.place) done)) (before.is_among place (map (λ (a : ℕ × (Value → Option Value)). a.0) (map pair done))) NotAssignable _ _
    (ap (λ xs. before.is_among place xs) (places_same done))
    (bind pair mean.new_value (now.new_value_in table column form.1) (before.new_value_in table column form.1) (λ f. Ok (place, f)) (λ v. let a : Result Assignment Refusal = Ok (record { place = place; value = v }) in a) (new_value_same table column form.1) (λ v. refl))))

pushed : (done : List Assignment) (a : Assignment) → map pair done ++ pair a ∷ [] ≡ map pair (done ++ a ∷ [])
pushed [] a = refl
pushed (d ∷ done) a = ap (λ xs. pair d ∷ xs) (pushed done a)

abbrev assign_rest : TableShape → List AssignmentForm → List (ℕ × (Value → Option Value)) → Result (List (ℕ × (Value → Option Value))) Refusal
assign_rest table forms next = fold_ok (λ done x. now.assignment_in table done x >>= λ y. Ok (done ++ y ∷ [])) next forms

assigned_by : (table : TableShape) (forms : List AssignmentForm) (done : List Assignment) → ((a : Assignment) → assign_rest table forms (map pair (done ++ a ∷ [])) ≡ mapped (map pair) (before.assignments_after table (done ++ a ∷ []) forms)) → (r : Result Assignment Refusal) →
    ((mapped pair r >>= λ y. Ok (map pair done ++ y ∷ [])) >>= assign_rest table forms) ≡ mapped (map pair) (r >>= λ a. before.assignments_after table (done ++ a ∷ []) forms)
assigned_by table forms done more (Ok a) = ap (assign_rest table forms) (pushed done a) ∙ more a
assigned_by table forms done more (Err e) = refl

all_assigned : (table : TableShape) (forms : List AssignmentForm) (done : List Assignment) → assign_rest table forms (map pair done) ≡ mapped (map pair) (before.assignments_after table done forms)
all_assigned table [] done = refl
all_assigned table (form ∷ forms) done =
    ap (λ (r : Result (ℕ × (Value → Option Value)) Refusal). (r >>= λ y. Ok (map pair done ++ y ∷ [])) >>= assign_rest table forms) (assignment_same table done form)
    ∙ assigned_by table forms done (λ a. all_assigned table forms (done ++ a ∷ [])) (before.assignment_in table done form)

-- ---- what SET leaves

find_pair : (place : ℕ) (assignments : List Assignment) → find (λ (a : ℕ × (Value → Option Value)). a.0 == place) (map pair assignments) ≡ option_map pair (find (λ a. a.place == place) assignments)
find_pair place [] = refl
find_pair place (a ∷ more) = ap (λ o. cond (a.place == place) (Some (pair a)) o) (find_pair place more) ∙ by (a.place == place) (find (λ a. a.place == place) more)
  where
    by : (b : Bool) (o : Option Assignment) → cond b (Some (pair a)) (option_map pair o) ≡ option_map pair (cond b (Some a) o)
    by true o = refl
    by false o = refl

set_by : (o : Option Assignment) (old : Value) → option_map_or (λ (a : ℕ × (Value → Option Value)). a.1 old) (option_map pair o) (Some old) ≡ option_map_or (λ a. mean.new_value a.value old) o (Some old)
set_by None old = refl
set_by (Some a) old = refl

set_at_same : (assignments : List Assignment) (place : ℕ) (old : Value) →
    option_map_or (λ (a : ℕ × (Value → Option Value)). a.1 old) (find (λ (a : ℕ × (Value → Option Value)). a.0 == place) (map pair assignments)) (Some old) ≡ mean.set_at assignments place old
unfolding mean.set_at
set_at_same assignments place old = ap (λ o. option_map_or (λ (a : ℕ × (Value → Option Value)). a.1 old) o (Some old)) (find_pair place assignments) ∙ set_by (find (λ a. a.place == place) assignments) old

abbrev new_at : List Assignment → ℕ × Value → Result Value Refusal
new_at assignments v = ok_or (option_map_or (λ (a : ℕ × (Value → Option Value)). a.1 v.1) (find (λ (a : ℕ × (Value → Option Value)). a.0 == v.0) (map pair assignments)) (Some v.1)) NumberRange

cons_ok : (w : Value) (t : Result (List Value) Refusal) → result_ok (t >>= λ bs. Ok (w ∷ bs)) ≡ option_map (λ news. w ∷ news) (result_ok t)
cons_ok w (Ok bs) = refl
cons_ok w (Err e) = refl

first_ok : (o : Option Value) (t : Result (List Value) Refusal) (u : Option (List Value)) → result_ok t ≡ u →
    result_ok (ok_or o NumberRange >>= λ b. t >>= λ bs. Ok (b ∷ bs)) ≡ option_and_then (λ new. option_map (λ news. new ∷ news) u) o
first_ok None t u same = refl
first_ok (Some w) t u same = cons_ok w t ∙ ap (λ u. option_map (λ news. w ∷ news) u) same

set_from_same : (assignments : List Assignment) (place : ℕ) (old : List Value) → result_ok (each_of (new_at assignments) (enumerate_from place old)) ≡ mean.set_from assignments place old
set_from_same assignments place [] = refl
set_from_same assignments place (v ∷ vs) =
    ap (λ o. result_ok (ok_or o NumberRange >>= λ b. each_of (new_at assignments) (enumerate_from (place + 1) vs) >>= λ bs. Ok (b ∷ bs))) (set_at_same assignments place v)
    ∙ first_ok (mean.set_at assignments place v) (each_of (new_at assignments) (enumerate_from (place + 1) vs)) (mean.set_from assignments (place + 1) vs) (set_from_same assignments (place + 1) vs)

set_same : (assignments : List Assignment) (old : List Value) → now.set_of (map pair assignments) old ≡ mean.set_of assignments old
unfolding mean.set_of
set_same assignments old = ap (λ r. result_ok r) (each_same (new_at assignments) (new_at assignments) (λ v. refl) (enumerate_from 0 old)) ∙ set_from_same assignments 0 old

-- ---- statements

abbrev update_now : Option PortionForm → List AssignmentForm → Option (List ComparisonForm) → ℕ → TableShape → Result Statement Refusal
update_now portion assignments conditions place table = now.portion_in table portion >>= λ days. each_after (now.assignment_in table) assignments >>= λ set. checks.condition_in table conditions >>= λ passes.
    Ok (record { table = place; action = action.Update passes days (now.set_of set) })

abbrev update_then : Option PortionForm → List AssignmentForm → Option (List ComparisonForm) → ℕ → TableShape → Result UpdateShape Refusal
update_then portion assignments conditions place table = before.if_given (before.portion_in table) portion >>= λ days. before.assignments_after table [] assignments >>= λ set. before.all_given (comparisons_in table) conditions >>= λ passes.
    Ok (record { table = place; portion = days; assignments = set; conditions = passes })

abbrev delete_now : Option PortionForm → Option (List ComparisonForm) → ℕ → TableShape → Result Statement Refusal
delete_now portion conditions place table = now.portion_in table portion >>= λ days. checks.condition_in table conditions >>= λ passes. Ok (record { table = place; action = action.Delete passes days })

abbrev delete_then : Option PortionForm → Option (List ComparisonForm) → ℕ → TableShape → Result DeleteShape Refusal
delete_then portion conditions place table = before.if_given (before.portion_in table) portion >>= λ days. before.all_given (comparisons_in table) conditions >>= λ passes.
    Ok (record { table = place; portion = days; conditions = passes })

abbrev insert_now : List Bytes → List LiteralForm → ℕ → TableShape → Result Statement Refusal
insert_now names forms place table = now.insert_in table names forms >>= λ insert. Ok (record { table = place; action = insert })

abbrev updates : UpdateShape → Statement
updates s = mean.meaning (Update s)

abbrev deletes : DeleteShape → Statement
deletes s = mean.meaning (Delete s)

abbrev inserts : InsertShape → Statement
inserts s = mean.meaning (Insert s)

update_same : (portion : Option PortionForm) (assignments : List AssignmentForm) (conditions : Option (List ComparisonForm)) (place : ℕ) (table : TableShape) →
    update_now portion assignments conditions place table ≡ mapped updates (update_then portion assignments conditions place table)
update_same portion assignments conditions place table =
    bind updates or_all (now.portion_in table portion) (before.if_given (before.portion_in table) portion) _ _ (portion_same table portion)
    (λ days. bind updates (map pair) (each_after (now.assignment_in table) assignments) (before.assignments_after table [] assignments) _ _ (all_assigned table assignments [])
    (λ set. bind updates passes_all (checks.condition_in table conditions) (before.all_given (comparisons_in table) conditions) _ _ (condition_same table conditions)
    (λ passes. λ i. Ok (record { table = place; action = action.Update (passes_all passes) (or_all days) (λ old. set_same set old i) }))))

delete_same : (portion : Option PortionForm) (conditions : Option (List ComparisonForm)) (place : ℕ) (table : TableShape) →
    delete_now portion conditions place table ≡ mapped deletes (delete_then portion conditions place table)
delete_same portion conditions place table =
    bind deletes or_all (now.portion_in table portion) (before.if_given (before.portion_in table) portion) _ _ (portion_same table portion)
    (λ days. bind deletes passes_all (checks.condition_in table conditions) (before.all_given (comparisons_in table) conditions) _ _ (condition_same table conditions)
    (λ passes. refl))

abbrev changing : ℕ → InsertShape → Statement
changing place s = record { table = place; action = insert_action s }

insert_shape : (place : ℕ) (r : Result InsertShape Refusal) → (mapped insert_action r >>= λ (insert : Action). Ok (record { table = place; action = insert })) ≡ mapped (changing place) r
insert_shape place (Ok s) = refl
insert_shape place (Err e) = refl

placed : (place : ℕ) (table : TableShape) (form : InsertForm) → mapped (changing place) (before.insert_into place table form) ≡ mapped inserts (before.insert_into place table form)
unfolding before.insert_into before.row_given
placed place table form =
    let h = changing place in
    alike h inserts (before.list_in table form.1.0) _ (λ columns. alike h inserts (before.values_in columns form.1.1) _ (λ values.
    alike h inserts (before.day_given values table.start) _ (λ start. alike h inserts (before.day_given values table.end) _ (λ end. alike_refused h inserts (not (nat_lt start end)) EmptyPeriod _
    (alike h inserts (each_of (before.value_given values) table.key) _ (λ key. alike h inserts (each_of (before.value_given values) table.values) (shaped place start end key) (λ others. refl)))))))

insert_all : (names : List Bytes) (forms : List LiteralForm) (name : Bytes) (place : ℕ) (table : TableShape) → insert_now names forms place table ≡ mapped inserts (before.insert_into place table (name, (names, forms)))
insert_all names forms name place table =
    ap (λ (r : Result Action Refusal). r >>= λ insert. let y : Result Statement Refusal = Ok (record { table = place; action = insert }) in y) (insert_same place table names forms name)
    ∙ insert_shape place (before.insert_into place table (name, (names, forms))) ∙ placed place table (name, (names, forms))

statement_same : (tables : Tables) (form : StatementForm) → now.statement_in tables form ≡ mapped mean.meaning (before.statement_in tables form)
unfolding before.statement_in before.insert_in before.update_in before.delete_in
statement_same tables (inl (name, (names, forms))) =
    in_table_same inserts tables name (insert_now names forms) (λ place table. before.insert_into place table (name, (names, forms))) (insert_all names forms name)
    ∙ sym (mapped_then mean.meaning Insert (before.insert_in tables (name, (names, forms))))
statement_same tables (inr (inl (name, (portion, (assignments, conditions))))) =
    in_table_same updates tables name (update_now portion assignments conditions) (update_then portion assignments conditions) (update_same portion assignments conditions)
    ∙ sym (mapped_then mean.meaning Update (before.update_in tables (name, (portion, (assignments, conditions)))))
statement_same tables (inr (inr (name, (portion, conditions)))) =
    in_table_same deletes tables name (delete_now portion conditions) (delete_then portion conditions) (delete_same portion conditions)
    ∙ sym (mapped_then mean.meaning Delete (before.delete_in tables (name, (portion, conditions))))

meanings_by : (r : Result (List StatementShape) Refusal) → mapped (map mean.meaning) r ≡ mean.meanings r
meanings_by (Ok ss) = refl
meanings_by (Err e) = refl

pub statements_same : (tables : Tables) (forms : List StatementForm) → now.statements_in tables forms ≡ mean.meanings (before.statements_in tables forms)
unfolding before.statements_in
statements_same tables forms = by (nat_lt 16 (length forms))
  where
    by : (b : Bool) → (refuse_if b TooLarge >> each (now.statement_in tables) forms) ≡ mean.meanings (cond b (Err TooLarge) (each_of (before.statement_in tables) forms))
    by true = refl
    by false = each_mapped mean.meaning (now.statement_in tables) (before.statement_in tables) (statement_same tables) forms ∙ meanings_by (each_of (before.statement_in tables) forms)
