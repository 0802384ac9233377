-- The lines of statements, as their parts are written one after the other.
use Rattle.std.proofs.Common.{◌≡◌, ℕ, zero, suc, ◌+◌, ◌-◌, ◌<◌, true, false, List, [], ◌∷◌, ◌++◌, length, map, filter, flat_map, codes, Option, Some, refl, sym, ap, ◌∙◌, append_assoc, add-zero, arith, cond, subst}
use Rattle.std.specs.Prelude.{option_map, not, slice_get}
use Rattle.std.specs.List.{range_with_len}
use Rattle.std.proofs.lemmas.List.{append-nil, map-append, map-id, length-append}
use Rattle.std.proofs.lemmas.Grind.{flat_map-append}
use Rattle.std.proofs.lemmas.List.FromFn.{filter_of_map_range_with_len_more}
use Rattle.period.specs.Day.{day_text}
use Rattle.period.specs.declared.period.Period.{Period as Declared}
use Rattle.schema.specs.Shape.{TableShape}
use Rattle.schema.specs.declared.table.Kind.{Kind}
use Rattle.phrase.specs.Grammar.{spell_some}
use Rattle.namesyntax.specs.Names.{Bytes, name_list}
use Rattle.sqlsyntax.specs.Shared.{LiteralForm, ComparisonForm, condition}
use Rattle.sqlsyntax.specs.Transactions.{literals, PortionForm, portion, AssignmentForm, assignments, insert, update, delete, statement}
use Rattle.sqlchecks.specs.Columns.{Tables}
use Rattle.sqlread.specs.declared.statement.Insert.{Insert as InsertRead}
use Rattle.sqlread.specs.declared.statement.Update.{Update as UpdateRead}
use Rattle.sqlread.specs.declared.statement.Delete.{Delete as DeleteRead}
use Rattle.sqlread.specs.declared.statement.Statement.{Statement as StatementRead}
use Rattle.sqlread.specs.declared.statement.Statement.TheVariants as statements
use Rattle.sqlread.specs.Meaning.{table_of}
use Rattle.sqlchecks.specs.declared.comparison.Comparison.{Comparison}
use Rattle.sqlread.specs.declared.statement.Assignment.{Assignment}
use Rattle.sqlread.specs.Changes.{is_system}
use Rattle.model.specs.Periods.{period_of}
use Rattle.sqlread.specs.Shapes.{InsertShape, insert_of, update_of, delete_of, statement_of}
use Rattle.rowtext.specs.Spacing.{Start, Word, line}
use Rattle.rowtext.specs.Transactions.{column_name, cell_of, portion_of, comparison_of, conditions_of, assignment_of, given_columns, insert_form, update_form, delete_form, statement_text}
use Rattle.answertext.proofs.Joining.{flat_of_map}
use Rattle.rowtext.proofs.Spaced.{portion_line, insert_line, update_line, delete_line, names_line, literals_line, condition_line, assignments_line, commas, separator, commas_more, literal_text, comparison_text, assignment_text}

pub portion_written : (table : TableShape) (p : Option Declared) (period : Declared) (name : Bytes) → p ≡ Some period → name ≡ table.period
    → codes " FOR PORTION OF " ++ (name ++ (codes " FROM DATE '" ++ (day_text period.start.number ++ (codes "' TO DATE '" ++ (day_text period.end.number ++ codes "'")))))
    ≡ line Word (spell_some portion (option_map (portion_of table) (option_map period_of p)))
portion_written table p period name e f = rw (e, f, portion_line table.period (day_text period.start.number) (day_text period.end.number)) refl

pub insert_written : (name : Bytes) (ns : List Bytes) (ls : List LiteralForm)
    → ((((codes "INSERT INTO " ++ (name ++ codes " (")) ++ line Start (name_list.spell ns)) ++ codes ") VALUES (") ++ line Start (literals.spell ls)) ++ codes ");\n"
    ≡ line Start (insert.spell (name, (ns, ls))) ++ 10 ∷ []
insert_written name ns ls = rw (insert_line name ns ls) (simp append_assoc refl)

pub update_written : (name : Bytes) (p : Option PortionForm) (list : List AssignmentForm) (cs : Option (List ComparisonForm))
    → (((((codes "UPDATE " ++ name) ++ line Word (spell_some portion p)) ++ codes " SET ") ++ line Start (assignments.spell list)) ++ line Word (spell_some condition cs)) ++ codes ";\n"
    ≡ line Start (update.spell (name, (p, (list, cs)))) ++ 10 ∷ []
update_written name p list cs = rw (update_line name p list cs) (simp append_assoc refl)

pub delete_written : (name : Bytes) (p : Option PortionForm) (cs : Option (List ComparisonForm))
    → (((codes "DELETE FROM " ++ name) ++ line Word (spell_some portion p)) ++ line Word (spell_some condition cs)) ++ codes ";\n"
    ≡ line Start (delete.spell (name, (p, cs))) ++ 10 ∷ []
delete_written name p cs = rw (delete_line name p cs) (simp append_assoc refl)

-- ---- the conditions and the assignments

pub conditions_written : (table : TableShape) (all : List Comparison) (c : Comparison) (rest : List Comparison) → all ≡ c ∷ rest
    → (codes " WHERE " ++ comparison_text (comparison_of table c)) ++ flat_map (λ d. codes " AND " ++ comparison_text (comparison_of table d)) rest
    ≡ line Word (spell_some condition (conditions_of table all))
conditions_written table all c rest e =
    ap (λ t. (codes " WHERE " ++ comparison_text (comparison_of table c)) ++ t) (flat_of_map (λ d. codes " AND " ++ comparison_text d) (comparison_of table) rest)
    ∙ sym (condition_line (comparison_of table c) (map (comparison_of table) rest))
    ∙ ap (λ l. line Word (spell_some condition (conditions_of table l))) (sym e)

pub assignments_written : (table : TableShape) (all : List Assignment) (a : Assignment) (rest : List Assignment) → all ≡ a ∷ rest
    → assignment_text (assignment_of table a) ++ flat_map (λ b. codes ", " ++ assignment_text (assignment_of table b)) rest
    ≡ line Start (assignments.spell (map (assignment_of table) all))
assignments_written table all a rest e =
    ap (λ t. assignment_text (assignment_of table a) ++ t) (flat_of_map (λ b. codes ", " ++ assignment_text b) (assignment_of table) rest)
    ∙ sym (assignments_line (assignment_of table a) (map (assignment_of table) rest))
    ∙ ap (λ l. line Start (assignments.spell (map (assignment_of table) l))) (sym e)

-- ---- lists of columns

-- the columns that a row is given, among the first so many
abbrev pub given_within : TableShape → ℕ → List ℕ
given_within table n = filter (λ c. not (is_system table c)) (range_with_len 0 n)

given_more : (table : TableShape) (n : ℕ) → given_within table (n + 1) ≡ given_within table n ++ cond (not (is_system table n)) (n ∷ []) []
given_more table n =
    ap (filter (λ c. not (is_system table c))) (sym (map-id (range_with_len 0 (n + 1))))
    ∙ filter_of_map_range_with_len_more (λ c. not (is_system table c)) (λ x. x) 0 n n (omega arith)
    ∙ ap (λ l. filter (λ c. not (is_system table c)) l ++ cond (not (is_system table n)) (n ∷ []) []) (map-id (range_with_len 0 n))

pub system_left : (table : TableShape) (text : ℕ → Bytes) (n : ℕ) → is_system table n ≡ true → map text (given_within table (n + 1)) ≡ map text (given_within table n)
system_left table text n e =
    ap (map text) (given_more table n ∙ ap (λ b. given_within table n ++ cond (not b) (n ∷ []) []) e ∙ append-nil (given_within table n))

pub given_next : (table : TableShape) (text : ℕ → Bytes) (n : ℕ) → is_system table n ≡ false → map text (given_within table (n + 1)) ≡ map text (given_within table n) ++ text n ∷ []
given_next table text n e =
    ap (map text) (given_more table n ∙ ap (λ b. given_within table n ++ cond (not b) (n ∷ []) []) e)
    ∙ map-append text (given_within table n) (n ∷ [])

separator_more : (list : List Bytes) (x : Bytes) → separator (list ++ x ∷ []) ≡ codes ", "
separator_more [] x = refl
separator_more (y ∷ list) x = refl

-- one more column, with what stands before it
pub next_separator : (table : TableShape) (text : ℕ → Bytes) (n : ℕ) → is_system table n ≡ false → codes ", " ≡ separator (map text (given_within table (n + 1)))
next_separator table text n e = sym (ap separator (given_next table text n e) ∙ separator_more (map text (given_within table n)) (text n))

pub next_written : (table : TableShape) (text : ℕ → Bytes) (n : ℕ) (before x : Bytes) → is_system table n ≡ false → before ≡ separator (map text (given_within table n)) → x ≡ text n
    → commas (map text (given_within table n)) ++ (before ++ x) ≡ commas (map text (given_within table (n + 1)))
next_written table text n before x e f h =
    ap (λ b. commas (map text (given_within table n)) ++ (b ++ x)) f
    ∙ ap (λ y. commas (map text (given_within table n)) ++ (separator (map text (given_within table n)) ++ y)) h
    ∙ sym (commas_more (map text (given_within table n)) (text n))
    ∙ ap commas (sym (given_next table text n e))

-- something is written where a separator stands, and only there
some_there : (list : List Bytes) (before : Bytes) → before ≡ separator list → 0 < length before → 0 < length list
some_there [] before e lt = let none = ap (λ (b : Bytes). length b) e in absurd (omega (arith, none, lt))
some_there (x ∷ list) before e lt = omega arith

pub none_there : (list : List Bytes) (before : Bytes) → before ≡ separator list → length before ≡ 0 → commas list ≡ []
none_there [] before e none = refl
none_there (x ∷ list) before e none = let two = ap (λ (b : Bytes). length b) e in absurd (omega (arith, none, two))

length_of_map : {A B : Type 0} (f : A → B) (list : List A) → length (map f list) ≡ length list
length_of_map f [] = refl
length_of_map f (a ∷ list) = ap suc (length_of_map f list)

map_of_map : {A B : Type 0} (g : B → Bytes) (f : A → B) (list : List A) → map g (map f list) ≡ map (λ a. g (f a)) list
map_of_map g f [] = refl
map_of_map g f (a ∷ list) = ap (λ l. g (f a) ∷ l) (map_of_map g f list)

-- the items of so many columns, and of more
given_grows : (table : TableShape) (n k : ℕ) → (rest : List ℕ) × (given_within table (n + k) ≡ given_within table n ++ rest)
given_grows table n zero = ([], ap (given_within table) (add-zero n) ∙ sym (append-nil (given_within table n)))
given_grows table n (suc k) =
    let so_far = given_grows table n k in
    let next : List ℕ = cond (not (is_system table (n + k))) ((n + k) ∷ []) [] in
    let one : n + suc k ≡ n + k + 1 = omega arith in (
      so_far.0 ++ next,
      ap (given_within table) one
          ∙ given_more table (n + k)
          ∙ ap (λ l. l ++ next) so_far.1
          ∙ append_assoc (given_within table n) so_far.0 next,
    )

commas_grow : (xs ys : List Bytes) → 0 < length xs → commas (xs ++ ys) ≡ commas xs ++ flat_map (λ y. codes ", " ++ y) ys
commas_grow [] ys lt = absurd (omega arith)
commas_grow (x ∷ xs) ys lt =
    ap (λ l. x ++ l) (flat_map-append (λ y. codes ", " ++ y) xs ys)
    ∙ sym (append_assoc x (flat_map (λ y. codes ", " ++ y) xs) (flat_map (λ y. codes ", " ++ y) ys))

-- a column that a row is given, with what is written of the row up to it and after it
module _ (table : TableShape) (text : ℕ → Bytes) (n : ℕ) (before x : Bytes) (given : is_system table n ≡ false) (stands : before ≡ separator (map text (given_within table n))) (is : x ≡ text n) (within : n < length table.columns) where
  pub grown : (rest : List ℕ) × (given_columns table ≡ given_within table (n + 1) ++ rest)
  grown =
      let more = given_grows table (n + 1) (length table.columns - (n + 1)) in
      let all : length table.columns ≡ n + 1 + (length table.columns - (n + 1)) = omega arith in
      (more.0, ap (given_within table) all ∙ more.1)

  some_within : 0 < length (map text (given_within table (n + 1)))
  some_within =
      let long = ap (λ (l : List Bytes). length l) (given_next table text n given) in
      omega (arith, long, length-append (map text (given_within table n)) (text n ∷ []))

  pub some_given : 0 < length (given_columns table)
  some_given =
      let long = ap (λ (l : List ℕ). length l) grown.1 in
      omega (arith, long, length-append (given_within table (n + 1)) grown.0, length_of_map text (given_within table (n + 1)), some_within)

  abbrev pub after_column : Bytes
  after_column = flat_map (λ y. codes ", " ++ y) (map text grown.0)

  pub around_column : (commas (map text (given_within table n)) ++ (before ++ x)) ++ after_column ≡ commas (map text (given_columns table))
  around_column =
      ap (λ l. l ++ after_column) (next_written table text n before x given stands is)
      ∙ sym (commas_grow (map text (given_within table (n + 1))) (map text grown.0) some_within)
      ∙ ap commas (sym (map-append text (given_within table (n + 1)) grown.0))
      ∙ ap (λ l. commas (map text l)) (sym grown.1)

-- the columns
pub column_named : (table : TableShape) (n : ℕ) (name : Bytes) (kind : Kind) → slice_get table.columns n ≡ Some (name, kind) → name ≡ column_name table n
column_named table n name kind e = rw e refl

pub columns_line : (table : TableShape) → 0 < length (given_columns table)
    → commas (map (column_name table) (given_columns table)) ≡ line Start (name_list.spell (map (column_name table) (given_columns table)))
columns_line table some = sym (names_line (map (column_name table) (given_columns table)) (rw (length_of_map (column_name table) (given_columns table)) some))

pub columns_written : (table : TableShape) (n : ℕ) (before : Bytes) → n ≡ length table.columns → before ≡ separator (map (column_name table) (given_within table n)) → 0 < length before
    → commas (map (column_name table) (given_within table n)) ≡ line Start (name_list.spell (map (column_name table) (given_columns table)))
columns_written table n before e f lt =
    let there = some_there (map (column_name table) (given_within table n)) before f lt in
    let some : 0 < length (given_within table n) = rw (length_of_map (column_name table) (given_within table n)) at there in
    ap (λ k. commas (map (column_name table) (given_within table k))) e ∙ columns_line table (let P : ℕ → Type 0 = λ k. 0 < length (given_within table k) in subst P e some)

-- the literal of a column
abbrev pub cell_text : TableShape → InsertShape → ℕ → Bytes
cell_text table row c = literal_text (cell_of table row c)

pub row_line : (table : TableShape) (row : InsertShape) → 0 < length (given_columns table)
    → commas (map (cell_text table row) (given_columns table)) ≡ line Start (literals.spell (map (cell_of table row) (given_columns table)))
row_line table row some =
    ap commas (sym (map_of_map literal_text (cell_of table row) (given_columns table)))
    ∙ sym (literals_line (map (cell_of table row) (given_columns table)) (rw (length_of_map (cell_of table row) (given_columns table)) some))

pub row_written : (table : TableShape) (row : InsertShape) (n : ℕ) (before : Bytes) → n ≡ length table.columns → before ≡ separator (map (cell_text table row) (given_within table n)) → 0 < length before
    → commas (map (cell_text table row) (given_within table n)) ≡ line Start (literals.spell (map (cell_of table row) (given_columns table)))
row_written table row n before e f lt =
    let there = some_there (map (cell_text table row) (given_within table n)) before f lt in
    let some : 0 < length (given_within table n) = rw (length_of_map (cell_text table row) (given_within table n)) at there in
    ap (λ k. commas (map (cell_text table row) (given_within table k))) e ∙ row_line table row (let P : ℕ → Type 0 = λ k. 0 < length (given_within table k) in subst P e some)

-- ---- a statement of a schema

pub insert_statement : (tables : Tables) (read : StatementRead) (i : InsertRead) (place : ℕ) (name : Bytes) (table : TableShape)
    → read ≡ statements.Insert i → place ≡ table_of (statement_of read) → slice_get tables place ≡ Some (name, table)
    → line Start (insert.spell (insert_form name table (insert_of i))) ++ 10 ∷ [] ≡ statement_text tables (statement_of read)
unfolding statement_text statement
insert_statement tables read i place name table e f h = rw (e, ← (f ∙ ap (λ r. table_of (statement_of r)) e), h) refl

pub update_statement : (tables : Tables) (read : StatementRead) (u : UpdateRead) (place : ℕ) (name : Bytes) (table : TableShape)
    → read ≡ statements.Update u → place ≡ table_of (statement_of read) → slice_get tables place ≡ Some (name, table)
    → line Start (update.spell (update_form name table (update_of u))) ++ 10 ∷ [] ≡ statement_text tables (statement_of read)
unfolding statement_text statement
update_statement tables read u place name table e f h = rw (e, ← (f ∙ ap (λ r. table_of (statement_of r)) e), h) refl

pub delete_statement : (tables : Tables) (read : StatementRead) (d : DeleteRead) (place : ℕ) (name : Bytes) (table : TableShape)
    → read ≡ statements.Delete d → place ≡ table_of (statement_of read) → slice_get tables place ≡ Some (name, table)
    → line Start (delete.spell (delete_form name table (delete_of d))) ++ 10 ∷ [] ≡ statement_text tables (statement_of read)
unfolding statement_text statement
delete_statement tables read d place name table e f h = rw (e, ← (f ∙ ap (λ r. table_of (statement_of r)) e), h) refl
