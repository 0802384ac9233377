-- What the tables are built of, once no check fails.
use Rattle.std.proofs.Common.{◌≡◌, ℕ, zero, suc, ◌+◌, ◌<◌, Bool, true, false, not, ◌||◌, List, [], ◌∷◌, ◌++◌, length, map, take, get_or, Some, None, is_some, find, true≢false, refl, sym, ◌∙◌, ap, subst, cond, arith, append_assoc, add-one}
use Rattle.std.proofs.Math.Seq.{take-suc}
use Rattle.std.proofs.lemmas.List.{append-nil, map-append}
use Rattle.std.specs.Map.{lookup}
use Rattle.std.specs.Option.{option_map}
use Rattle.indexmap.specs.IndexMap.{insert_entry}
use Rattle.schema.specs.declared.syntax.Column.{Column}
use Rattle.schema.specs.declared.syntax.ForeignKey.{ForeignKey}
use Rattle.schema.specs.declared.syntax.CreateTable.{CreateTable}
use Rattle.schema.specs.declared.table.Kind.{Kind}
use Rattle.schema.specs.Name.{same_name}
use Rattle.schema.specs.Checks.{Check, first_failing, each_after, each}
use Rattle.schema.specs.Rules.{is_declared, column_checks, table_named, table_checks, name_and_size_checks, application_period_checks, system_period_checks, key_checks, foreign_key_checks, schema_checks}
use Rattle.schema.specs.Tables.{place, reference_of, is_one_of, entry_of, kind_of, numbers_below, names_of, table_names, shape_of, tables_after, schema_of}
use Rattle.schema.specs.Shape.{TableShape, ReferenceShape}

-- ---- lists of checks of which none fails

pub none_before : (xs ys : List Check) → first_failing (xs ++ ys) ≡ None → first_failing xs ≡ None
none_before [] ys none = refl
none_before (x ∷ xs) ys none = grind (arith, none_before xs ys)

pub none_behind : (xs ys : List Check) → first_failing (xs ++ ys) ≡ None → first_failing ys ≡ None
none_behind [] ys none = none
none_behind (x ∷ xs) ys none = grind (arith, none_behind xs ys)

module _ {A : Type 0} (checks : List A → A → List Check) where
  none_after : (before xs : List A) (i : ℕ) (d : A) → i < length xs → first_failing (each_after before checks xs) ≡ None → first_failing (checks (before ++ take i xs) (get_or xs i d)) ≡ None
  none_after before [] i d h none = absurd (omega arith)
  none_after before (x ∷ xs) zero d h none = subst (λ b. first_failing (checks b x) ≡ None) (sym (append-nil before)) (none_before (checks before x) (each_after (before ++ x ∷ []) checks xs) none)
  none_after before (x ∷ xs) (suc i) d h none = subst (λ b. first_failing (checks b (get_or xs i d)) ≡ None) (append_assoc before (x ∷ []) (take i xs)) (none_after (before ++ x ∷ []) xs i d (omega arith) (none_behind (checks before x) (each_after (before ++ x ∷ []) checks xs) none))

  -- none of the checks of any element fails
  pub none_of_each : (xs : List A) (i : ℕ) (x : A) → i < length xs → x ≡ get_or xs i x → first_failing (each checks xs) ≡ None → first_failing (checks (take i xs) x) ≡ None
  none_of_each xs i x h is none = subst (λ y. first_failing (checks (take i xs) y) ≡ None) (sym is) (none_after [] xs i x h none)

-- ---- columns

pub lookup-absent : (columns : List Column) (name : List ℕ) → is_declared columns name ≡ false → lookup (same_name name) (map entry_of columns) ≡ None
lookup-absent [] name absent = refl
lookup-absent (column ∷ columns) name absent = by (same_name name column.name) refl (λ other. lookup-absent columns name (sym (ap (λ b. is_some (option_map (λ c. c.column_type) (cond b (Some column) (find (λ c. same_name name c.name) columns)))) other) ∙ absent))
  where
    by : (b : Bool) → same_name name column.name ≡ b → (same_name name column.name ≡ false → lookup (same_name name) (map entry_of columns) ≡ None) → lookup (same_name name) (map entry_of (column ∷ columns)) ≡ None
    by true same rest = absurd (true≢false (sym (ap (λ b. is_some (option_map (λ c. c.column_type) (cond b (Some column) (find (λ c. same_name name c.name) columns)))) same) ∙ absent))
    by false other rest = ap (λ b. cond b (Some (kind_of column.column_type)) (lookup (same_name name) (map entry_of columns))) other ∙ rest other

-- a new key goes last
pub insert_entry-absent : {V : Type 0} (es : List (List ℕ × V)) (name : List ℕ) (v : V) → lookup (same_name name) es ≡ None → insert_entry same_name es name v ≡ es ++ (name, v) ∷ []
insert_entry-absent [] name v absent = refl
insert_entry-absent (e ∷ es) name v absent = grind (arith, absent, insert_entry-absent es name v)

unused_before : (columns : List Column) (column : Column) → first_failing (column_checks columns column) ≡ None → is_declared columns column.name ≡ false
unfolding column_checks
unused_before columns column none = grind (arith, none)

-- one more column, whose name is new
pub columns_next : (xs : List Column) (i : ℕ) (x : Column) → i < length xs → x ≡ get_or xs i x → first_failing (each column_checks xs) ≡ None → insert_entry same_name (map entry_of (take i xs)) x.name (kind_of x.column_type) ≡ map entry_of (take (i + 1) xs)
columns_next xs i x h is none =
    insert_entry-absent (map entry_of (take i xs)) x.name (kind_of x.column_type) (lookup-absent (take i xs) x.name (unused_before (take i xs) x (none_of_each column_checks xs i x h is none)))
    ∙ sym (map-append entry_of (take i xs) (x ∷ [])) ∙ ap (map entry_of) (ap (λ y. take i xs ++ y ∷ []) is ∙ sym (take-suc xs i x h) ∙ ap (λ k. take k xs) (sym (add-one i)))

-- ---- places

pub numbers_below_with : (n : ℕ) (passes : ℕ → Bool) → passes n ≡ true → numbers_below (n + 1) passes ≡ numbers_below n passes ++ n ∷ []
numbers_below_with n passes is = rw (add-one, is) refl

pub numbers_below_without : (n : ℕ) (passes : ℕ → Bool) → passes n ≡ false → numbers_below (n + 1) passes ≡ numbers_below n passes
numbers_below_without n passes is = rw (add-one, is) (append-nil (numbers_below n passes))

-- ---- tables

pub keys_of_entries : (columns : List Column) → map (λ e. e.0) (map entry_of columns) ≡ names_of columns
keys_of_entries [] = refl
keys_of_entries (column ∷ columns) = ap (λ names. column.name ∷ names) (keys_of_entries columns)

-- a table of these parts is the one that the statement makes
module _ (earlier : List (List ℕ)) (t : CreateTable) (declared : List Column) (key_names : List (List ℕ)) (keys : List ForeignKey) (count : ℕ) (key_places : List ℕ)
    (columns : List (List ℕ × Kind)) (period : List ℕ) (start end system_start system_end : ℕ) (key values : List ℕ) (references : List ReferenceShape) where
  pub shape_is : declared ≡ t.columns.items → key_names ≡ t.key.columns.items → keys ≡ t.foreign_keys.items → count ≡ length t.columns.items → key_places ≡ key
      → columns ≡ map entry_of declared → period ≡ t.application_period.name
      → start ≡ place (map (λ e. e.0) columns) t.application_period.start → end ≡ place (map (λ e. e.0) columns) t.application_period.end
      → system_start ≡ place (map (λ e. e.0) columns) t.system_period.start → system_end ≡ place (map (λ e. e.0) columns) t.system_period.end
      → key ≡ map (place (map (λ e. e.0) columns)) key_names
      → values ≡ numbers_below count (λ c. not (is_one_of (start ∷ end ∷ system_start ∷ system_end ∷ []) c || is_one_of key_places c))
      → references ≡ map (reference_of earlier (map (λ e. e.0) columns)) keys
      → record { columns = columns; period = period; start = start; end = end; system_start = system_start; system_end = system_end; key = key; values = values; references = references } ≡ shape_of earlier t
  unfolding shape_of
  shape_is d kn ks n kp c p s e ss se k v r = rw (r, v, kp, k, s, e, ss, se, p, c, d, kn, ks, n, keys_of_entries) refl

pub keys-tables_after : (earlier : List (List ℕ)) (tables : List CreateTable) → map (λ e. e.0) (tables_after earlier tables) ≡ table_names tables
keys-tables_after earlier [] = refl
keys-tables_after earlier (table ∷ tables) = ap (λ names. table.name ∷ names) (keys-tables_after (earlier ++ table.name ∷ []) tables)

tables_after-push : (earlier : List (List ℕ)) (tables : List CreateTable) (table : CreateTable) → tables_after earlier (tables ++ table ∷ []) ≡ tables_after earlier tables ++ (table.name, shape_of (earlier ++ table_names tables) table) ∷ []
tables_after-push earlier [] table = ap (λ names. (table.name, shape_of names table) ∷ []) (sym (append-nil earlier))
tables_after-push earlier (first ∷ tables) table =
    ap (λ rest. (first.name, shape_of earlier first) ∷ rest)
    (tables_after-push (earlier ++ first.name ∷ []) tables table
    ∙ ap (λ names. tables_after (earlier ++ first.name ∷ []) tables ++ (table.name, shape_of names table) ∷ []) (append_assoc earlier (first.name ∷ []) (table_names tables)))

lookup-no_table : (earlier : List (List ℕ)) (tables : List CreateTable) (name : List ℕ) → is_some (table_named tables name) ≡ false → lookup (same_name name) (tables_after earlier tables) ≡ None
lookup-no_table earlier [] name absent = refl
lookup-no_table earlier (table ∷ tables) name absent = by (same_name name table.name) refl (λ other. lookup-no_table (earlier ++ table.name ∷ []) tables name (sym (ap (λ b. is_some (cond b (Some table) (table_named tables name))) other) ∙ absent))
  where
    by : (b : Bool) → same_name name table.name ≡ b → (same_name name table.name ≡ false → lookup (same_name name) (tables_after (earlier ++ table.name ∷ []) tables) ≡ None) → lookup (same_name name) (tables_after earlier (table ∷ tables)) ≡ None
    by true same rest = absurd (true≢false (sym (ap (λ b. is_some (cond b (Some table) (table_named tables name))) same) ∙ absent))
    by false other rest = ap (λ b. cond b (Some (shape_of earlier table)) (lookup (same_name name) (tables_after (earlier ++ table.name ∷ []) tables))) other ∙ rest other

-- ---- what it is to have passed

-- no check of any part of a table fails
pub record PartsPass (earlier : List CreateTable) (table : CreateTable) : Type 0 where
  pub heading : first_failing (name_and_size_checks earlier table) ≡ None
  pub columns : first_failing (each column_checks table.columns.items) ≡ None
  pub application_period : first_failing (application_period_checks table) ≡ None
  pub system_period : first_failing (system_period_checks table) ≡ None
  pub key : first_failing (key_checks table) ≡ None
  pub foreign_keys : first_failing (each (foreign_key_checks earlier table) table.foreign_keys.items) ≡ None

pub parts_pass : (earlier : List CreateTable) (table : CreateTable) → first_failing (table_checks earlier table) ≡ None → PartsPass earlier table
parts_pass earlier table none =
    let heading = name_and_size_checks earlier table in
    let columns = each column_checks table.columns.items in
    let application = application_period_checks table in
    let system = system_period_checks table in
    let key = key_checks table in
    let keys = each (foreign_key_checks earlier table) table.foreign_keys.items in
    let to_key = none_before (heading ++ columns ++ application ++ system ++ key) keys none in
    let to_system = none_before (heading ++ columns ++ application ++ system) key to_key in
    let to_application = none_before (heading ++ columns ++ application) system to_system in
    let to_columns = none_before (heading ++ columns) application to_application in
    record {
      heading = none_before heading columns to_columns;
      columns = none_behind heading columns to_columns;
      application_period = none_behind (heading ++ columns) application to_application;
      system_period = none_behind (heading ++ columns ++ application) system to_system;
      key = none_behind (heading ++ columns ++ application ++ system) key to_key;
      foreign_keys = none_behind (heading ++ columns ++ application ++ system ++ key) keys none;
    }

pub tables_pass : (tables : List CreateTable) → first_failing (schema_checks tables) ≡ None → first_failing (each table_checks tables) ≡ None
tables_pass tables none = grind (arith, none)

unused_name : (earlier : List CreateTable) (table : CreateTable) → first_failing (name_and_size_checks earlier table) ≡ None → is_some (table_named earlier table.name) ≡ false
unfolding name_and_size_checks
unused_name earlier table none = grind (arith, none)

module _ (tables : List CreateTable) (i : ℕ) (table : CreateTable) (h : i < length tables) (is : table ≡ get_or tables i table) (none : first_failing (schema_checks tables) ≡ None) where
  pub next_passes : PartsPass (take i tables) table
  next_passes = parts_pass (take i tables) table (none_of_each table_checks tables i table h is (tables_pass tables none))

  -- one more table, whose name is new
  pub tables_next : (entries : List (List ℕ × TableShape)) (made : TableShape) → entries ≡ schema_of (take i tables) → made ≡ shape_of (map (λ e. e.0) entries) table → insert_entry same_name entries table.name made ≡ schema_of (take (i + 1) tables)
  tables_next entries made before is_made =
      ap (λ es. insert_entry same_name es table.name made) before
      ∙ insert_entry-absent (schema_of (take i tables)) table.name made (lookup-no_table [] (take i tables) table.name (unused_name (take i tables) table next_passes.heading))
      ∙ ap (λ t. schema_of (take i tables) ++ (table.name, t) ∷ []) (is_made ∙ ap (λ names. shape_of names table) (ap (λ es. map (λ e. e.0) es) before ∙ keys-tables_after [] (take i tables)))
      ∙ sym (tables_after-push [] (take i tables) table)
      ∙ ap schema_of (ap (λ t. take i tables ++ t ∷ []) is ∙ sym (take-suc tables i table h) ∙ ap (λ k. take k tables) (sym (add-one i)))
