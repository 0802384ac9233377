-- Where no check fails, the tables are sound.
use Rattle.std.proofs.Common.{◌≡◌, ℕ, zero, suc, ◌+◌, ◌<◌, ◌≤◌, Bool, true, false, not, List, [], ◌∷◌, ◌++◌, length, map, slice_get, All, Option, Some, None, is_some, find, true≢false, refl, sym, ◌∙◌, ap, subst, if◌then◌else◌, cond, arith, add-zero, zero-add, length-append, append_assoc, unwrap_or}
use Rattle.std.proofs.lemmas.List.{length-map, map-append, get_or_append_left}
use Rattle.std.proofs.lemmas.List.Folds.{find_at}
use Rattle.std.proofs.lemmas.List.Elements.{All-from_recursion, All-append, All-nil}
use Rattle.std.proofs.lemmas.Option.{slice_get-map, slice_get_within, slice_get-get_or, get_or_from_slice_get}
use Rattle.std.proofs.lemmas.Bool.{lt-ltb}
use Rattle.std.specs.List.{position_or_len, AllByRecursion}
use Rattle.std.specs.Option.{option_map, option_map_or}
use Rattle.schema.specs.declared.syntax.ColumnType.{ColumnType}
use Rattle.schema.specs.declared.syntax.ColumnType.TheVariants as written
use Rattle.schema.specs.declared.syntax.Column.{Column}
use Rattle.schema.specs.declared.syntax.ForeignKey.{ForeignKey}
use Rattle.schema.specs.declared.syntax.KeyNames.{KeyNames}
use Rattle.schema.specs.declared.syntax.CreateTable.{CreateTable}
use Rattle.schema.specs.declared.table.Kind.{Kind}
use Rattle.schema.specs.declared.table.Kind.TheVariants.{Date, SystemStart, SystemEnd}
use Rattle.schema.specs.Name.{same_name}
use Rattle.schema.specs.Shape.{TableShape, ReferenceShape}
use Rattle.schema.specs.Checks.{first_failing, each_after, each}
use Rattle.schema.specs.Rules.{is_declared, has_type, same_type, application_period_checks, system_period_checks, key_name_checks, key_names_checks, key_checks, parent_checks, reference_checks, foreign_key_checks, table_named, table_checks, schema_checks}
use Rattle.schema.specs.Tables.{place, kind_of, entry_of, numbers_below, names_of, table_names, reference_of, shape_of, tables_after, schema_of}
use Rattle.schema.specs.Sound.{IsColumn, IsSound, AreSound}
use Rattle.schema.proofs.Built.{none_before, none_behind, PartsPass, parts_pass, tables_pass}

-- ---- places

position_or_len-map : {A : Type 0} (f : A → List ℕ) (p : List ℕ → Bool) (xs : List A) → position_or_len p (map f xs) ≡ position_or_len (λ x. p (f x)) xs
position_or_len-map f p [] = refl
position_or_len-map f p (x ∷ xs) = ap (λ n. cond (not (p (f x))) (1 + n) 0) (position_or_len-map f p xs)

-- the place of a name that is found is that of the first that has it
module _ {A : Type 0} (f : A → List ℕ) (xs : List A) (name : List ℕ) where
  place_is : position_or_len (λ x. same_name name (f x)) xs < length xs → place (map f xs) name ≡ position_or_len (λ x. same_name name (f x)) xs
  place_is h =
      let at = position_or_len-map f (same_name name) xs in
      let within : position_or_len (same_name name) (map f xs) < length (map f xs) = rw (at, length-map xs f) h in
      ap (λ b. unwrap_or (cond b (Some (position_or_len (same_name name) (map f xs))) None) (length (map f xs))) (lt-ltb (position_or_len (same_name name) (map f xs)) (length (map f xs)) within) ∙ at

  pub slice_get-place : (x : A) → find (λ y. same_name name (f y)) xs ≡ Some x → slice_get xs (place (map f xs) name) ≡ Some x
  slice_get-place x found =
      let at : slice_get xs (position_or_len (λ y. same_name name (f y)) xs) ≡ Some x = sym (find_at (λ y. same_name name (f y)) xs) ∙ found in
      ap (slice_get xs) (place_is (slice_get_within xs (position_or_len (λ y. same_name name (f y)) xs) x at)) ∙ at

  pub place_within : is_some (find (λ y. same_name name (f y)) xs) ≡ true → place (map f xs) name < length xs
  place_within h = by (find (λ y. same_name name (f y)) xs) refl
    where
      by : (o : Option A) → find (λ y. same_name name (f y)) xs ≡ o → place (map f xs) name < length xs
      by None none = absurd (true≢false (sym h ∙ ap is_some none))
      by (Some x) some = slice_get_within xs (place (map f xs) name) x (slice_get-place x some)

-- ---- columns

is_some-option_map : {A B : Type 0} (f : A → B) (o : Option A) → is_some (option_map f o) ≡ is_some o
is_some-option_map f None = refl
is_some-option_map f (Some x) = refl

declared_within : (columns : List Column) (name : List ℕ) → is_declared columns name ≡ true → place (names_of columns) name < length columns
declared_within columns name h = place_within (λ c. c.name) columns name (sym (is_some-option_map (λ c. c.column_type) (find (λ c. same_name name c.name) columns)) ∙ h)

-- the kinds of columns that carry no length
data IsPlain : ColumnType → Kind → Type 0 where
  date : IsPlain written.Date Date
  row_start : IsPlain written.RowStart SystemStart
  row_end : IsPlain written.RowEnd SystemEnd

plain_kind : (wanted : ColumnType) (kind : Kind) → IsPlain wanted kind → (t : ColumnType) → same_type t wanted ≡ true → kind_of t ≡ kind
plain_kind _ _ date written.Integer h = absurd (true≢false (sym h))
plain_kind _ _ date (written.Varchar n) h = absurd (true≢false (sym h))
plain_kind _ _ date written.Date h = refl
plain_kind _ _ date written.RowStart h = absurd (true≢false (sym h))
plain_kind _ _ date written.RowEnd h = absurd (true≢false (sym h))
plain_kind _ _ row_start written.Integer h = absurd (true≢false (sym h))
plain_kind _ _ row_start (written.Varchar n) h = absurd (true≢false (sym h))
plain_kind _ _ row_start written.Date h = absurd (true≢false (sym h))
plain_kind _ _ row_start written.RowStart h = refl
plain_kind _ _ row_start written.RowEnd h = absurd (true≢false (sym h))
plain_kind _ _ row_end written.Integer h = absurd (true≢false (sym h))
plain_kind _ _ row_end (written.Varchar n) h = absurd (true≢false (sym h))
plain_kind _ _ row_end written.Date h = absurd (true≢false (sym h))
plain_kind _ _ row_end written.RowStart h = absurd (true≢false (sym h))
plain_kind _ _ row_end written.RowEnd h = refl

-- a column that has a type stands at the place of its name
module _ (columns : List Column) (name : List ℕ) (wanted : ColumnType) (kind : Kind) (plain : IsPlain wanted kind) (h : has_type columns name wanted ≡ true) where
  typed_within : place (names_of columns) name < length columns
  typed_within = by (find (λ c. same_name name c.name) columns) refl
    where
      by : (o : Option Column) → find (λ c. same_name name c.name) columns ≡ o → place (names_of columns) name < length columns
      by None none = absurd (true≢false (sym h ∙ ap (λ o. option_map_or (λ t. same_type t wanted) (option_map (λ c. c.column_type) o) false) none))
      by (Some c) some = slice_get_within columns (place (names_of columns) name) c (slice_get-place (λ c. c.name) columns name c some)

  typed_kind : option_map (λ c. c.1) (slice_get (map entry_of columns) (place (names_of columns) name)) ≡ Some kind
  typed_kind = by (find (λ c. same_name name c.name) columns) refl
    where
      by : (o : Option Column) → find (λ c. same_name name c.name) columns ≡ o → option_map (λ c. c.1) (slice_get (map entry_of columns) (place (names_of columns) name)) ≡ Some kind
      by None none = absurd (true≢false (sym h ∙ ap (λ o. option_map_or (λ t. same_type t wanted) (option_map (λ c. c.column_type) o) false) none))
      by (Some c) some =
          ap (option_map (λ c. c.1)) (slice_get-map entry_of columns (place (names_of columns) name) ∙ ap (option_map entry_of) (slice_get-place (λ c. c.name) columns name c some))
          ∙ ap Some (plain_kind wanted kind plain c.column_type (sym (ap (λ o. option_map_or (λ t. same_type t wanted) (option_map (λ c. c.column_type) o) false) some) ∙ h))

-- ---- periods

application_start : (t : CreateTable) → first_failing (application_period_checks t) ≡ None → has_type t.columns.items t.application_period.start written.Date ≡ true
unfolding application_period_checks
application_start t none = grind (arith, none)

application_end : (t : CreateTable) → first_failing (application_period_checks t) ≡ None → has_type t.columns.items t.application_period.end written.Date ≡ true
unfolding application_period_checks
application_end t none = grind (arith, none)

system_start_type : (t : CreateTable) → first_failing (system_period_checks t) ≡ None → has_type t.columns.items t.system_period.start written.RowStart ≡ true
unfolding system_period_checks
system_start_type t none = grind (arith, none)

system_end_type : (t : CreateTable) → first_failing (system_period_checks t) ≡ None → has_type t.columns.items t.system_period.end written.RowEnd ≡ true
unfolding system_period_checks
system_end_type t none = grind (arith, none)

-- ---- keys

declared_name : (t : CreateTable) (before : List (List ℕ)) (name : List ℕ) → first_failing (key_name_checks t before name) ≡ None → is_declared t.columns.items name ≡ true
unfolding key_name_checks
declared_name t before name none = grind (arith, none)

names_within : (t : CreateTable) (before names : List (List ℕ)) → first_failing (each_after before (key_name_checks t) names) ≡ None → AllByRecursion (λ c. c < length t.columns.items) (map (place (names_of t.columns.items)) names)
names_within t before [] none = tt
names_within t before (name ∷ names) none = (
  declared_within t.columns.items name (declared_name t before name (none_before (key_name_checks t before name) (each_after (before ++ name ∷ []) (key_name_checks t) names) none)),
  names_within t (before ++ name ∷ []) names (none_behind (key_name_checks t before name) (each_after (before ++ name ∷ []) (key_name_checks t) names) none),
)

key_names_within : (t : CreateTable) (names : KeyNames) → first_failing (key_names_checks t names) ≡ None → All (λ c. c < length t.columns.items) (map (place (names_of t.columns.items)) names.columns.items)
unfolding key_names_checks
key_names_within t names none = All-from_recursion (λ c. c < length t.columns.items) (map (place (names_of t.columns.items)) names.columns.items) (names_within t [] names.columns.items (none_before (each (key_name_checks t) names.columns.items) _ none))

key_passes : (t : CreateTable) → first_failing (key_checks t) ≡ None → first_failing (key_names_checks t t.key) ≡ None
unfolding key_checks
key_passes t none = grind (arith, none)

-- ---- value columns

numbers_within : (n k : ℕ) (passes : ℕ → Bool) → n ≤ k → All (λ c. c < k) (numbers_below n passes)
numbers_within zero k passes h = All-nil (λ c. c < k)
numbers_within (suc n) k passes h = All-append (λ c. c < k) (numbers_below n passes) (if passes n then n ∷ [] else []) (numbers_within n k passes (omega arith)) (by (passes n))
  where
    by : (b : Bool) → All (λ c. c < k) (if b then n ∷ [] else [])
    by true = All-from_recursion (λ c. c < k) (n ∷ []) (omega arith, tt)
    by false = All-nil (λ c. c < k)

-- ---- foreign keys

module _ (earlier : List CreateTable) (t : CreateTable) where
  reference_passes : (before : List ForeignKey) (key : ForeignKey) → first_failing (foreign_key_checks earlier t before key) ≡ None → first_failing (reference_checks earlier t key) ≡ None
  unfolding foreign_key_checks
  reference_passes before key none = grind (arith, none)

  parent_is : (key : ForeignKey) (found : Option CreateTable) → first_failing (parent_checks t key found) ≡ None → is_some found ≡ true
  unfolding parent_checks
  parent_is key None none = cc
  parent_is key (Some parent) none = refl

  parent_within : (key : ForeignKey) → first_failing (reference_checks earlier t key) ≡ None → place (table_names earlier) key.parent < length earlier
  parent_within key none = place_within (λ t. t.name) earlier key.parent (parent_is key (table_named earlier key.parent) (none_behind (key_names_checks t key.names) (parent_checks t key (table_named earlier key.parent)) none))

  parents_within : (before keys : List ForeignKey) → first_failing (each_after before (foreign_key_checks earlier t) keys) ≡ None → AllByRecursion (λ r. r.parent < length earlier) (map (reference_of (table_names earlier) (names_of t.columns.items)) keys)
  parents_within before [] none = tt
  parents_within before (key ∷ keys) none = (
    parent_within key (reference_passes before key (none_before (foreign_key_checks earlier t before key) (each_after (before ++ key ∷ []) (foreign_key_checks earlier t) keys) none)),
    parents_within (before ++ key ∷ []) keys (none_behind (foreign_key_checks earlier t before key) (each_after (before ++ key ∷ []) (foreign_key_checks earlier t) keys) none),
  )

  children_within : (before keys : List ForeignKey) → first_failing (each_after before (foreign_key_checks earlier t) keys) ≡ None → AllByRecursion (λ r. All (λ c. c < length t.columns.items) r.columns) (map (reference_of (table_names earlier) (names_of t.columns.items)) keys)
  children_within before [] none = tt
  children_within before (key ∷ keys) none = (
    key_names_within t key.names (none_before (key_names_checks t key.names) (parent_checks t key (table_named earlier key.parent)) (reference_passes before key (none_before (foreign_key_checks earlier t before key) (each_after (before ++ key ∷ []) (foreign_key_checks earlier t) keys) none))),
    children_within (before ++ key ∷ []) keys (none_behind (foreign_key_checks earlier t before key) (each_after (before ++ key ∷ []) (foreign_key_checks earlier t) keys) none),
  )

-- ---- keys of parents

slice_get-append : {A : Type 0} (xs ys : List A) (i : ℕ) (x : A) → slice_get xs i ≡ Some x → slice_get (xs ++ ys) i ≡ Some x
slice_get-append xs ys i x at =
    let within = slice_get_within xs i x at in
    slice_get-get_or (xs ++ ys) i x (rw (length-append xs ys) (omega (arith, within)))
    ∙ ap Some (get_or_append_left xs ys x i within ∙ get_or_from_slice_get xs i x x at)

key_lengths : (earlier : List (List ℕ)) (tables : List CreateTable) → map (λ e. length e.1.key) (tables_after earlier tables) ≡ map (λ t. length t.key.columns.items) tables
unfolding shape_of
key_lengths earlier [] = refl
key_lengths earlier (t ∷ tables) =
    ap (λ n. n ∷ map (λ e. length e.1.key) (tables_after (earlier ++ t.name ∷ []) tables)) (length-map t.key.columns.items (place (names_of t.columns.items)))
    ∙ ap (λ ns. length t.key.columns.items ∷ ns) (key_lengths (earlier ++ t.name ∷ []) tables)

-- how many columns the key of a table has, by its statement
key_length : (tables : List CreateTable) (i : ℕ) (t : CreateTable) → slice_get tables i ≡ Some t → option_map (λ e. length e.1.key) (slice_get (schema_of tables) i) ≡ Some (length t.key.columns.items)
key_length tables i t at =
    sym (slice_get-map (λ e. length e.1.key) (schema_of tables) i)
    ∙ ap (λ ns. slice_get ns i) (key_lengths [] tables)
    ∙ slice_get-map (λ t. length t.key.columns.items) tables i
    ∙ ap (option_map (λ t. length t.key.columns.items)) at

module _ (earlier rest : List CreateTable) (t : CreateTable) where
  count_is : (key : ForeignKey) (parent : CreateTable) → first_failing (parent_checks t key (Some parent)) ≡ None → length key.names.columns.items ≡ length parent.key.columns.items
  unfolding parent_checks
  count_is key parent none = grind (arith, none)

  count_matches : (key : ForeignKey) → first_failing (reference_checks earlier t key) ≡ None → option_map (λ e. length e.1.key) (slice_get (schema_of (earlier ++ rest)) (place (table_names earlier) key.parent)) ≡ Some (length (map (place (names_of t.columns.items)) key.names.columns.items))
  count_matches key none = by (table_named earlier key.parent) refl
    where
      passes : first_failing (parent_checks t key (table_named earlier key.parent)) ≡ None
      passes = none_behind (key_names_checks t key.names) (parent_checks t key (table_named earlier key.parent)) none

      by : (found : Option CreateTable) → table_named earlier key.parent ≡ found → option_map (λ e. length e.1.key) (slice_get (schema_of (earlier ++ rest)) (place (table_names earlier) key.parent)) ≡ Some (length (map (place (names_of t.columns.items)) key.names.columns.items))
      by None absent = absurd (true≢false (sym (parent_is earlier t key (table_named earlier key.parent) passes) ∙ ap is_some absent))
      by (Some parent) found =
          key_length (earlier ++ rest) (place (table_names earlier) key.parent) parent (slice_get-append earlier rest (place (table_names earlier) key.parent) parent (slice_get-place (λ t. t.name) earlier key.parent parent found))
          ∙ ap Some (sym (length-map key.names.columns.items (place (names_of t.columns.items)) ∙ count_is key parent (subst (λ f. first_failing (parent_checks t key f) ≡ None) found passes)))

  counts_match : (before keys : List ForeignKey) → first_failing (each_after before (foreign_key_checks earlier t) keys) ≡ None → AllByRecursion (λ r. option_map (λ e. length e.1.key) (slice_get (schema_of (earlier ++ rest)) r.parent) ≡ Some (length r.columns)) (map (reference_of (table_names earlier) (names_of t.columns.items)) keys)
  counts_match before [] none = tt
  counts_match before (key ∷ keys) none = (
    count_matches key (reference_passes earlier t before key (none_before (foreign_key_checks earlier t before key) (each_after (before ++ key ∷ []) (foreign_key_checks earlier t) keys) none)),
    counts_match (before ++ key ∷ []) keys (none_behind (foreign_key_checks earlier t before key) (each_after (before ++ key ∷ []) (foreign_key_checks earlier t) keys) none),
  )

-- ---- tables

within_columns : (columns : List Column) (places : List ℕ) → All (λ c. c < length columns) places → All (λ c. c < length (map entry_of columns)) places
within_columns columns places = subst (λ n. All (λ c. c < n) places) (sym (length-map columns entry_of))

all_children : (columns : List Column) (references : List ReferenceShape) → AllByRecursion (λ r. All (λ c. c < length columns) r.columns) references → All (λ r. All (λ c. c < length (map entry_of columns)) r.columns) references
all_children columns references h = subst (λ n. All (λ r. All (λ c. c < n) r.columns) references) (sym (length-map columns entry_of)) (All-from_recursion (λ r. All (λ c. c < length columns) r.columns) references h)

-- a column of a shape, by the statement's columns
column_at : (table : TableShape) (columns : List Column) (at : ℕ) (kind : Kind) → table.columns ≡ map entry_of columns → at < length columns → option_map (λ c. c.1) (slice_get (map entry_of columns) at) ≡ Some kind → IsColumn table at kind
column_at table columns at kind e h k = record { within = rw (e, length-map columns entry_of) h; of_kind = rw e k }

pub sound_table : (earlier rest : List CreateTable) (t : CreateTable) → PartsPass earlier t → IsSound (schema_of (earlier ++ rest)) (length earlier) (shape_of (table_names earlier) t)
unfolding shape_of
sound_table earlier rest t parts =
    let columns = t.columns.items in
    let start = application_start t parts.application_period in
    let end = application_end t parts.application_period in
    let system_start = system_start_type t parts.system_period in
    let system_end = system_end_type t parts.system_period in
    let names = names_of columns in
    let shape = shape_of (table_names earlier) t in
    record {
      start = column_at shape columns (place names t.application_period.start) Date refl (typed_within columns t.application_period.start written.Date Date date start) (typed_kind columns t.application_period.start written.Date Date date start);
      end = column_at shape columns (place names t.application_period.end) Date refl (typed_within columns t.application_period.end written.Date Date date end) (typed_kind columns t.application_period.end written.Date Date date end);
      system_start = column_at shape columns (place names t.system_period.start) SystemStart refl (typed_within columns t.system_period.start written.RowStart SystemStart row_start system_start) (typed_kind columns t.system_period.start written.RowStart SystemStart row_start system_start);
      system_end = column_at shape columns (place names t.system_period.end) SystemEnd refl (typed_within columns t.system_period.end written.RowEnd SystemEnd row_end system_end) (typed_kind columns t.system_period.end written.RowEnd SystemEnd row_end system_end);
      key = within_columns columns (map (place names) t.key.columns.items) (key_names_within t t.key (key_passes t parts.key));
      values = within_columns columns shape.values (numbers_within (length columns) (length columns) _ (omega arith));
      parents = All-from_recursion (λ r. r.parent < length earlier) shape.references (parents_within earlier t [] t.foreign_keys.items parts.foreign_keys);
      children = all_children columns shape.references (children_within earlier t [] t.foreign_keys.items parts.foreign_keys);
      counts = All-from_recursion (λ r. option_map (λ e. length e.1.key) (slice_get (schema_of (earlier ++ rest)) r.parent) ≡ Some (length r.columns)) shape.references (counts_match earlier rest t [] t.foreign_keys.items parts.foreign_keys);
    }

sound_after : (before tables : List CreateTable) → first_failing (each_after before table_checks tables) ≡ None → (i : ℕ) (name : List ℕ) (shape : TableShape) → slice_get (tables_after (table_names before) tables) i ≡ Some (name, shape) → IsSound (schema_of (before ++ tables)) (length before + i) shape
sound_after before [] none i name shape at = absurd (omega (arith, slice_get_within [] i (name, shape) at))
sound_after before (t ∷ tables) none zero name shape at =
    let all = schema_of (before ++ t ∷ tables) in
    subst (λ s. IsSound all (length before + 0) s) (ap (λ (o : Option (List ℕ × TableShape)). (unwrap_or o (t.name, shape)).1) at)
    (subst (λ n. IsSound all n (shape_of (table_names before) t)) (sym (add-zero (length before)))
    (sound_table before (t ∷ tables) t (parts_pass before t (none_before (table_checks before t) (each_after (before ++ t ∷ []) table_checks tables) none))))
sound_after before (t ∷ tables) none (suc i) name shape at =
    subst (λ ts. IsSound (schema_of ts) (length before + suc i) shape) (append_assoc before (t ∷ []) tables)
    (subst (λ n. IsSound (schema_of ((before ++ t ∷ []) ++ tables)) n shape) (rw (length-append before (t ∷ [])) (omega arith))
    (sound_after (before ++ t ∷ []) tables (none_behind (table_checks before t) (each_after (before ++ t ∷ []) table_checks tables) none) i name shape
    (ap (λ names. slice_get (tables_after names tables) i) (map-append (λ t. t.name) before (t ∷ [])) ∙ at)))

pub sound_schema : (tables : List CreateTable) → first_failing (schema_checks tables) ≡ None → AreSound (schema_of tables)
sound_schema tables none i name table at = subst (λ n. IsSound (schema_of tables) n table) (zero-add i) (sound_after [] tables (tables_pass tables none) i name table at)
