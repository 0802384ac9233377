-- Tables are checked for the same in both words, and make the same.
use Rattle.std.proofs.Common.{◌≡◌, ℕ, zero, suc, ◌+◌, ◌≤◌, Bool, true, false, cond, not, nat_lt, List, [], ◌∷◌, ◌++◌, length, map, Option, Some, None, Result, Ok, Err, refl, sym, ap, subst, ◌∙◌, append-nil, append_assoc, arith}
use Rattle.std.specs.Prelude.{◌&&◌, ◌||◌, ◌==◌, nat_le, min, find, filter, fold, position, unwrap_or, count_by, ok_or, is_some}
use Rattle.std.specs.List.{list_any, list_all, prefix_len, range_with_len, zip}
use Rattle.std.specs.Option.{option_map, option_map_or}
use Rattle.std.specs.Str.Parse.{digits_value}
use Rattle.std.specs.Cmp.Lexicographic.{pointwise}
use Rattle.std.proofs.lemmas.Bool.{ltb-false, lt-leb}
use Rattle.std.proofs.lemmas.List.{map-append}
use Rattle.std.proofs.lemmas.List.Elements.{filter-append}
use Rattle.fault.specs.declared.refusal.Refusal.{Refusal}
use Rattle.fault.specs.declared.refusal.Refusal.TheVariants.{TooLarge, BadSchema, UnknownTable, UnknownColumn, WrongType}
use Rattle.schema.specs.declared.syntax.ColumnType.{ColumnType as TypeSaid}
use Rattle.schema.specs.declared.syntax.ColumnType.TheVariants as types
use Rattle.schema.specs.declared.syntax.Column.{Column}
use Rattle.schema.specs.declared.syntax.ApplicationPeriod.{ApplicationPeriod}
use Rattle.schema.specs.declared.syntax.SystemPeriod.{SystemPeriod}
use Rattle.schema.specs.declared.syntax.KeyNames.{KeyNames as NamesSaid}
use Rattle.schema.specs.declared.syntax.ForeignKey.{ForeignKey as KeySaid}
use Rattle.schema.specs.declared.syntax.CreateTable.{CreateTable}
use Rattle.schema.specs.Name.{same_name}
use Rattle.schema.specs.Checks.{Check, ◌when◌, first_failing}
use Rattle.schema.specs.Checks as before
use Rattle.schema.specs.Rules as rules
use Rattle.schema.specs.Shape.{TableShape, ReferenceShape}
use Rattle.schema.specs.declared.table.Kind.TheVariants as kind
use Rattle.schema.specs.Tables as made
use Rattle.namesyntax.specs.Names.{Bytes}
use Rattle.sqlchecks.specs.Columns.{Tables}
use Rattle.sqlchecks.specs.Literals.{unsigned}
use Rattle.schemaread.specs.Schemas.{Makes}
use Rattle.believed.specs.Results.{◌>>=◌, ◌>>◌, refuse_if, fold_ok, each_after}
use Rattle.believedsql.specs.Forms.{ColumnType, Integer, Varchar, Date, RowStart, RowEnd, KeyNames, ForeignKey, Table}
use Rattle.believedsql.specs.Schemas as now

-- ---- what a list of checks comes to

abbrev ok_if : Option Refusal → Result (Unit {0}) Refusal
ok_if None = Ok tt
ok_if (Some refusal) = Err refusal

abbrev verdict : List Check → Result (Unit {0}) Refusal
verdict checks = ok_if (first_failing checks)

first_is : {B : Type 0} (refusal : Refusal) (b : Bool) (checks : List Check) (x : Result B Refusal) → (verdict ((refusal when b) ∷ checks) >> x) ≡ (refuse_if b refusal >> (verdict checks >> x))
first_is refusal true checks x = refl
first_is refusal false checks x = refl

both_are : {B : Type 0} (xs ys : List Check) (x : Result B Refusal) → (verdict (xs ++ ys) >> x) ≡ (verdict xs >> (verdict ys >> x))
both_are [] ys x = refl
both_are (c ∷ xs) ys x = by c.fails (both_are xs ys x) where
  by : (b : Bool) → (verdict (xs ++ ys) >> x) ≡ (verdict xs >> (verdict ys >> x)) →
      (ok_if (cond b (Some c.refusal) (first_failing (xs ++ ys))) >> x) ≡ (ok_if (cond b (Some c.refusal) (first_failing xs)) >> (verdict ys >> x))
  by true h = refl
  by false h = h

-- ---- lists of which each element stands so to the other's at its place

abbrev pub Pointwise : {A B : Type 0} → (A → B → Type 0) → List A → List B → Type 0
Pointwise R [] [] = Unit {0}
Pointwise R [] (y ∷ ys) = ⊥
Pointwise R (x ∷ xs) [] = ⊥
Pointwise R (x ∷ xs) (y ∷ ys) = R x y × Pointwise R xs ys

push_one : {A B : Type 0} (R : A → B → Type 0) (xs : List A) (ys : List B) (x : A) (y : B) → Pointwise R xs ys → R x y → Pointwise R (xs ++ x ∷ []) (ys ++ y ∷ [])
push_one R [] [] x y p r = (r, tt)
push_one R [] (b ∷ bs) x y p r = absurd p
push_one R (a ∷ as') [] x y p r = absurd p
push_one R (a ∷ as') (b ∷ bs) x y p r = (p.0, push_one R as' bs x y p.1 r)

as_long : {A B : Type 0} (R : A → B → Type 0) (xs : List A) (ys : List B) → Pointwise R xs ys → length xs ≡ length ys
as_long R [] [] p = refl
as_long R [] (b ∷ bs) p = absurd p
as_long R (a ∷ as') [] p = absurd p
as_long R (a ∷ as') (b ∷ bs) p = ap (λ n. suc n) (as_long R as' bs p.1)

all_same : {A : Type 0} (xs : List A) → Pointwise (λ x y. x ≡ y) xs xs
all_same [] = tt
all_same (x ∷ xs) = (refl, all_same xs)

-- each in turn is checked so, after those before it
each_checked : {A B : Type 0} (R : A → B → Type 0) (checks : List A → A → List Check) (f : List B → B → Result B Refusal) →
    ((as' : List A) (bs : List B) (x : A) (y : B) → Pointwise R as' bs → R x y → f bs y ≡ (verdict (checks as' x) >> Ok y)) →
    (earlier : List A) (done : List B) (xs : List A) (ys : List B) → Pointwise R earlier done → Pointwise R xs ys →
    fold_ok (λ done y. f done y >>= λ z. Ok (done ++ z ∷ [])) done ys ≡ (verdict (before.each_after earlier checks xs) >> Ok (done ++ ys))
each_checked R checks f h earlier done [] [] p q = ap Ok (sym (append-nil done))
each_checked R checks f h earlier done [] (y ∷ ys) p q = absurd q
each_checked R checks f h earlier done (x ∷ xs) [] p q = absurd q
each_checked R checks f h earlier done (x ∷ xs) (y ∷ ys) p q =
    ap (λ r. (r >>= λ z. Ok (done ++ z ∷ [])) >>= λ next. fold_ok (λ done y. f done y >>= λ z. Ok (done ++ z ∷ [])) next ys) (h earlier done x y p q.0)
    ∙ by (verdict (checks earlier x)) (each_checked R checks f h (earlier ++ x ∷ []) (done ++ y ∷ []) xs ys (push_one R earlier done x y p q.0) q.1
    ∙ ap (λ l. verdict (before.each_after (earlier ++ x ∷ []) checks xs) >> Ok l) (append_assoc done (y ∷ []) ys))
    ∙ sym (both_are (checks earlier x) (before.each_after (earlier ++ x ∷ []) checks xs) (Ok (done ++ y ∷ ys)))
  where
    by : (v : Result (Unit {0}) Refusal) →
        fold_ok (λ done y. f done y >>= λ z. Ok (done ++ z ∷ [])) (done ++ y ∷ []) ys ≡ (verdict (before.each_after (earlier ++ x ∷ []) checks xs) >> Ok (done ++ y ∷ ys)) →
        (((v >> Ok y) >>= λ z. Ok (done ++ z ∷ [])) >>= λ next. fold_ok (λ done y. f done y >>= λ z. Ok (done ++ z ∷ [])) next ys)
        ≡ (v >> (verdict (before.each_after (earlier ++ x ∷ []) checks xs) >> Ok (done ++ y ∷ ys)))
    by (Ok u) k = k
    by (Err e) k = refl

all_checked : {A B C : Type 0} (R : A → B → Type 0) (checks : List A → A → List Check) (f : List B → B → Result B Refusal) →
    ((as' : List A) (bs : List B) (x : A) (y : B) → Pointwise R as' bs → R x y → f bs y ≡ (verdict (checks as' x) >> Ok y)) →
    (xs : List A) (ys : List B) → Pointwise R xs ys → (g : List B → Result C Refusal) → (each_after f ys >>= g) ≡ (verdict (before.each checks xs) >> g ys)
all_checked R checks f h xs ys q g = ap (λ r. r >>= g) (each_checked R checks f h [] [] xs ys tt q) ∙ by (verdict (before.each checks xs)) where
  by : (v : Result (Unit {0}) Refusal) → ((v >> Ok ys) >>= g) ≡ (v >> g ys)
  by (Ok u) = refl
  by (Err e) = refl

-- ---- types

abbrev pub told : ColumnType → TypeSaid
told Integer = types.Integer
told (Varchar digits) = types.Varchar (unsigned (digits_value 10 digits))
told Date = types.Date
told RowStart = types.RowStart
told RowEnd = types.RowEnd

type_same : (a b : ColumnType) → rules.same_type (told a) (told b) ≡ now.same_type a b
type_same Integer Integer = refl
type_same Integer (Varchar n) = refl
type_same Integer Date = refl
type_same Integer RowStart = refl
type_same Integer RowEnd = refl
type_same (Varchar n) Integer = refl
type_same (Varchar n) (Varchar m) = refl
type_same (Varchar n) Date = refl
type_same (Varchar n) RowStart = refl
type_same (Varchar n) RowEnd = refl
type_same Date Integer = refl
type_same Date (Varchar n) = refl
type_same Date Date = refl
type_same Date RowStart = refl
type_same Date RowEnd = refl
type_same RowStart Integer = refl
type_same RowStart (Varchar n) = refl
type_same RowStart Date = refl
type_same RowStart RowStart = refl
type_same RowStart RowEnd = refl
type_same RowEnd Integer = refl
type_same RowEnd (Varchar n) = refl
type_same RowEnd Date = refl
type_same RowEnd RowStart = refl
type_same RowEnd RowEnd = refl

is_date : (a : ColumnType) → rules.same_type (told a) types.Date ≡ now.same_type Date a
is_date Integer = refl
is_date (Varchar n) = refl
is_date Date = refl
is_date RowStart = refl
is_date RowEnd = refl

is_start : (a : ColumnType) → rules.same_type (told a) types.RowStart ≡ now.same_type RowStart a
is_start Integer = refl
is_start (Varchar n) = refl
is_start Date = refl
is_start RowStart = refl
is_start RowEnd = refl

is_end : (a : ColumnType) → rules.same_type (told a) types.RowEnd ≡ now.same_type RowEnd a
is_end Integer = refl
is_end (Varchar n) = refl
is_end Date = refl
is_end RowStart = refl
is_end RowEnd = refl

-- a number above 64 bits is above 255
too_long : (n : ℕ) → 18_446_744_073_709_551_616 ≤ n → nat_le n 255 ≡ false
too_long n h = lt-leb n 255 (omega (arith, h))

none_passes : (b : Bool) → not (b && false) ≡ true
none_passes true = refl
none_passes false = refl

varchar_same : (n : ℕ) → rules.has_wrong_length (types.Varchar (unsigned n)) ≡ not (nat_le 1 n && nat_le n 255)
unfolding unsigned
varchar_same n = by (nat_lt n 18_446_744_073_709_551_616) refl where
  by : (b : Bool) → nat_lt n 18_446_744_073_709_551_616 ≡ b → rules.has_wrong_length (types.Varchar (cond b (Some n) None)) ≡ not (nat_le 1 n && nat_le n 255)
  by true e = refl
  by false e = sym (ap (λ b. not (nat_le 1 n && b)) (too_long n (ltb-false n 18_446_744_073_709_551_616 e)) ∙ none_passes (nat_le 1 n))

at_most : (n : ℕ) → min (unwrap_or (unsigned n) 255) 255 ≡ min n 255
unfolding unsigned
at_most n = by (nat_lt n 18_446_744_073_709_551_616) refl where
  by : (b : Bool) → nat_lt n 18_446_744_073_709_551_616 ≡ b → min (unwrap_or (cond b (Some n) None) 255) 255 ≡ min n 255
  by true e = refl
  by false e = let h = ltb-false n 18_446_744_073_709_551_616 e in omega (arith, h)

kind_same : (a : ColumnType) → made.kind_of (told a) ≡ now.kind_of a
kind_same Integer = refl
kind_same (Varchar digits) = ap kind.Varchar (at_most (digits_value 10 digits))
kind_same Date = refl
kind_same RowStart = refl
kind_same RowEnd = refl

-- ---- columns

abbrev pub column_made : Bytes × ColumnType → Column
column_made c = record { name = c.0; column_type = told c.1 }

as_many : (ds : List (Bytes × ColumnType)) → length (map column_made ds) ≡ length ds
as_many [] = refl
as_many (d ∷ ds) = ap (λ n. suc n) (as_many ds)

declared_same : (ds : List (Bytes × ColumnType)) (name : Bytes) → rules.is_declared (map column_made ds) name ≡ now.is_declared ds name
declared_same [] name = refl
declared_same (d ∷ ds) name = by (same_name name d.0) (declared_same ds name) where
  by : (b : Bool) → rules.is_declared (map column_made ds) name ≡ now.is_declared ds name → is_some (option_map (λ (c : Column). c.column_type) (cond b (Some (column_made d)) (find (λ (c : Column). same_name name c.name) (map column_made ds)))) ≡ (b || now.is_declared ds name)
  by true h = refl
  by false h = h

found_same : (ds : List (Bytes × ColumnType)) (name : Bytes) → rules.type_of (map column_made ds) name ≡ option_map (λ (c : Bytes × ColumnType). told c.1) (find (λ (c : Bytes × ColumnType). same_name name c.0) ds)
found_same [] name = refl
found_same (d ∷ ds) name = by (same_name name d.0) (found_same ds name) where
  by : (b : Bool) → rules.type_of (map column_made ds) name ≡ option_map (λ (c : Bytes × ColumnType). told c.1) (find (λ (c : Bytes × ColumnType). same_name name c.0) ds) → option_map (λ (c : Column). c.column_type) (cond b (Some (column_made d)) (find (λ (c : Column). same_name name c.name) (map column_made ds)))
      ≡ option_map (λ (c : Bytes × ColumnType). told c.1) (cond b (Some d) (find (λ (c : Bytes × ColumnType). same_name name c.0) ds))
  by true h = refl
  by false h = h

module _ (wanted : TypeSaid) (passes : ColumnType → Bool) (h : (a : ColumnType) → rules.same_type (told a) wanted ≡ passes a) where
  has_same : (ds : List (Bytes × ColumnType)) (name : Bytes) → rules.has_type (map column_made ds) name wanted ≡ now.has_type ds name passes
  has_same [] name = refl
  has_same (d ∷ ds) name = by (same_name name d.0) (has_same ds name) where
    by : (b : Bool) → rules.has_type (map column_made ds) name wanted ≡ now.has_type ds name passes → option_map_or (λ (t : TypeSaid). rules.same_type t wanted) (option_map (λ (c : Column). c.column_type) (cond b (Some (column_made d)) (find (λ (c : Column). same_name name c.name) (map column_made ds)))) false
        ≡ option_map_or (λ (c : Bytes × ColumnType). passes c.1) (cond b (Some d) (find (λ (c : Bytes × ColumnType). same_name name c.0) ds)) false
    by true k = h d.1
    by false k = k

  count_from : (ds : List (Bytes × ColumnType)) (n : ℕ) → fold (λ (a : ℕ) (c : Column). a + cond (rules.same_type c.column_type wanted) 1 0) n (map column_made ds)
      ≡ fold (λ (a : ℕ) (c : Bytes × ColumnType). a + cond (passes c.1) 1 0) n ds
  count_from [] n = refl
  count_from (d ∷ ds) n = ap (λ b. fold (λ (a : ℕ) (c : Column). a + cond (rules.same_type c.column_type wanted) 1 0) (n + cond b 1 0) (map column_made ds)) (h d.1) ∙ count_from ds (n + cond (passes d.1) 1 0)

  count_same : (ds : List (Bytes × ColumnType)) → count_by (λ (c : Column). rules.same_type c.column_type wanted) (map column_made ds) ≡ count_by (λ (c : Bytes × ColumnType). passes c.1) ds
  count_same ds = count_from ds 0

  only_same : (ds : List (Bytes × ColumnType)) (name : Bytes) → rules.is_only (map column_made ds) name wanted ≡ now.is_only ds name passes
  only_same ds name = λ i. has_same ds name i && (count_same ds i == 1)

both_types : (a b : Option (Bytes × ColumnType)) → rules.same_optional_type (option_map (λ (c : Bytes × ColumnType). told c.1) a) (option_map (λ (c : Bytes × ColumnType). told c.1) b)
    ≡ option_map_or (λ (c : Bytes × ColumnType). option_map_or (λ (d : Bytes × ColumnType). now.same_type c.1 d.1) b false) a false
both_types (Some a) (Some b) = type_same a.1 b.1
both_types (Some a) None = refl
both_types None b = refl

types_same : (ds es : List (Bytes × ColumnType)) (z : Bytes × Bytes) → rules.same_optional_type (rules.type_of (map column_made ds) z.0) (rules.type_of (map column_made es) z.1)
    ≡ now.has_type ds z.0 (λ type. now.has_type es z.1 (now.same_type type))
types_same ds es z = (λ i. rules.same_optional_type (found_same ds z.0 i) (found_same es z.1 i)) ∙ both_types (find (λ (c : Bytes × ColumnType). same_name z.0 c.0) ds) (find (λ (c : Bytes × ColumnType). same_name z.1 c.0) es)

-- ---- a statement and what is said

pub record SaysKey (x : KeySaid) (k : ForeignKey) : Type 0 where
  pub columns : x.names.columns.items ≡ k.names.columns
  pub period : x.names.period ≡ k.names.period
  pub parent : x.parent ≡ k.parent
  pub parent_columns : x.parent_names.columns.items ≡ k.parent_names.columns
  pub parent_period : x.parent_names.period ≡ k.parent_names.period

abbrev pub period_made : Table → ApplicationPeriod
period_made t = record { name = t.period; start = t.start; end = t.end }

abbrev pub system_made : Table → SystemPeriod
system_made t = record { start = t.system_start; end = t.system_end }

pub record Says (w : CreateTable) (t : Table) : Type 0 where
  pub name : w.name ≡ t.name
  pub columns : w.columns.items ≡ map column_made t.columns
  pub application : w.application_period ≡ period_made t
  pub system : w.system_period ≡ system_made t
  pub key : w.key.columns.items ≡ t.key.columns
  pub key_period : w.key.period ≡ t.key.period
  pub keys : Pointwise SaysKey w.foreign_keys.items t.foreign_keys

-- ---- its columns

pub images_are : {A B : Type 0} (g : B → A) (xs : List A) (ys : List B) → Pointwise (λ x y. x ≡ g y) xs ys → xs ≡ map g ys
images_are g [] [] p = refl
images_are g [] (y ∷ ys) p = absurd p
images_are g (x ∷ xs) [] p = absurd p
images_are g (x ∷ xs) (y ∷ ys) p = λ i. p.0 i ∷ images_are g xs ys p.1 i

pub are_images : {A B : Type 0} (g : B → A) (ys : List B) → Pointwise (λ x y. x ≡ g y) (map g ys) ys
are_images g [] = tt
are_images g (y ∷ ys) = (refl, are_images g ys)

two_bad : {B : Type 0} (a b : Bool) (x : Result B Refusal) → (verdict ((BadSchema when a) ∷ (BadSchema when b) ∷ []) >> x) ≡ (refuse_if (a || b) BadSchema >> x)
two_bad true b x = refl
two_bad false true x = refl
two_bad false false x = refl

unlike : (b : Bool) → (b || false) ≡ b
unlike true = refl
unlike false = refl

column_checked : (as' : List Column) (bs : List (Bytes × ColumnType)) (x : Column) (y : Bytes × ColumnType) → Pointwise (λ x y. x ≡ column_made y) as' bs → x ≡ column_made y →
    now.check_column bs y ≡ (verdict (rules.column_checks as' x) >> Ok y)
unfolding rules.column_checks
column_checked as' bs x (name, type) p e = sym (
    (λ i. verdict ((BadSchema when rules.is_declared (images_are column_made as' bs p i) (e i).name) ∷ (BadSchema when rules.has_wrong_length (e i).column_type) ∷ []) >> Ok (name, type))
    ∙ two_bad (rules.is_declared (map column_made bs) name) (rules.has_wrong_length (told type)) (Ok (name, type))
    ∙ (λ i. refuse_if (declared_same bs name i || rules.has_wrong_length (told type)) BadSchema >> Ok (name, type))
    ∙ by type)
  where
    by : (a : ColumnType) → (refuse_if (now.is_declared bs name || rules.has_wrong_length (told a)) BadSchema >> Ok (name, a)) ≡ now.check_column bs (name, a)
    by Integer = ap (λ b. refuse_if b BadSchema >> Ok (name, Integer)) (unlike (now.is_declared bs name))
    by (Varchar digits) = ap (λ b. refuse_if (now.is_declared bs name || b) BadSchema >> Ok (name, Varchar digits)) (varchar_same (digits_value 10 digits))
    by Date = ap (λ b. refuse_if b BadSchema >> Ok (name, Date)) (unlike (now.is_declared bs name))
    by RowStart = ap (λ b. refuse_if b BadSchema >> Ok (name, RowStart)) (unlike (now.is_declared bs name))
    by RowEnd = ap (λ b. refuse_if b BadSchema >> Ok (name, RowEnd)) (unlike (now.is_declared bs name))

-- ---- its periods

abbrev application_list : List Column → ApplicationPeriod → List Check
application_list columns period =
    (BadSchema when rules.is_declared columns period.name) ∷ (UnknownColumn when not (rules.is_declared columns period.start)) ∷ (UnknownColumn when not (rules.is_declared columns period.end))
    ∷ (BadSchema when not (rules.has_type columns period.start types.Date && rules.has_type columns period.end types.Date && not (same_name period.start period.end))) ∷ []

four_are : {B : Type 0} (a b c d : Bool) (x : Result B Refusal) → (verdict ((BadSchema when a) ∷ (UnknownColumn when not b) ∷ (UnknownColumn when not c) ∷ (BadSchema when d) ∷ []) >> x)
    ≡ (refuse_if a BadSchema >> (refuse_if (not (b && c)) UnknownColumn >> (refuse_if d BadSchema >> x)))
four_are true b c d x = refl
four_are false false c d x = refl
four_are false true false d x = refl
four_are false true true true x = refl
four_are false true true false x = refl

application_checked : {B : Type 0} (w : CreateTable) (t : Table) → Says w t → (x : Result B Refusal) → (verdict (rules.application_period_checks w) >> x)
    ≡ (refuse_if (now.is_declared t.columns t.period) BadSchema >> (refuse_if (not (now.is_declared t.columns t.start && now.is_declared t.columns t.end)) UnknownColumn
    >> (refuse_if (not (now.has_type t.columns t.start (now.same_type Date) && now.has_type t.columns t.end (now.same_type Date) && not (same_name t.start t.end))) BadSchema >> x)))
unfolding rules.application_period_checks
application_checked w t s x =
    (λ i. verdict (application_list (s.columns i) (s.application i)) >> x)
    ∙ four_are (rules.is_declared (map column_made t.columns) t.period) (rules.is_declared (map column_made t.columns) t.start) (rules.is_declared (map column_made t.columns) t.end)
    (not (rules.has_type (map column_made t.columns) t.start types.Date && rules.has_type (map column_made t.columns) t.end types.Date && not (same_name t.start t.end))) x
    ∙ (λ i. refuse_if (declared_same t.columns t.period i) BadSchema >> (refuse_if (not (declared_same t.columns t.start i && declared_same t.columns t.end i)) UnknownColumn
    >> (refuse_if (not (has_same types.Date (now.same_type Date) is_date t.columns t.start i && has_same types.Date (now.same_type Date) is_date t.columns t.end i && not (same_name t.start t.end))) BadSchema >> x)))

abbrev system_list : List Column → SystemPeriod → List Check
system_list columns period =
    (UnknownColumn when not (rules.is_declared columns period.start)) ∷ (UnknownColumn when not (rules.is_declared columns period.end))
    ∷ (BadSchema when not (rules.is_only columns period.start types.RowStart && rules.is_only columns period.end types.RowEnd)) ∷ []

three_are : {B : Type 0} (b c d : Bool) (x : Result B Refusal) → (verdict ((UnknownColumn when not b) ∷ (UnknownColumn when not c) ∷ (BadSchema when d) ∷ []) >> x)
    ≡ (refuse_if (not (b && c)) UnknownColumn >> (refuse_if d BadSchema >> x))
three_are false c d x = refl
three_are true false d x = refl
three_are true true true x = refl
three_are true true false x = refl

system_checked : {B : Type 0} (w : CreateTable) (t : Table) → Says w t → (x : Result B Refusal) → (verdict (rules.system_period_checks w) >> x)
    ≡ (refuse_if (not (now.is_declared t.columns t.system_start && now.is_declared t.columns t.system_end)) UnknownColumn
    >> (refuse_if (not (now.is_only t.columns t.system_start (now.same_type RowStart) && now.is_only t.columns t.system_end (now.same_type RowEnd))) BadSchema >> x))
unfolding rules.system_period_checks
system_checked w t s x =
    (λ i. verdict (system_list (s.columns i) (s.system i)) >> x)
    ∙ three_are (rules.is_declared (map column_made t.columns) t.system_start) (rules.is_declared (map column_made t.columns) t.system_end)
    (not (rules.is_only (map column_made t.columns) t.system_start types.RowStart && rules.is_only (map column_made t.columns) t.system_end types.RowEnd)) x
    ∙ (λ i. refuse_if (not (declared_same t.columns t.system_start i && declared_same t.columns t.system_end i)) UnknownColumn
    >> (refuse_if (not (only_same types.RowStart (now.same_type RowStart) is_start t.columns t.system_start i && only_same types.RowEnd (now.same_type RowEnd) is_end t.columns t.system_end i)) BadSchema >> x))

-- ---- names in keys

fifth : (a b c d e : Bool) → ((a || b || c || d) || e) ≡ (a || (b || (c || (d || e))))
fifth true b c d e = refl
fifth false true c d e = refl
fifth false false true d e = refl
fifth false false false true e = refl
fifth false false false false e = refl

abbrev name_list : List Column → ApplicationPeriod → SystemPeriod → List Bytes → Bytes → List Check
name_list columns p s earlier name =
    (UnknownColumn when not (rules.is_declared columns name))
    ∷ (BadSchema when ((same_name name p.start || same_name name p.end || same_name name s.start || same_name name s.end) || list_any (same_name name) earlier)) ∷ []

two_are : {B : Type 0} (a b : Bool) (x : Result B Refusal) → (verdict ((UnknownColumn when a) ∷ (BadSchema when b) ∷ []) >> x) ≡ (refuse_if a UnknownColumn >> (refuse_if b BadSchema >> x))
two_are true b x = refl
two_are false true x = refl
two_are false false x = refl

name_checked : (w : CreateTable) (t : Table) → Says w t → (as' bs : List Bytes) (x y : Bytes) → Pointwise (λ x y. x ≡ y) as' bs → x ≡ y → now.check_key_name t bs y ≡ (verdict (rules.key_name_checks w as' x) >> Ok y)
unfolding rules.key_name_checks
name_checked w t s as' bs x y p e = sym (
    (λ i. verdict (name_list (s.columns i) (s.application i) (s.system i) (images_are (λ n. n) as' bs p i) (e i)) >> Ok y)
    ∙ (λ i. verdict (name_list (map column_made t.columns) (period_made t) (system_made t) (names_id bs i) y) >> Ok y)
    ∙ two_are (not (rules.is_declared (map column_made t.columns) y)) ((same_name y t.start || same_name y t.end || same_name y t.system_start || same_name y t.system_end) || list_any (same_name y) bs) (Ok y)
    ∙ (λ i. refuse_if (not (declared_same t.columns y i)) UnknownColumn
    >> (refuse_if (fifth (same_name y t.start) (same_name y t.end) (same_name y t.system_start) (same_name y t.system_end) (list_any (same_name y) bs) i) BadSchema >> Ok y)))
  where
    names_id : (ns : List Bytes) → map (λ n. n) ns ≡ ns
    names_id [] = refl
    names_id (n ∷ ns) = ap (λ (l : List Bytes). n ∷ l) (names_id ns)

last_one : {B : Type 0} (a : Bool) (x : Result B Refusal) → (verdict ((BadSchema when a) ∷ []) >> x) ≡ (refuse_if a BadSchema >> x)
last_one true x = refl
last_one false x = refl

then_then : {B : Type 0} (v r : Result (Unit {0}) Refusal) (x : Result B Refusal) → ((v >> r) >> x) ≡ (v >> (r >> x))
then_then (Ok u) r x = refl
then_then (Err e) r x = refl

names_checked : {B : Type 0} (w : CreateTable) (t : Table) → Says w t → (o : NamesSaid) (k : KeyNames) → o.columns.items ≡ k.columns → o.period ≡ k.period → (x : Result B Refusal) →
    (now.check_names t k >> x) ≡ (verdict (rules.key_names_checks w o) >> x)
unfolding rules.key_names_checks
names_checked w t s o k e d x =
    ap (λ r. r >> x) (all_checked (λ x y. x ≡ y) (rules.key_name_checks w) (now.check_key_name t) (name_checked w t s) o.columns.items k.columns
    (subst (λ (l : List Bytes). Pointwise (λ x y. x ≡ y) l k.columns) (sym e) (all_same k.columns)) (λ checked. refuse_if (not (same_name k.period t.period)) BadSchema))
    ∙ then_then (verdict (before.each (rules.key_name_checks w) o.columns.items)) (refuse_if (not (same_name k.period t.period)) BadSchema) x
    ∙ (λ i. verdict (before.each (rules.key_name_checks w) o.columns.items) >> (refuse_if (not (same_name (sym d i) (sym s.application i).name)) BadSchema >> x))
    ∙ ap (λ r. verdict (before.each (rules.key_name_checks w) o.columns.items) >> r) (sym (last_one (not (same_name o.period w.application_period.name)) x))
    ∙ sym (both_are (before.each (rules.key_name_checks w) o.columns.items) ((BadSchema when not (same_name o.period w.application_period.name)) ∷ []) x)

key_checked : {B : Type 0} (w : CreateTable) (t : Table) → Says w t → (x : Result B Refusal) → (refuse_if (nat_lt 3 (length t.key.columns)) TooLarge >> (now.check_names t t.key >> x)) ≡ (verdict (rules.key_checks w) >> x)
unfolding rules.key_checks
key_checked w t s x =
    (λ i. refuse_if (nat_lt 3 (length (sym s.key i))) TooLarge >> names_checked w t s w.key t.key s.key s.key_period x i)
    ∙ sym (first_is TooLarge (nat_lt 3 (length w.key.columns.items)) (rules.key_names_checks w w.key) x)

-- ---- foreign keys

abbrev Both : Option CreateTable → Option Table → Type 0
Both None None = Unit {0}
Both None (Some t) = ⊥
Both (Some w) None = ⊥
Both (Some w) (Some t) = Says w t

choice : (b c : Bool) (p r : Option CreateTable) (q s : Option Table) → b ≡ c → Both p q → Both r s → Both (cond b p r) (cond c q s)
choice true true p r q s e h k = h
choice true false p r q s e h k = absurd cc
choice false true p r q s e h k = absurd cc
choice false false p r q s e h k = k

named_same : (ws : List CreateTable) (ts : List Table) (name : Bytes) → Pointwise Says ws ts → Both (rules.table_named ws name) (find (λ (p : Table). same_name name p.name) ts)
named_same [] [] name p = tt
named_same [] (t ∷ ts) name p = absurd p
named_same (w ∷ ws) [] name p = absurd p
named_same (w ∷ ws) (t ∷ ts) name p = choice (same_name name w.name) (same_name name t.name) (Some w) (rules.table_named ws name) (Some t) (find (λ (p : Table). same_name name p.name) ts) (ap (same_name name) p.0.name) p.0 (named_same ws ts name p.1)

used_same : (ws : List CreateTable) (ts : List Table) (name : Bytes) → Pointwise Says ws ts → is_some (rules.table_named ws name) ≡ list_any (λ (e : Table). same_name name e.name) ts
used_same [] [] name p = refl
used_same [] (t ∷ ts) name p = absurd p
used_same (w ∷ ws) [] name p = absurd p
used_same (w ∷ ws) (t ∷ ts) name p = ap (λ n. is_some (cond (same_name name n) (Some w) (rules.table_named ws name))) p.0.name ∙ by (same_name name t.name) (used_same ws ts name p.1) where
  by : (b : Bool) → is_some (rules.table_named ws name) ≡ list_any (λ (e : Table). same_name name e.name) ts → is_some (cond b (Some w) (rules.table_named ws name)) ≡ (b || list_any (λ (e : Table). same_name name e.name) ts)
  by true h = refl
  by false h = h

abbrev parent_rest : Table → ForeignKey → Table → Result ForeignKey Refusal
parent_rest t k parent =
    refuse_if (not (pointwise same_name k.parent_names.columns parent.key.columns && same_name k.parent_names.period parent.period)) BadSchema
    >> (refuse_if (not (length k.names.columns == length parent.key.columns)) BadSchema >> (refuse_if (not (now.same_types t k.names.columns parent)) WrongType >> Ok k))

parent_are : {B : Type 0} (a b c d : Bool) (x : Result B Refusal) → (verdict ((BadSchema when not (a && b && c)) ∷ (WrongType when not d) ∷ []) >> x)
    ≡ (refuse_if (not (a && b)) BadSchema >> (refuse_if (not c) BadSchema >> (refuse_if (not d) WrongType >> x)))
parent_are false b c d x = refl
parent_are true false c d x = refl
parent_are true true false d x = refl
parent_are true true true false x = refl
parent_are true true true true x = refl

abbrev parent_list : List Column → List Bytes → List Bytes → Bytes → List Column → List Bytes → ApplicationPeriod → List Check
parent_list columns names parent_names period parent key parent_period =
    (BadSchema when not (pointwise same_name parent_names key && same_name period parent_period.name && (length names == length key)))
    ∷ (WrongType when not (list_all (λ z. rules.same_optional_type (rules.type_of columns z.0) (rules.type_of parent z.1)) (zip names key))) ∷ []

parent_checked : (w : CreateTable) (t : Table) → Says w t → (x : KeySaid) (k : ForeignKey) → SaysKey x k → (p : Option CreateTable) (q : Option Table) → Both p q →
    (ok_or q UnknownTable >>= parent_rest t k) ≡ (verdict (rules.parent_checks w x p) >> Ok k)
unfolding rules.parent_checks
parent_checked w t s x k e None None b = refl
parent_checked w t s x k e None (Some q) b = absurd b
parent_checked w t s x k e (Some p) None b = absurd b
parent_checked w t s x k e (Some p) (Some q) b = sym (
    (λ i. verdict (parent_list (s.columns i) (e.columns i) (e.parent_columns i) (e.parent_period i) (b.columns i) (b.key i) (b.application i)) >> Ok k)
    ∙ parent_are (pointwise same_name k.parent_names.columns q.key.columns) (same_name k.parent_names.period q.period) (length k.names.columns == length q.key.columns)
    (list_all (λ z. rules.same_optional_type (rules.type_of (map column_made t.columns) z.0) (rules.type_of (map column_made q.columns) z.1)) (zip k.names.columns q.key.columns)) (Ok k)
    ∙ (λ i. refuse_if (not (pointwise same_name k.parent_names.columns q.key.columns && same_name k.parent_names.period q.period)) BadSchema
    >> (refuse_if (not (length k.names.columns == length q.key.columns)) BadSchema
    >> (refuse_if (not (list_all (λ z. types_same t.columns q.columns z i) (zip k.names.columns q.key.columns))) WrongType >> Ok k))))

foreign_checked : (ws : List CreateTable) (ts : List Table) → Pointwise Says ws ts → (w : CreateTable) (t : Table) → Says w t →
    (as' : List KeySaid) (bs : List ForeignKey) (x : KeySaid) (k : ForeignKey) → Pointwise SaysKey as' bs → SaysKey x k →
    now.check_foreign_key ts t bs k ≡ (verdict (rules.foreign_key_checks ws w as' x) >> Ok k)
unfolding rules.foreign_key_checks
foreign_checked ws ts q w t s as' bs x k p e =
    (λ i. refuse_if (sym (as_long SaysKey as' bs p) i == 8) TooLarge >> (now.check_names t k.names >> parent_checked w t s x k e (rules.table_named ws k.parent) (find (λ (p : Table). same_name k.parent p.name) ts) (named_same ws ts k.parent q) i))
    ∙ (λ i. refuse_if (length as' == 8) TooLarge >> names_checked w t s x.names k.names e.columns e.period (verdict (rules.parent_checks w x (rules.table_named ws (sym e.parent i))) >> Ok k) i)
    ∙ ap (λ r. refuse_if (length as' == 8) TooLarge >> r) (sym (both_are (rules.key_names_checks w x.names) (rules.parent_checks w x (rules.table_named ws x.parent)) (Ok k)))
    ∙ sym (first_is TooLarge (length as' == 8) (rules.reference_checks ws w x) (Ok k))

-- ---- tables

sizes_are : {B : Type 0} (a b : Bool) (x : Result B Refusal) → (verdict ((BadSchema when a) ∷ (TooLarge when b) ∷ []) >> x) ≡ (refuse_if a BadSchema >> (refuse_if b TooLarge >> x))
sizes_are true b x = refl
sizes_are false true x = refl
sizes_are false false x = refl

size_checked : {B : Type 0} (ws : List CreateTable) (ts : List Table) → Pointwise Says ws ts → (w : CreateTable) (t : Table) → Says w t → (x : Result B Refusal) → (verdict (rules.name_and_size_checks ws w) >> x)
    ≡ (refuse_if (list_any (λ (e : Table). same_name t.name e.name) ts) BadSchema >> (refuse_if (nat_lt 16 (length t.columns)) TooLarge >> x))
unfolding rules.name_and_size_checks
size_checked ws ts q w t s x =
    (λ i. verdict ((BadSchema when is_some (rules.table_named ws (s.name i))) ∷ (TooLarge when nat_lt 16 (length (s.columns i))) ∷ []) >> x)
    ∙ sizes_are (is_some (rules.table_named ws t.name)) (nat_lt 16 (length (map column_made t.columns))) x
    ∙ (λ i. refuse_if (used_same ws ts t.name q i) BadSchema >> (refuse_if (nat_lt 16 (as_many t.columns i)) TooLarge >> x))

-- what follows the columns
abbrev behind : List Table → Table → List (Bytes × ColumnType) → Result Table Refusal
behind earlier t columns =
    refuse_if (now.is_declared columns t.period) BadSchema
    >> (refuse_if (not (now.is_declared columns t.start && now.is_declared columns t.end)) UnknownColumn
    >> (refuse_if (not (now.has_type columns t.start (now.same_type Date) && now.has_type columns t.end (now.same_type Date) && not (same_name t.start t.end))) BadSchema
    >> (refuse_if (not (now.is_declared columns t.system_start && now.is_declared columns t.system_end)) UnknownColumn
    >> (refuse_if (not (now.is_only columns t.system_start (now.same_type RowStart) && now.is_only columns t.system_end (now.same_type RowEnd))) BadSchema
    >> (refuse_if (nat_lt 3 (length t.key.columns)) TooLarge
    >> (now.check_names t t.key
    >> (each_after (now.check_foreign_key earlier t) t.foreign_keys >>= λ keys. Ok t)))))))

behind_checked : (ws : List CreateTable) (ts : List Table) → Pointwise Says ws ts → (w : CreateTable) (t : Table) → Says w t →
    (verdict (rules.application_period_checks w) >> (verdict (rules.system_period_checks w) >> (verdict (rules.key_checks w) >> (verdict (before.each (rules.foreign_key_checks ws w) w.foreign_keys.items) >> Ok t)))) ≡ behind ts t t.columns
behind_checked ws ts q w t s =
    let keys = sym (all_checked SaysKey (rules.foreign_key_checks ws w) (now.check_foreign_key ts t) (foreign_checked ws ts q w t s) w.foreign_keys.items t.foreign_keys s.keys (λ keys. let r : Result Table Refusal = Ok t in r)) in
    ap (λ r. verdict (rules.application_period_checks w) >> (verdict (rules.system_period_checks w) >> r)) (ap (λ r. verdict (rules.key_checks w) >> r) keys ∙ sym (key_checked w t s _))
    ∙ application_checked w t s _
    ∙ ap (λ r. refuse_if (now.is_declared t.columns t.period) BadSchema >> (refuse_if (not (now.is_declared t.columns t.start && now.is_declared t.columns t.end)) UnknownColumn
    >> (refuse_if (not (now.has_type t.columns t.start (now.same_type Date) && now.has_type t.columns t.end (now.same_type Date) && not (same_name t.start t.end))) BadSchema >> r))) (system_checked w t s _)

table_checked : (ws : List CreateTable) (ts : List Table) (w : CreateTable) (t : Table) → Pointwise Says ws ts → Says w t → now.check_table ts t ≡ (verdict (rules.table_checks ws w) >> Ok t)
table_checked ws ts w t q s =
    let S = rules.name_and_size_checks ws w in
    let C = before.each rules.column_checks w.columns.items in
    let A = rules.application_period_checks w in
    let Y = rules.system_period_checks w in
    let K = rules.key_checks w in
    let F = before.each (rules.foreign_key_checks ws w) w.foreign_keys.items in
    sym (both_are ((((S ++ C) ++ A) ++ Y) ++ K) F (Ok t) ∙ both_are (((S ++ C) ++ A) ++ Y) K _ ∙ both_are ((S ++ C) ++ A) Y _ ∙ both_are (S ++ C) A _ ∙ both_are S C _
    ∙ ap (λ r. verdict S >> r) (ap (λ r. verdict C >> r) (behind_checked ws ts q w t s)
    ∙ sym (all_checked (λ x y. x ≡ column_made y) rules.column_checks now.check_column column_checked w.columns.items t.columns
    (subst (λ (l : List Column). Pointwise (λ x y. x ≡ column_made y) l t.columns) (sym s.columns) (are_images column_made t.columns)) (behind ts t)))
    ∙ size_checked ws ts q w t s _)

-- ---- what they make

module _ {A : Type 0} where
  places_same : (p : Bytes → Bool) (items : List (Bytes × A)) → prefix_len (λ (x : Bytes). not (p x)) (map (λ (x : Bytes × A). x.0) items) ≡ prefix_len (λ (x : Bytes × A). not (p x.0)) items
  places_same p [] = refl
  places_same p (x ∷ xs) = ap (λ k. cond (not (p x.0)) (1 + k) 0) (places_same p xs)

  names_long : (items : List (Bytes × A)) → length (map (λ (x : Bytes × A). x.0) items) ≡ length items
  names_long [] = refl
  names_long (x ∷ xs) = ap (λ n. suc n) (names_long xs)

  position_same : (p : Bytes → Bool) (items : List (Bytes × A)) → position p (map (λ (x : Bytes × A). x.0) items) ≡ position (λ (x : Bytes × A). p x.0) items
  position_same p items = λ i. cond (nat_lt (places_same p items i) (names_long items i)) (Some (places_same p items i)) None

  place_same : (items : List (Bytes × A)) (name : Bytes) → made.place (map (λ (x : Bytes × A). x.0) items) name ≡ now.place items name
  place_same items name = λ i. unwrap_or (position_same (same_name name) items i) (names_long items i)

names_made : (ds : List (Bytes × ColumnType)) → made.names_of (map column_made ds) ≡ map (λ (d : Bytes × ColumnType). d.0) ds
names_made [] = refl
names_made (d ∷ ds) = ap (λ (l : List Bytes). d.0 ∷ l) (names_made ds)

entries_made : (ds : List (Bytes × ColumnType)) → map made.entry_of (map column_made ds) ≡ map (λ (d : Bytes × ColumnType). (d.0, now.kind_of d.1)) ds
entries_made [] = refl
entries_made (d ∷ ds) = λ i. (d.0, kind_same d.1 i) ∷ entries_made ds i

range_more : (a n : ℕ) → range_with_len a (suc n) ≡ range_with_len a n ++ (a + n) ∷ []
range_more a zero = let e : a ≡ a + 0 = omega arith in ap (λ (k : ℕ). k ∷ []) e
range_more a (suc n) = let e : a + 1 + n ≡ a + suc n = omega arith in ap (λ (l : List ℕ). a ∷ l) (range_more (a + 1) n ∙ ap (λ (k : ℕ). range_with_len (a + 1) n ++ k ∷ []) e)

numbers_same : (n : ℕ) (passes : ℕ → Bool) → made.numbers_below n passes ≡ filter passes (range_with_len 0 n)
numbers_same zero passes = refl
numbers_same (suc n) passes =
    let e : n ≡ 0 + n = omega arith in
    ap (λ (l : List ℕ). l ++ cond (passes n) (n ∷ []) []) (numbers_same n passes)
    ∙ sym (filter-append passes (range_with_len 0 n) (n ∷ []))
    ∙ ap (λ (k : ℕ). filter passes (range_with_len 0 n ++ k ∷ [])) e
    ∙ ap (filter passes) (sym (range_more 0 n))

after_four : (a b c d e : Bool) → ((a || (b || (c || (d || false)))) || e) ≡ (a || (b || (c || (d || e))))
after_four true b c d e = refl
after_four false true c d e = refl
after_four false false true d e = refl
after_four false false false true e = refl
after_four false false false false e = refl

module _ (names : List Bytes) (done : Tables) (named : map (λ e. e.0) done ≡ names) (w : CreateTable) (t : Table) (s : Says w t) where
  abbrev columns_named : List Bytes
  columns_named = made.names_of w.columns.items

  at : (n : Bytes) → made.place columns_named n ≡ now.place t.columns n
  at n = ap (λ cs. made.place (made.names_of cs) n) s.columns ∙ ap (λ l. made.place l n) (names_made t.columns) ∙ place_same t.columns n

  all_at : (ns ms : List Bytes) → ns ≡ ms → map (made.place columns_named) ns ≡ map (now.place t.columns) ms
  all_at ns ms e = ap (map (made.place columns_named)) e ∙ (λ i. map (λ n. at n i) ms)

  parent_at : (n : Bytes) → made.place names n ≡ now.place done n
  parent_at n = ap (λ l. made.place l n) (sym named) ∙ place_same done n

  references_same : (xs : List KeySaid) (ks : List ForeignKey) → Pointwise SaysKey xs ks →
      map (made.reference_of names columns_named) xs ≡ map (λ (k : ForeignKey). let r : ReferenceShape = record { columns = map (now.place t.columns) k.names.columns; parent = now.place done k.parent } in r) ks
  references_same [] [] p = refl
  references_same [] (k ∷ ks) p = absurd p
  references_same (x ∷ xs) [] p = absurd p
  references_same (x ∷ xs) (k ∷ ks) p = λ i. record { columns = all_at x.names.columns.items k.names.columns p.0.columns i; parent = (ap (made.place names) p.0.parent ∙ parent_at k.parent) i } ∷ references_same xs ks p.1 i

  shape_same : made.shape_of names w ≡ now.shape_of done t
  unfolding made.shape_of
  shape_same =
      let start : made.place columns_named w.application_period.start ≡ now.place t.columns t.start = ap (λ (p : ApplicationPeriod). made.place columns_named p.start) s.application ∙ at t.start in
      let end : made.place columns_named w.application_period.end ≡ now.place t.columns t.end = ap (λ (p : ApplicationPeriod). made.place columns_named p.end) s.application ∙ at t.end in
      let system_start : made.place columns_named w.system_period.start ≡ now.place t.columns t.system_start = ap (λ (p : SystemPeriod). made.place columns_named p.start) s.system ∙ at t.system_start in
      let system_end : made.place columns_named w.system_period.end ≡ now.place t.columns t.system_end = ap (λ (p : SystemPeriod). made.place columns_named p.end) s.system ∙ at t.system_end in
      let key = all_at w.key.columns.items t.key.columns s.key in
      let many : length w.columns.items ≡ length t.columns = ap length s.columns ∙ as_many t.columns in
      let entries = ap (map made.entry_of) s.columns ∙ entries_made t.columns in
      let among = λ (a b c d : ℕ) (k : List ℕ) (n : ℕ). after_four (a == n) (b == n) (c == n) (d == n) (list_any (λ p. p == n) k) in
      let values =
      (λ i. made.numbers_below (many i) (λ n. not (list_any (λ p. p == n) (start i ∷ end i ∷ system_start i ∷ system_end i ∷ []) || list_any (λ p. p == n) (key i))))
      ∙ (λ i. made.numbers_below (length t.columns) (λ n. not (among (now.place t.columns t.start) (now.place t.columns t.end) (now.place t.columns t.system_start) (now.place t.columns t.system_end) (map (now.place t.columns) t.key.columns) n i)))
      ∙ numbers_same (length t.columns) _ in
      λ i. record {
        columns = entries i;
        period = (s.application i).name;
        start = start i;
        end = end i;
        system_start = system_start i;
        system_end = system_end i;
        key = key i;
        values = values i;
        references = references_same w.foreign_keys.items t.foreign_keys s.keys i;
      }

abbrev shaped : Tables → Table → Result (Bytes × TableShape) Refusal
shaped earlier t = Ok (t.name, now.shape_of earlier t)

shapes_are : (names : List Bytes) (done : Tables) (ws : List CreateTable) (ts : List Table) → map (λ e. e.0) done ≡ names → Pointwise Says ws ts →
    fold_ok (λ done t. shaped done t >>= λ z. Ok (done ++ z ∷ [])) done ts ≡ (let r : Result Tables Refusal = Ok (done ++ made.tables_after names ws) in r)
shapes_are names done [] [] named p = ap Ok (sym (append-nil done))
shapes_are names done [] (t ∷ ts) named p = absurd p
shapes_are names done (w ∷ ws) [] named p = absurd p
shapes_are names done (w ∷ ws) (t ∷ ts) named p =
    let more : map (λ e. e.0) (done ++ (t.name, now.shape_of done t) ∷ []) ≡ names ++ w.name ∷ [] =
    map-append (λ (e : Bytes × TableShape). e.0) done ((t.name, now.shape_of done t) ∷ []) ∙ (λ i. named i ++ sym p.0.name i ∷ []) in
    shapes_are (names ++ w.name ∷ []) (done ++ (t.name, now.shape_of done t) ∷ []) ws ts more p.1
    ∙ ap (λ (l : Tables). let r : Result Tables Refusal = Ok l in r) (append_assoc done ((t.name, now.shape_of done t) ∷ []) (made.tables_after (names ++ w.name ∷ []) ws))
    ∙ (λ i. Ok (done ++ (sym p.0.name i, sym (shape_same names done named w t p.0) i) ∷ made.tables_after (names ++ w.name ∷ []) ws))

in_turn : {A B : Type 0} (b : Bool) (x : Result A Refusal) (f : A → Result B Refusal) → ((refuse_if b TooLarge >> x) >>= f) ≡ (refuse_if b TooLarge >> (x >>= f))
in_turn true x f = refl
in_turn false x f = refl

schema_checked : (ws : List CreateTable) (ts : List Table) → Pointwise Says ws ts → now.schema_in ts ≡ (verdict (rules.schema_checks ws) >> Ok (made.schema_of ws))
schema_checked ws ts q =
    in_turn (nat_lt 16 (length ts)) (each_after now.check_table ts) (each_after shaped)
    ∙ (λ i. refuse_if (nat_lt 16 (sym (as_long Says ws ts q) i)) TooLarge >> all_checked Says rules.table_checks now.check_table table_checked ws ts q (each_after shaped) i)
    ∙ ap (λ r. refuse_if (nat_lt 16 (length ws)) TooLarge >> (verdict (before.each rules.table_checks ws) >> r)) (shapes_are [] [] ws ts refl q)
    ∙ sym (first_is TooLarge (nat_lt 16 (length ws)) (before.each rules.table_checks ws) (Ok (made.schema_of ws)))

pub makes_now : (ws : List CreateTable) (ts : List Table) → Pointwise Says ws ts → (answer : Result Tables Refusal) → Makes ws answer → answer ≡ now.schema_in ts
makes_now ws ts q (Ok tables) m = ap (λ (l : Tables). let r : Result Tables Refusal = Ok l in r) m.1 ∙ sym (ap (λ o. ok_if o >> Ok (made.schema_of ws)) m.0) ∙ sym (schema_checked ws ts q)
makes_now ws ts q (Err refusal) m = sym (ap (λ o. ok_if o >> Ok (made.schema_of ws)) m) ∙ sym (schema_checked ws ts q)

pub makes_before : (ws : List CreateTable) (ts : List Table) → Pointwise Says ws ts → Makes ws (now.schema_in ts)
makes_before ws ts q = subst (Makes ws) (sym (schema_checked ws ts q)) (by (first_failing (rules.schema_checks ws)) refl) where
  by : (o : Option Refusal) → first_failing (rules.schema_checks ws) ≡ o → Makes ws (ok_if o >> Ok (made.schema_of ws))
  by None e = (e, refl)
  by (Some refusal) e = e
