-- The key and the day that WHERE names, and that versions of other keys or without the day are not found.
use Rattle.std.proofs.Common.{◌≡◌, ℕ, zero, suc, ◌<◌, ◌≤◌, ◌==◌, inl, inr, Bool, true, false, ◌&&◌, cond, List, [], ◌∷◌, ◌++◌, map, filter, length, Option, Some, None, Result, Ok, Err, refl, sym, ap, ◌∙◌, subst, arith}
use Rattle.std.specs.Prelude.{nat_le, slice_get, IfOk}
use Rattle.std.specs.List.{list_all}
use Rattle.std.specs.Option.{option_or}
use Rattle.std.proofs.lemmas.Bool.{cases_Bool, and_parts, eqb-true}
use Rattle.model.specs.declared.value.Value.{Value}
use Rattle.model.specs.Tables.{Row, inside}
use Rattle.model.specs.Answers.{SystemTime}
use Rattle.rowlaws.specs.Rows.{Has}
use Rattle.rowlaws.proofs.Keys.{same_key-true, same_key-itself}
use Rattle.rowlaws.proofs.RowFacts.{both}
use Rattle.sqlsyntax.specs.declared.forms.Operator.{Operator}
use Rattle.sqlsyntax.specs.declared.forms.Operator.TheVariants as operator
use Rattle.sqlchecks.specs.declared.field.Field.{Field}
use Rattle.sqlchecks.specs.declared.field.Field.TheVariants as field
use Rattle.sqlread.specs.declared.term.Term.{Term}
use Rattle.sqlread.specs.declared.term.Term.TheVariants as terms'
use Rattle.sqlread.specs.Shapes.{term_of}
use Rattle.sqlread.specs.Meaning.{term_passes}
use Rattle.current.specs.Named.{equal_at}
use Rattle.current.proofs.Naming.{said}
use Rattle.versionlaws.specs.Versions.{Version}
use Rattle.versionlaws.specs.ByKey.{is_of}
use Rattle.versionlaws.specs.Answering.{is_before}
use Rattle.sysversion.specs.Days.{has_day, nearly_has}
use Rattle.asof.specs.Asking.{is_found_by}
use Rattle.asof.specs.Named.{said_by, said_at, day_of, IsNamed, IsFew, IsFewOnDay}

-- ---- places of lists

some_at : (xs : List Value) (i : ℕ) → i < length xs → (x : Value) × (slice_get xs i ≡ Some x)
some_at [] i l = absurd (omega arith)
some_at (x ∷ xs) zero l = (x, refl)
some_at (x ∷ xs) (suc i) l = some_at xs i (omega arith)

not_some : (x : Value) → None ≡ Some x → ⊥
not_some x e = cc

one : (x y : Value) → Some x ≡ Some y → x ≡ y
one x y e = cc

same_places : (xs ys : List Value) → length xs ≤ length ys → ((i : ℕ) → i < length ys → slice_get xs i ≡ slice_get ys i) → xs ≡ ys
same_places [] [] le h = refl
same_places [] (y ∷ ys) le h = absurd (not_some y (h 0 (omega arith)))
same_places (x ∷ xs) [] le h = absurd (omega (arith, le))
same_places (x ∷ xs) (y ∷ ys) le h =
    let head : x ≡ y = one x y (h 0 (omega arith)) in
    let rest = same_places xs ys (omega (arith, le)) (λ i l. h (suc i) (omega (arith, l))) in
    λ i. head i ∷ rest i

-- ---- what WHERE says

equal_says : (place : ℕ) (o : Operator) (f : Field) (v w : Value) → equal_at place o f v ≡ Some w → (o ≡ operator.Equal) × (f ≡ field.Key place) × (v ≡ w)
equal_says place operator.Equal (field.Key column) v w h = by (column == place) refl h
  where
    by : (b : Bool) → (column == place) ≡ b → cond b (Some v) None ≡ Some w → (operator.Equal ≡ operator.Equal) × (field.Key column ≡ field.Key place) × (v ≡ w)
    by true e g = (refl, ap field.Key (eqb-true column place e), one v w g)
    by false e g = absurd (not_some w g)
equal_says place operator.Equal (field.Value column) v w h = absurd (not_some w h)
equal_says place operator.NotEqual (field.Key column) v w h = absurd (not_some w h)
equal_says place operator.NotEqual (field.Value column) v w h = absurd (not_some w h)
equal_says place operator.Less (field.Key column) v w h = absurd (not_some w h)
equal_says place operator.Less (field.Value column) v w h = absurd (not_some w h)
equal_says place operator.LessEqual (field.Key column) v w h = absurd (not_some w h)
equal_says place operator.LessEqual (field.Value column) v w h = absurd (not_some w h)
equal_says place operator.Greater (field.Key column) v w h = absurd (not_some w h)
equal_says place operator.Greater (field.Value column) v w h = absurd (not_some w h)
equal_says place operator.GreaterEqual (field.Key column) v w h = absurd (not_some w h)
equal_says place operator.GreaterEqual (field.Value column) v w h = absurd (not_some w h)

term_says : (place : ℕ) (t : Term) (w : Value) → said_by place t ≡ Some w → (row : Row) → term_passes (term_of t) row ≡ true → slice_get row.key place ≡ Some w
unfolding term_passes
term_says place (terms'.Compares c) w h row passes =
    let e = equal_says place c.operator c.field c.value w h in
    said c place e.0 e.1 row passes ∙ ap Some e.2
term_says place (terms'.ContainsDay d) w h row passes = absurd (not_some w h)
term_says place (terms'.Contains p) w h row passes = absurd (not_some w h)
term_says place (terms'.Relates r p) w h row passes = absurd (not_some w h)

where_says : (place : ℕ) (ts : List Term) (w : Value) → said_at place ts ≡ Some w → (row : Row) → list_all (λ t. term_passes t row) (map term_of ts) ≡ true → slice_get row.key place ≡ Some w
where_says place [] w h row passes = absurd (not_some w h)
where_says place (t ∷ ts) w h row passes = by (said_by place t) refl h (λ g. where_says place ts w g row parts.1)
  where
    parts : (term_passes (term_of t) row ≡ true) × (list_all (λ s. term_passes s row) (map term_of ts) ≡ true)
    parts = and_parts (term_passes (term_of t) row) (list_all (λ s. term_passes s row) (map term_of ts)) passes

    by : (o : Option Value) → said_by place t ≡ o → option_or o (said_at place ts) ≡ Some w → (said_at place ts ≡ Some w → slice_get row.key place ≡ Some w) → slice_get row.key place ≡ Some w
    by None e g more = more g
    by (Some v) e g more = term_says place t w (e ∙ g) row parts.0

-- a row that passes has the key that is named
found_key : (time : SystemTime) (ts : List Term) (key : List Value) (v : Version) → IsNamed ts key → length v.row.key ≤ length key → is_found_by time ts v ≡ true → is_of key v ≡ true
found_key time ts key v named le found =
    let passing = list_all (λ t. term_passes t v.row) (map term_of ts) in
    let born = nat_le v.row.system_start time.last in
    let passes = (and_parts passing born (and_parts (passing && born) (is_before time.first v.end) found).0).0 in
    let same : v.row.key ≡ key = same_places v.row.key key le (λ i l.
    let s = some_at key i l in
    where_says i ts s.0 (named i l ∙ s.1) v.row passes ∙ sym s.1) in
    subst (λ k. is_of k v ≡ true) same (same_key-itself v.row.key)

-- ---- filters

filter_within : {A : Type 0} (p q : A → Bool) (xs : List A) → ((x : A) → Has xs x → p x ≡ true → q x ≡ true) → filter p (filter q xs) ≡ filter p xs
filter_within p q [] h = refl
filter_within p q (x ∷ xs) h = elim (cases_Bool (q x)) [
  | inl y ↦ rw y (ap (λ more. cond (p x) (x ∷ more) more) (filter_within p q xs (λ z i. h z (inr i))))
  | inr n ↦ elim (cases_Bool (p x)) [
    | inl f ↦ absurd (both (h x (inl refl) f) n)
    | inr m ↦ rw (n, m) (filter_within p q xs (λ z i. h z (inr i)))
  ]
]

filter_less : {A : Type 0} (p q : A → Bool) (xs : List A) → ((x : A) → Has xs x → p x ≡ true → q x ≡ true) → length (filter p xs) ≤ length (filter q xs)
filter_less p q [] h = omega arith
filter_less p q (x ∷ xs) h =
    let less = filter_less p q xs (λ z i. h z (inr i)) in
    elim (cases_Bool (p x)) [
      | inl y ↦ rw (y, h x (inl refl) y) (omega (arith, less))
      | inr n ↦ elim (cases_Bool (q x)) [ inl y ↦ rw (n, y) (omega (arith, less)) | inr m ↦ rw (n, m) less ]
    ]

-- versions of other keys are not found
pub only_named : (time : SystemTime) (ts : List Term) (key : List Value) (columns : ℕ) (vs : List Version) → length key ≡ columns → IsNamed ts key → ((v : Version) → Has vs v → length v.row.key ≤ columns) →
    filter (is_found_by time ts) (filter (is_of key) vs) ≡ filter (is_found_by time ts) vs
only_named time ts key columns vs long named bound =
    filter_within (is_found_by time ts) (is_of key) vs (λ v h f. found_key time ts key v named (let le = bound v h in omega (arith, long, le)) f)

-- ---- the day that WHERE names

day_says : (day : ℕ) (ts : List Term) → day_of ts ≡ Some day → (row : Row) → list_all (λ t. term_passes t row) (map term_of ts) ≡ true → inside row.period day ≡ true
unfolding term_passes
day_says day [] h row passes = cc
day_says day (terms'.Compares c ∷ ts) h row passes = day_says day ts h row (and_parts (term_passes (term_of (terms'.Compares c)) row) (list_all (λ s. term_passes s row) (map term_of ts)) passes).1
day_says day (terms'.ContainsDay d ∷ ts) h row passes =
    let same : d.number ≡ day = cc in
    subst (λ n. inside row.period n ≡ true) same (and_parts (term_passes (term_of (terms'.ContainsDay d)) row) (list_all (λ s. term_passes s row) (map term_of ts)) passes).0
day_says day (terms'.Contains p ∷ ts) h row passes = day_says day ts h row (and_parts (term_passes (term_of (terms'.Contains p)) row) (list_all (λ s. term_passes s row) (map term_of ts)) passes).1
day_says day (terms'.Relates r p ∷ ts) h row passes = day_says day ts h row (and_parts (term_passes (term_of (terms'.Relates r p)) row) (list_all (λ s. term_passes s row) (map term_of ts)) passes).1

found_day : (time : SystemTime) (ts : List Term) (day : ℕ) (v : Version) → day_of ts ≡ Some day → is_found_by time ts v ≡ true → has_day day v ≡ true
found_day time ts day v named found =
    let passing = list_all (λ t. term_passes t v.row) (map term_of ts) in
    let born = nat_le v.row.system_start time.last in
    day_says day ts named v.row (and_parts passing born (and_parts (passing && born) (is_before time.first v.end) found).0).0

-- where the same versions have the day, the same are found
pub same_found : (time : SystemTime) (ts : List Term) (day : ℕ) (near all : List Version) → day_of ts ≡ Some day → filter (has_day day) near ≡ filter (has_day day) all → filter (is_found_by time ts) near ≡ filter (is_found_by time ts) all
same_found time ts day near all named same =
    sym (filter_within (is_found_by time ts) (has_day day) near (λ v h f. found_day time ts day v named f))
    ∙ ap (filter (is_found_by time ts)) same
    ∙ filter_within (is_found_by time ts) (has_day day) all (λ v h f. found_day time ts day v named f)

-- ---- how many are tested

pub no_more : {A : Type 0} (p : A → Bool) (xs : List A) → length (filter p xs) ≤ length xs
no_more p [] = omega arith
no_more p (x ∷ xs) = let rest = no_more p xs in elim (cases_Bool (p x)) [ inl y ↦ rw y (omega (arith, rest)) | inr n ↦ rw n (omega (arith, rest)) ]

both_less : {A : Type 0} (p q r : A → Bool) (xs : List A) → ((x : A) → Has xs x → p x ≡ true → q x ≡ true) → length (filter r (filter p xs)) ≤ length (filter r (filter q xs))
both_less p q r [] h = omega arith
both_less p q r (x ∷ xs) h =
    let less = both_less p q r xs (λ z i. h z (inr i)) in
    elim (cases_Bool (p x)) [
      | inl y ↦ rw (y, h x (inl refl) y) (elim (cases_Bool (r x)) [ inl s ↦ rw s (omega (arith, less)) | inr n ↦ rw n less ])
      | inr n ↦ elim (cases_Bool (q x)) [
        | inl y ↦ rw (n, y) (elim (cases_Bool (r x)) [ inl s ↦ rw s (omega (arith, less)) | inr m ↦ rw m less ])
        | inr m ↦ rw (n, m) less
      ]
    ]

-- what is of one key that WHERE names is of each
other_key : (ts : List Term) (key other : List Value) (columns : ℕ) (vs : List Version) → length key ≡ columns → IsNamed ts key → IsNamed ts other → ((v : Version) → Has vs v → length v.row.key ≡ length other) → (v : Version) → Has vs v → is_of key v ≡ true → is_of other v ≡ true
other_key ts key other columns vs long named is each v h y =
    let mine : v.row.key ≡ key = same_key-true v.row.key key y in
    let far : length v.row.key ≡ length key = ap length mine in
    let wide = each v h in
    let one_key : key ≡ other = same_places key other (omega (arith, far, wide)) (λ i l. sym (named i (omega (arith, l, far, wide))) ∙ is i l) in
    subst (λ k. is_of k v ≡ true) one_key y

pub few_of_key : (ts : List Term) (key : List Value) (columns : ℕ) (vs : List Version) (tests : ℕ) → length key ≡ columns → IsNamed ts key → tests ≤ length (filter (is_of key) vs) → IsFew ts vs tests
few_of_key ts key columns vs tests long named most other is each =
    let less = filter_less (is_of key) (is_of other) vs (other_key ts key other columns vs long named is each) in
    omega (arith, most, less)

pub few_on_day : (ts : List Term) (key : List Value) (columns : ℕ) (vs : List Version) (tests : ℕ) → length key ≡ columns → IsNamed ts key → ((day : ℕ) → day_of ts ≡ Some day → tests ≤ length (filter (nearly_has day) (filter (is_of key) vs))) → IsFewOnDay ts vs tests
few_on_day ts key columns vs tests long named most other day is asked each =
    let less = both_less (is_of key) (is_of other) (nearly_has day) vs (other_key ts key other columns vs long named is each) in
    let few = most day asked in
    omega (arith, few, less)

pub few_of_all : (ts : List Term) (columns : ℕ) (vs : List Version) (tests : ℕ) → (place : ℕ) × (place < columns) × (said_at place ts ≡ None) → ((n : ℕ) → ((v : Version) → Has vs v → length v.row.key ≤ n) → columns ≤ n) → IsFew ts vs tests
few_of_all ts columns vs tests none least key is each =
    let wide = least (length key) (λ v h. let e = each v h in omega (arith, e)) in
    let l : none.0 < length key = let before = none.1 in omega (arith, before, wide) in
    let s = some_at key none.0 l in
    absurd (not_some s.0 (sym none.2 ∙ is none.0 l ∙ s.1))

pub few_of_all_on_day : (ts : List Term) (columns : ℕ) (vs : List Version) (tests : ℕ) → (place : ℕ) × (place < columns) × (said_at place ts ≡ None) → ((n : ℕ) → ((v : Version) → Has vs v → length v.row.key ≤ n) → columns ≤ n) → IsFewOnDay ts vs tests
few_of_all_on_day ts columns vs tests none least key day is asked each =
    let wide = least (length key) (λ v h. let e = each v h in omega (arith, e)) in
    let l : none.0 < length key = let before = none.1 in omega (arith, before, wide) in
    let s = some_at key none.0 l in
    absurd (not_some s.0 (sym none.2 ∙ is none.0 l ∙ s.1))

-- ---- results

pub if_ok : {A E : Type 0} (r : Result A E) {P Q : A → Type 0} → ((a : A) → P a → Q a) → IfOk r P → IfOk r Q
if_ok (Ok a) f h = f a h
if_ok (Err e) f h = h
