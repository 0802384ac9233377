-- How many rows are read.
use Rattle.std.proofs.Common.{◌≡◌, ℕ, zero, suc, get_or, max, ◌+◌, ◌^◌, ◌<◌, ◌≤◌, Bool, true, false, List, [], ◌∷◌, ◌++◌, map, filter, flat_map, length, not, cond, refl, sym, ap, ◌∙◌, subst, inl, inr, arith}
use Rattle.std.proofs.lemmas.Bool.{cases_Bool, and_parts, and_from}
use Rattle.std.proofs.lemmas.List.{length-append, length-map}
use Rattle.std.proofs.lemmas.List.Elements.{filter-append}
use Rattle.std.proofs.Math.ListN.{set}
use Rattle.std.specs.Prelude.{nat_lt, None}
use Rattle.std.specs.BTreeMap.{IsOrdered, get}
use Rattle.std.specs.List.{list_all, list_any}
use Rattle.model.specs.declared.value.Value.{Value}
use Rattle.model.specs.Values.{key_cmp, same_key}
use Rattle.model.specs.Tables.{Period, Row}
use Rattle.overlaps.specs.Index.{AreSharing, shares_day}
use Rattle.overlaps.specs.Items.{items_of}
use Rattle.model.specs.Transactions.{Action}
use Rattle.rowlaws.specs.Touching.{rows_without, same_row}
use Rattle.rowlaws.specs.Rows.{Has}
use Rattle.rowlaws.specs.Changes.{clashes}
use Rattle.rowlaws.proofs.Keys.{same_key-true, same_key-itself}
use Rattle.sqlchecks.specs.declared.comparison.Comparison.{Comparison}
use Rattle.current.specs.declared.row.Row.{Row as Declared}
use Rattle.current.specs.Current.{columns_at}
use Rattle.current.specs.Places.{rows_at}
use Rattle.current.specs.Table.{rows_of_table}
use Rattle.current.specs.declared.table.TableRows.{TableRows}
use Rattle.current.specs.Rows.{row_of}
use Rattle.current.specs.ByKey.{Map, strands_of, rows_in, in_strand}
use Rattle.current.specs.Corrections.{is_met, made, removed_at}
use Rattle.current.specs.Named.{said_at, IsNamed}
use Rattle.current.specs.Reads.{is_of, FewToFind, FewToInsert, FewToCorrect, FewIfNamed, NoMoreThanAll}
use Rattle.current.proofs.InStrand.{begins_strand}
use Rattle.current.proofs.NamedKey.{one_named, none_named}
use Rattle.current.proofs.OfKey.{strand_of_key}
use Rattle.current.proofs.Placed.{days_of_row, Sharing, strand_items}
use Rattle.current.proofs.Tabled.{rows_at-is}

-- ---- filters

filter_less : {A : Type 0} (p q : A → Bool) (xs : List A) → ((x : A) → Has xs x → p x ≡ true → q x ≡ true) → length (filter p xs) ≤ length (filter q xs)
filter_less p q [] h = omega arith
filter_less p q (x ∷ xs) h =
    let less = filter_less p q xs (λ z i. h z (inr i)) in
    elim (cases_Bool (p x)) [
      | inl y ↦ rw (y, h x (inl refl) y) (omega (arith, less))
      | inr n ↦ elim (cases_Bool (q x)) [ inl y ↦ rw (n, y) (omega (arith, less)) | inr m ↦ rw (n, m) less ]
    ]

pub no_more : {A : Type 0} (p : A → Bool) (xs : List A) → length (filter p xs) ≤ length xs
no_more p [] = omega arith
no_more p (x ∷ xs) = let rest = no_more p xs in elim (cases_Bool (p x)) [ inl y ↦ rw y (omega (arith, rest)) | inr n ↦ rw n (omega (arith, rest)) ]

twice_less : {A : Type 0} (p q : A → Bool) (xs : List A) → length (filter p (filter q xs)) ≤ length (filter p xs)
twice_less p q [] = omega arith
twice_less p q (x ∷ xs) =
    let less = twice_less p q xs in
    elim (cases_Bool (q x)) [
      | inl y ↦ rw y (elim (cases_Bool (p x)) [ inl s ↦ rw s (omega (arith, less)) | inr n ↦ rw n less ])
      | inr m ↦ rw m (elim (cases_Bool (p x)) [ inl s ↦ rw s (omega (arith, less)) | inr n ↦ rw n less ])
    ]

all_pass : {A : Type 0} (p : A → Bool) (xs : List A) → list_all p xs ≡ true → length (filter p xs) ≡ length xs
all_pass p [] h = refl
all_pass p (x ∷ xs) h =
    let ps = and_parts (p x) (list_all p xs) h in
    let rest = all_pass p xs ps.1 in
    rw ps.0 (omega (arith, rest))

-- a stretch of a list of which each passes
stretch_less : {A : Type 0} (p : A → Bool) (before found after : List A) → list_all p found ≡ true → length found ≤ length (filter p (before ++ (found ++ after)))
stretch_less p before found after h =
    let all = ap length (filter-append p before (found ++ after)) ∙ length-append (filter p before) (filter p (found ++ after)) in
    let rest = ap length (filter-append p found after) ∙ length-append (filter p found) (filter p after) in
    let each = all_pass p found h in
    omega (arith, all, rest, each)

-- ---- the rows of a key that share a day with a period clash with it

module _ (law : Sharing) (k : List Value) (p : Period) (some : p.start < p.end) where
  sharing_clash : (d : ℕ) (rows : List Declared) → in_strand k d (map row_of rows) ≡ true → length (filter (λ r. shares_day p (days_of_row r)) rows) ≤ length (filter (clashes k p) (map row_of rows))
  sharing_clash d [] h = omega arith
  sharing_clash d (r ∷ rows) h =
      let b = begins_strand k d (row_of r) (map row_of rows) h in
      let less = sharing_clash r.period.end.number rows b.later in
      elim (cases_Bool (shares_day p (days_of_row r))) [
        | inl y ↦
            let days = and_parts (nat_lt r.period.start.number p.end) (nat_lt p.start r.period.end.number) (sym (law p (days_of_row r) some b.some) ∙ y) in
            let key : same_key r.key k ≡ true = subst (λ l. same_key r.key l ≡ true) b.key (same_key-itself r.key) in
            let clash : clashes k p (row_of r) ≡ true = and_from _ _ (and_from _ _ key days.0) days.1 in
            rw (y, clash) (omega (arith, less))
        | inr n ↦ elim (cases_Bool (clashes k p (row_of r))) [ inl y ↦ rw (n, y) (omega (arith, less)) | inr m ↦ rw (n, m) less ]
      ]

pub items_long : (m : Map) (k : List Value) → length (strands_of m k) ≡ length (items_of m k)
items_long m k = ap length (strand_items (get key_cmp m k)) ∙ length-map (items_of m k) row_of

module _ (m : Map) (ordered : IsOrdered key_cmp m) (in_strands : (l : List Value) → in_strand l 0 (strands_of m l) ≡ true) (k : List Value) where
  pub strand_length : length (filter (is_of k) (rows_in m.entries)) ≡ length (strands_of m k)
  strand_length = ap length (strand_of_key m ordered in_strands k)

  pub few_to_find : (old new : ℕ) → ((digits : ℕ) → length (items_of m k) < 2 ^ digits → new ≤ old + digits + 1) → FewToFind k (rows_in m.entries) old new
  few_to_find old new few digits short = few digits (subst (λ n. n < 2 ^ digits) (strand_length ∙ items_long m k) short)

  found_less : Sharing → (p : Period) → p.start < p.end → (place : ℕ) (found : List Declared) → AreSharing days_of_row p (items_of m k) place found → length found ≤ length (filter (clashes k p) (rows_in m.entries))
  found_less law p some place found s =
      let q : Declared → Bool = λ r. shares_day p (days_of_row r) in
      let here = strand_items (get key_cmp m k) in
      let stretch = stretch_less q s.before found s.after s.each in
      let items = ap (λ rs. length (filter q rs)) s.all in
      let clash = sharing_clash law k p some 0 (items_of m k) (sym (ap (in_strand k 0) here) ∙ in_strands k) in
      let strand = ap (λ rs. length (filter (clashes k p) rs)) (strand_of_key m ordered in_strands k ∙ here) in
      let less = twice_less (clashes k p) (is_of k) (rows_in m.entries) in
      omega (arith, stretch, items, clash, strand, less)

  pub few_to_correct : Sharing → (p : Period) → p.start < p.end → (place : ℕ) (found : List Declared) → AreSharing days_of_row p (items_of m k) place found →
      (old new : ℕ) → ((digits : ℕ) → length (items_of m k) < 2 ^ digits → new ≤ old + digits + digits + 1 + length found) → FewToCorrect k p (rows_in m.entries) old new
  few_to_correct law p some place found s old new few digits short =
      let most = few digits (subst (λ n. n < 2 ^ digits) (strand_length ∙ items_long m k) short) in
      let less = found_less law p some place found s in
      omega (arith, most, less)

-- ---- each row that goes was read

removed_once : (c : Action) (t : ℕ) (r : Row) → length (removed_at c t r) ≤ 1
unfolding rows_without
removed_once c t r = elim (cases_Bool (is_met c r)) [
  | inl y ↦ rw y (no_more (λ q. not (list_any (same_row q) (made c t r))) (r ∷ []))
  | inr n ↦ rw n (omega arith)
]

pub removed_few : (c : Action) (t : ℕ) (rows : List Row) → length (flat_map (removed_at c t) rows) ≤ length rows
removed_few c t [] = omega arith
removed_few c t (r ∷ rows) =
    let once = removed_once c t r in
    let rest = removed_few c t rows in
    let all = length-append (removed_at c t r) (flat_map (removed_at c t) rows) in
    omega (arith, once, rest, all)

-- ---- what WHERE names

pub no_more_than_all : (key : List Value) (p : Period) (rows : List Row) (old new : ℕ) → FewToCorrect key p rows old new → NoMoreThanAll rows old new
no_more_than_all key p rows old new few digits short =
    let strand = no_more (is_of key) rows in
    let met = no_more (clashes key p) rows in
    let most = few digits (omega (arith, strand, short)) in
    omega (arith, most, met)

-- what is of one key that WHERE names is of each
other_key : (cs : List Comparison) (key other : List Value) (rows : List Row) → IsNamed cs key → IsNamed cs other → ((r : Row) → Has rows r → length r.key ≡ length other) → (r : Row) → Has rows r → same_key r.key key ≡ true → key ≡ other
other_key cs key other rows named is each r h y =
    let mine : length r.key ≡ length key = ap length (same_key-true r.key key y) in
    one_named cs key other (sym mine ∙ each r h) named is

pub few_if_named : (cs : List Comparison) (p : Period) (columns : ℕ) (key : List Value) (rows : List Row) (old new : ℕ) → IsNamed cs key → FewToCorrect key p rows old new → FewIfNamed cs p columns rows old new
few_if_named cs p columns key rows old new named few other is each wide digits short =
    let one : (r : Row) → Has rows r → same_key r.key key ≡ true → key ≡ other = other_key cs key other rows named is each in
    let strand = filter_less (is_of key) (is_of other) rows (λ r h y. subst (λ l. is_of l r ≡ true) (one r h y) y) in
    let met = filter_less (clashes key p) (clashes other p) rows (λ r h y. subst (λ l. clashes l p r ≡ true) (one r h (and_parts _ _ (and_parts _ _ y).0).0) y) in
    let most = few digits (omega (arith, strand, short)) in
    omega (arith, most, met)

pub few_if_none : (cs : List Comparison) (p : Period) (columns : ℕ) (rows : List Row) (old new : ℕ) → (place : ℕ) × (place < columns) × (said_at place cs ≡ None) → FewIfNamed cs p columns rows old new
few_if_none cs p columns rows old new none key is each wide =
    let before = none.1 in
    absurd (none_named cs key none.0 (omega (arith, before, wide)) none.2 is)

-- ---- a table among the tables

columns_at-is : (xs : List TableRows) (n : ℕ) (d : TableRows) → n < length xs → columns_at xs n ≡ (get_or xs n d).columns
columns_at-is [] n d l = absurd (omega arith)
columns_at-is (x ∷ xs) zero d l = refl
columns_at-is (x ∷ xs) (suc n) d l = columns_at-is xs n d (omega (arith, l))

module _ (tables : List TableRows) (n : ℕ) (below : n < length tables) (x : TableRows) (here : x ≡ get_or tables n x) where
  pub rows_here : rows_of_table x ≡ rows_at rows_of_table tables n
  rows_here = ap rows_of_table here ∙ sym (rows_at-is rows_of_table tables n x below)

  columns_here : x.columns ≡ columns_at tables n
  columns_here = ap (λ t. t.columns) here ∙ sym (columns_at-is tables n x below)

  pub insert_at : (key other : List Value) (old new : ℕ) → key ≡ other → FewToInsert key (rows_of_table x) old new → FewToInsert other (rows_at rows_of_table tables n) old new
  insert_at key other old new same few = subst (λ k. FewToInsert k (rows_at rows_of_table tables n) old new) same (subst (λ rows. FewToInsert key rows old new) rows_here few)

  pub named_at : (cs : List Comparison) (p : Period) (old new : ℕ) → FewIfNamed cs p x.columns (rows_of_table x) old new → FewIfNamed cs p (columns_at tables n) (rows_at rows_of_table tables n) old new
  named_at cs p old new few =
      subst (λ columns. FewIfNamed cs p columns (rows_at rows_of_table tables n) old new) columns_here (subst (λ rows. FewIfNamed cs p x.columns rows old new) rows_here few)

  pub all_at : (old new : ℕ) → NoMoreThanAll (rows_of_table x) old new → NoMoreThanAll (rows_at rows_of_table tables n) old new
  all_at old new few = subst (λ rows. NoMoreThanAll rows old new) rows_here few

-- ---- how many columns the keys have, after one of the tables changed

pub columns_within : (xs : List TableRows) (n : ℕ) (x y : TableRows) (k : ℕ) (columns : ℕ → ℕ) → n < length xs → x ≡ get_or xs n x → y.columns ≤ max x.columns k → ((m : ℕ) → columns_at xs m ≤ columns m) → k ≤ columns n → (m : ℕ) → columns_at (set xs n y) m ≤ columns m
columns_within [] n x y k columns l here more h enough m = absurd (omega arith)
columns_within (z ∷ zs) zero x y k columns l here more h enough zero = let e = ap (λ t. t.columns) here in let f = h zero in omega (arith, more, e, enough, f)
columns_within (z ∷ zs) zero x y k columns l here more h enough (suc m) = h (suc m)
columns_within (z ∷ zs) (suc n) x y k columns l here more h enough zero = h zero
columns_within (z ∷ zs) (suc n) x y k columns l here more h enough (suc m) = columns_within zs n x y k (λ i. columns (suc i)) (omega (arith, l)) here more (λ i. h (suc i)) enough m

pub columns_same : (xs : List TableRows) (n : ℕ) (x y : TableRows) → n < length xs → x ≡ get_or xs n x → y.columns ≡ x.columns → (m : ℕ) → columns_at (set xs n y) m ≡ columns_at xs m
columns_same [] n x y l here same m = absurd (omega arith)
columns_same (z ∷ zs) zero x y l here same zero = same ∙ ap (λ t. t.columns) here
columns_same (z ∷ zs) zero x y l here same (suc m) = refl
columns_same (z ∷ zs) (suc n) x y l here same zero = refl
columns_same (z ∷ zs) (suc n) x y l here same (suc m) = columns_same zs n x y (omega (arith, l)) here same m

-- all are without columns, and one more is
pub none_more_columns : (xs : List TableRows) (y : TableRows) → y.columns ≡ 0 → ((n : ℕ) → columns_at xs n ≡ 0) → (n : ℕ) → columns_at (xs ++ y ∷ []) n ≡ 0
none_more_columns [] y e h zero = e
none_more_columns [] y e h (suc n) = refl
none_more_columns (x ∷ xs) y e h zero = h 0
none_more_columns (x ∷ xs) y e h (suc n) = none_more_columns xs y e (λ m. h (suc m)) n

pub has_at : {A : Type 0} (f : A → Row) (xs : List A) (i : ℕ) (x : A) → i < length xs → x ≡ get_or xs i x → Has (map f xs) (f x)
has_at f [] i x l here = absurd (omega arith)
has_at f (y ∷ ys) zero x l here = inl (ap f here)
has_at f (y ∷ ys) (suc i) x l here = inr (has_at f ys i x (omega (arith, l)) here)

pub columns_each : (xs : List TableRows) (n : ℕ) (x y : TableRows) → n < length xs → x ≡ get_or xs n x → (most m : ℕ) → columns_at xs m ≤ most → (m ≡ n → x.columns ≤ most → y.columns ≤ most) → columns_at (set xs n y) m ≤ most
columns_each [] n x y l here most m before more = absurd (omega arith)
columns_each (z ∷ zs) zero x y l here most zero before more = more refl (let e = ap (λ t. t.columns) here in omega (arith, before, e))
columns_each (z ∷ zs) zero x y l here most (suc m) before more = before
columns_each (z ∷ zs) (suc n) x y l here most zero before more = before
columns_each (z ∷ zs) (suc n) x y l here most (suc m) before more = columns_each zs n x y (omega (arith, l)) here most m before (λ e. more (ap suc e))

pub if_few : (b : Bool) (rows : List Row) (n : ℕ) → length rows ≤ n → length (cond b rows []) ≤ n
if_few true rows n few = few
if_few false rows n few = omega arith
