-- What walks over rows come to.
use Rattle.std.proofs.Common.{◌≡◌, ℕ, ◌+◌, ◌<◌, ◌≤◌, ◌==◌, Bool, true, false, cond, List, [], ◌∷◌, ◌++◌, map, filter, drop, length, get_or, refl, sym, ap, ◌∙◌, subst, inl, inr, arith}
use Rattle.std.proofs.lemmas.Bool.{cases_Bool, eqb-true}
use Rattle.std.proofs.lemmas.List.{length-append, length-map}
use Rattle.std.proofs.lemmas.List.Elements.{filter-append}
use Rattle.std.specs.List.{list_any}
use Rattle.std.specs.List.Sorted.{IsStrictlySortedBy}
use Rattle.model.specs.declared.value.Value.{Value}
use Rattle.model.specs.Values.{key_cmp}
use Rattle.model.specs.Tables.{Row}
use Rattle.model.specs.Transactions.{Reference}
use Rattle.rowlaws.specs.Rows.{Has}
use Rattle.rowlaws.specs.Statements.{Rows}
use Rattle.rowlaws.proofs.RowFacts.{both}
use Rattle.current.specs.Reads.{total, is_of, judging, key_count, seeking}
use Rattle.current.specs.declared.row.Row.{Row as Declared}
use Rattle.current.specs.Rows.{row_of}
use Rattle.current.specs.ByKey.{rows_in, in_strand}
use Rattle.current.proofs.InStrand.{each_in_strand}
use Rattle.current.proofs.Lists.{drop_here, no_items}
use Rattle.current.proofs.Counting.{product_less}
use Rattle.current.proofs.Meeting.{none_back}
use Rattle.current.proofs.OfKey.{none_later}
use Rattle.current.proofs.Planning.{Entry}

module _ {A B : Type 0} (f : A → B) (cost : B → ℕ) (xs : List A) (i : ℕ) (x : A) (below : i < length xs) (here : x ≡ get_or xs i x) where
  here_costs : total cost (map f (drop i xs)) ≡ cost (f x) + total cost (map f (drop (i + 1) xs))
  here_costs = ap (λ ys. total cost (map f ys)) (drop_here xs i x below here)

  -- one more is done
  pub costs_next : (count next most : ℕ) → count + total cost (map f (drop i xs)) ≤ most → next ≤ count + cost (f x) → next + total cost (map f (drop (i + 1) xs)) ≤ most
  costs_next count next most before few = let e = here_costs in omega (arith, e, before, few)

  -- and no more follow
  pub costs_last : (count next most : ℕ) → count + total cost (map f (drop i xs)) ≤ most → next ≤ count + cost (f x) → next ≤ most
  costs_last count next most before few = let e = costs_next count next most before few in omega (arith, e)

-- ---- totals

pub one_each : {A : Type 0} (cost : A → ℕ) (xs : List A) → total (λ x. 1 + cost x) xs ≡ length xs + total cost xs
one_each cost [] = refl
one_each cost (x ∷ xs) = let rest = one_each cost xs in omega (arith, rest)

pub total_map : {A B : Type 0} (f : A → B) (cost : B → ℕ) (xs : List A) → total cost (map f xs) ≡ total (λ x. cost (f x)) xs
total_map f cost [] = refl
total_map f cost (x ∷ xs) = ap (λ n. cost (f x) + n) (total_map f cost xs)

total_append : {A : Type 0} (cost : A → ℕ) (xs ys : List A) → total cost (xs ++ ys) ≡ total cost xs + total cost ys
total_append cost [] ys = omega arith
total_append cost (x ∷ xs) ys = let rest = total_append cost xs ys in omega (arith, rest)

passing_more : {A : Type 0} (cost more : A → ℕ) (p q : A → Bool) (xs : List A) → ((x : A) → p x ≡ true → q x ≡ true) → ((x : A) → cost x ≤ more x) → total cost (filter p xs) ≤ total more (filter q xs)
passing_more cost more p q [] h less = omega arith
passing_more cost more p q (x ∷ xs) h less =
    let rest = passing_more cost more p q xs h less in
    let here = less x in
    elim (cases_Bool (p x)) [
      | inl y ↦ rw (y, h x y) (omega (arith, here, rest))
      | inr n ↦ elim (cases_Bool (q x)) [ inl y ↦ rw (n, y) (omega (arith, rest)) | inr m ↦ rw (n, m) rest ]
    ]

-- ---- rows that are looked for key by key

module _ (digits : ℕ) (all : Rows) (fs : List Reference) where
  judged_more : (q r : Row → Bool) (x : Row) → (q x ≡ true → r x ≡ true) → 1 + cond (q x) (judging digits all fs x) 0 ≤ 1 + cond (r x) (judging digits all fs x) 0
  judged_more q r x h = elim (cases_Bool (q x)) [ inl y ↦ rw (y, h y) (omega arith) | inr n ↦ rw n (omega arith) ]

  pub seeking_more : (p q some judged : Row → Bool) (rows : List Row) → ((r : Row) → p r ≡ true → some r ≡ true) → ((r : Row) → q r ≡ true → judged r ≡ true) → seeking digits all fs p q rows ≤ seeking digits all fs some judged rows
  seeking_more p q some judged rows h g =
      let rest = passing_more (λ r. 1 + cond (q r) (judging digits all fs r) 0) (λ r. 1 + cond (judged r) (judging digits all fs r) 0) p some rows h (λ r. judged_more q judged r (g r)) in
      omega (arith, rest)

keys_append : (xs ys : List Row) → ((r : Row) → Has xs r → list_any (is_of r.key) ys ≡ false) → key_count (xs ++ ys) ≡ key_count xs + key_count ys
keys_append [] ys h = omega arith
keys_append (x ∷ xs) ys h =
    let rest = keys_append xs ys (λ r i. h r (inr i)) in
    rw (none_back (is_of x.key) xs ys (h x (inl refl))) (omega (arith, rest))

some_key : (r : Row) (rows : List Row) → 1 ≤ key_count (r ∷ rows)
some_key r [] = omega arith
some_key r (q ∷ rows) = let rest = some_key q rows in omega (arith, rest)

none_filtered : {A : Type 0} (f : A → Bool) (xs : List A) → filter f xs ≡ [] → list_any f xs ≡ false
none_filtered f [] h = refl
none_filtered f (x ∷ xs) h = elim (cases_Bool (f x)) [
  | inl y ↦ let e : x ∷ filter f xs ≡ [] = sym (rw y refl) ∙ h in cc
  | inr n ↦ rw n (none_filtered f xs (sym (rw n refl) ∙ h))
]

pub later_sorted : (e : Entry) (rest : List Entry) → IsStrictlySortedBy key_cmp (map (λ x. x.0) (e ∷ rest)) → IsStrictlySortedBy key_cmp (map (λ x. x.0) rest)
unfolding IsStrictlySortedBy
later_sorted e rest s = s.1

-- no later key is the first
none_of_later : (e : Entry) (rest : List Entry) → IsStrictlySortedBy key_cmp (map (λ x. x.0) (e ∷ rest)) → ((x : Entry) → Has rest x → in_strand x.0 0 (map row_of x.1) ≡ true) → list_any (is_of e.0) (rows_in rest) ≡ false
unfolding IsStrictlySortedBy
none_of_later e rest s strands = none_filtered (is_of e.0) (rows_in rest) (none_later e.0 rest s.0 strands)

module _ (digits : ℕ) (all : Rows) (fs : List Reference) (some judged : Row → Bool) where
  -- one key more
  next_key : (k : List Value) (ds : List Declared) (rows : List Row) → (length ds == 0) ≡ false → in_strand k 0 (map row_of ds) ≡ true → list_any (is_of k) rows ≡ false
      → (digits + digits + 1) + total (λ r. 1 + cond (judged r) (judging digits all fs r) 0) (filter some (map row_of ds)) + seeking digits all fs some judged rows ≤ seeking digits all fs some judged (map row_of ds ++ rows)
  next_key k [] rows full strand none = let e : true ≡ false = full in absurd (both refl e)
  next_key k (d ∷ ds) rows full strand none =
      let cost : Row → ℕ = λ r. 1 + cond (judged r) (judging digits all fs r) 0 in
      let own = map row_of (d ∷ ds) in
      let keys = keys_append own rows (λ r h. subst (λ l. list_any (is_of l) rows ≡ false) (sym (each_in_strand k 0 own r strand h).key) none) in
      let one = some_key (row_of d) (map row_of ds) in
      let product = product_less (1 + key_count rows) (key_count (own ++ rows)) (digits + digits + 1) (omega (arith, keys, one)) in
      let costs = ap (total cost) (filter-append some own rows) ∙ total_append cost (filter some own) (filter some rows) in
      omega (arith, product, costs)

  module _ (e : Entry) (rest : List Entry) (sorted : IsStrictlySortedBy key_cmp (map (λ x. x.0) (e ∷ rest))) (strands : (x : Entry) → Has (e ∷ rest) x → in_strand x.0 0 (map row_of x.1) ≡ true) where
    pub seek_next : (length e.1 == 0) ≡ false
        → (digits + digits + 1) + total (λ r. 1 + cond (judged r) (judging digits all fs r) 0) (filter some (map row_of e.1)) + seeking digits all fs some judged (rows_in rest) ≤ seeking digits all fs some judged (rows_in (e ∷ rest))
    seek_next full = next_key e.0 e.1 (rows_in rest) full (strands e (inl refl)) (none_of_later e rest sorted (λ x h. strands x (inr h)))

pub seek_past : (digits : ℕ) (all : Rows) (fs : List Reference) (some judged : Row → Bool) (e : Entry) (rest : List Entry) → (length e.1 == 0) ≡ true → seeking digits all fs some judged (rows_in rest) ≡ seeking digits all fs some judged (rows_in (e ∷ rest))
seek_past digits all fs some judged e rest none = ap (λ (ds : List Declared). seeking digits all fs some judged (map row_of ds ++ rows_in rest)) (sym (no_items e.1 (eqb-true (length e.1) 0 none)))

-- a key has no more rows than all keys
pub strand_short : (es : List Entry) (e : Entry) → Has es e → length e.1 ≤ length (rows_in es)
strand_short [] e h = absurd h
strand_short (x ∷ es) e (inl same) =
    let here = ap (λ (y : Entry). length y.1) same in
    let both = length-append (map row_of x.1) (rows_in es) in
    let long = length-map x.1 row_of in
    omega (arith, here, both, long)
strand_short (x ∷ es) e (inr h) =
    let rest = strand_short es e h in
    let both = length-append (map row_of x.1) (rows_in es) in
    omega (arith, rest, both)
