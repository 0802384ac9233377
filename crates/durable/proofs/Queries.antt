-- What a query of one entry answers.
use Rattle.std.proofs.Common.{◌≡◌, inl, inr, ℕ, zero, suc, ◌+◌, ◌<◌, pos, List, [], ◌∷◌, ◌++◌, length, map, flat_map, slice_get, option_map, IsSome, ◌↔◌, Bool, true, false, Option, Some, None, refl, sym, ap, subst, ◌∙◌, arith, length-append}
use Rattle.std.proofs.lemmas.Int.{ints}
use Rattle.std.proofs.lemmas.Bool.Decides.{nat_tests}
use Rattle.std.proofs.lemmas.List.Sorted.{length_permutation}
use Rattle.std.specs.List.Sorted.{IsPermutation}
use Rattle.std.specs.Ordering.{is_eq}
use Rattle.std.specs.Option.{option_to_list}
use Rattle.sqlite.specs.declared.types.Value.TheVariants.{Null, Int}
use Rattle.sqlite.specs.Collation.TheVariants.{Binary}
use Rattle.sqlite_sql.specs.declared.ops.BinaryOp.TheVariants.{Compare}
use Rattle.sqlite_sql.specs.declared.ops.CompareOp.TheVariants.{Eq}
use Rattle.sqlite.specs.Order.{Row, value_cmp}
use Rattle.sqlite.specs.Ops.{binary}
use Rattle.sqlite_sql.specs.Ops.{is_true, from_truth}
use Rattle.sqlite.specs.Query.{IsAnswer, output, Output}
use Rattle.sqlite_sql.specs.Query.{matches_as}
use Rattle.sqlite_sql.specs.Term.{Env}
use Rattle.sqlite.specs.Program.{overlay}
use Rattle.sqlite.specs.Tree.{Trees}
use Rattle.sqlite.specs.declared.error.Error.{Error}
use Rattle.sqlite.specs.Listing.{understood}
use Rattle.sqlite.specs.Effect.{Database}
use Rattle.sqlite.specs.State.{State, IsUnchanged, IsRolledBack, KeepsCommit, IsNotRun, FailsToQuery, Shown}
use Rattle.sqlite.proofs.Callers.{IsPlain, reads_as, one_permutation}
use Rattle.sqlite_value.proofs.OrderLemmas.{value_cmp-Int}
use Rattle.durable.specs.Contents.{Item, Contents}
use Rattle.durable.specs.Tables.{schema}
use Rattle.durable.specs.Rows.{entry_row, entry_values, log_rows, in_order, Holds}
use Rattle.std.proofs.lemmas.List.Sorted.{IsPermutation-map, IsPermutation-sym, IsPermutation-trans}
use Rattle.sqlite_keyed.proofs.ListLemmas.{IsPermutation-flat_map}
use Rattle.durable.proofs.Orders.{unplaced}
use Rattle.durable.proofs.Meaning.{read_entry, entry_query, entry_is, entry_plain}

truth_back : (b : Bool) → is_true (from_truth (Some b)) ≡ b
truth_back true = refl
truth_back false = refl

is_number : (j i : ℕ) → Bool
is_number j i = is_true (binary (Compare Eq Binary) (Int (pos i)) (Int (pos j)))

number_by : (j i : ℕ) → is_number j i ≡ is_eq (value_cmp (Int (pos i)) (Int (pos j)))
unfolding is_number binary
number_by j i = truth_back _

own : (j : ℕ) → is_number j j ≡ true
own j = number_by j j ∙ ap is_eq (value_cmp-Int (pos j) (pos j)) ∙ grind (arith, ints, nat_tests)

early : (j i : ℕ) → i < j → is_number j i ≡ false
early j i low = number_by j i ∙ ap is_eq (value_cmp-Int (pos i) (pos j)) ∙ grind (arith, ints, nat_tests)

late : (j i : ℕ) → j < i → is_number j i ≡ false
late j i low = number_by j i ∙ ap is_eq (value_cmp-Int (pos i) (pos j)) ∙ grind (arith, ints, nat_tests)

found : ℕ → List Row → List Env
found j rows = flat_map (λ r. matches_as Null (λ _. []) entry_query.filter Rattle.sqlite_sql.specs.Query.end ((Int (pos j) ∷ []) ∷ r ∷ [])) rows

passed : (j i : ℕ) (e : Item) (rows : List Row) → is_number j i ≡ false → found j (entry_row i e ∷ rows) ≡ found j rows
unfolding found is_number
passed j i e rows is = rw is

met : (j i : ℕ) (e : Item) (rows : List Row) → is_number j i ≡ true → found j (entry_row i e ∷ rows) ≡ ((Int (pos j) ∷ []) ∷ entry_row i e ∷ []) ∷ found j rows
unfolding found is_number
met j i e rows is = rw is

no_more : (j i : ℕ) (es : List Item) → j < i → found j (log_rows i es) ≡ []
unfolding found
no_more j i [] low = refl
no_more j i (e ∷ es) low = let next : j < i + 1 = omega arith in passed j i e (log_rows (i + 1) es) (late j i low) ∙ no_more j (i + 1) es next

only : ℕ → Option Item → List Env
only j None = []
only j (Some e) = ((Int (pos j) ∷ []) ∷ entry_row j e ∷ []) ∷ []

picked : (m j i : ℕ) (es : List Item) → m + i ≡ j → found j (log_rows i es) ≡ only j (slice_get es m)
unfolding found only
picked zero j i [] is = refl
picked (suc m) j i [] is = refl
picked zero j i (e ∷ es) is =
    let same : i ≡ j = omega arith in
    let past : j < i + 1 = omega arith in
    let here : is_number j i ≡ true = ap (is_number j) same ∙ own j in
    met j i e (log_rows (i + 1) es) here ∙ ap (λ envs. ((Int (pos j) ∷ []) ∷ entry_row i e ∷ []) ∷ envs) (no_more j (i + 1) es past) ∙ ap (λ n. ((Int (pos j) ∷ []) ∷ entry_row n e ∷ []) ∷ []) same
picked (suc m) j i (e ∷ es) is =
    let low : i < j = omega arith in
    let next : m + (i + 1) ≡ j = omega arith in
    passed j i e (log_rows (i + 1) es) (early j i low) ∙ picked m j (i + 1) es next

abbrev pub shown_rows : ℕ → Option Item → List Row
shown_rows j None = []
shown_rows j (Some e) = entry_values j e ∷ []

-- the values of an INSERT tell the entry
pub same_item : (i j : ℕ) (a b : Item) → entry_values i a ≡ entry_values j b → a ≡ b
same_item i j a b e = record_of (cc) (cc) (cc) (cc) (cc)
  where
    record_of : a.term ≡ b.term → a.stamp ≡ b.stamp → a.client ≡ b.client → a.number ≡ b.number → a.body ≡ b.body → a ≡ b
    record_of t s c n y = λ k. record { term = t k; stamp = s k; client = c k; number = n k; body = y k }

nothing : {X : Type 0} (ys : List X) → IsPermutation [] ys → ys ≡ []
nothing [] h = refl
nothing (y ∷ ys) h = absurd (let e = length_permutation [] (y ∷ ys) h in omega (arith, e))

ordered_is : (j : ℕ) (o : Option Item) (kept ordered : List Output) → kept ≡ map (output entry_query) (only j o) → IsPermutation kept ordered → map (λ (p : Output). p.1) ordered ≡ shown_rows j o
unfolding only
ordered_is j None kept ordered is same = ap (map (λ (p : Output). p.1)) (nothing ordered (subst (λ k. IsPermutation k ordered) is same))
ordered_is j (Some e) kept ordered is same = ap (map (λ (p : Output). p.1)) (one_permutation ([], entry_values j e) ordered (subst (λ k. IsPermutation k ordered) is same))

answer : (db : Trees) (m : ℕ) (es : List Item) (rows : List Row) → in_order (db 1) ≡ log_rows 1 es → IsAnswer entry_query (overlay db []) (Int (pos (m + 1)) ∷ []) rows → rows ≡ shown_rows (m + 1) (slice_get es m)
unfolding found
answer db m es rows has a =
    let out = output entry_query in
    let one = only (m + 1) (slice_get es m) in
    let met_here : IsPermutation (found (m + 1) (db 1)) one = subst (IsPermutation (found (m + 1) (db 1))) (picked m (m + 1) 1 es refl) (IsPermutation-flat_map _ (db 1) (log_rows 1 es) (unplaced 1 es (db 1) has)) in
    let kept : a.kept ≡ map out (found (m + 1) (db 1)) = a.distinct ∙ ap (map out) a.grouped in
    let same : IsPermutation (map out one) a.ordered = IsPermutation-trans _ _ _ (IsPermutation-sym _ _ (IsPermutation-map out _ _ met_here)) (subst (λ k. IsPermutation k a.ordered) kept a.same) in
    a.shown ∙ ordered_is (m + 1) (slice_get es m) (map out one) a.ordered refl same

pub reads_entry : (old new : State) (d : Contents) (m : ℕ) (rows : List Row) → Holds old.now d → Shown read_entry (Int (pos (m + 1)) ∷ []) old new rows → rows ≡ shown_rows (m + 1) (slice_get d.log m)
reads_entry old new d m rows has h =
    let read = reads_as read_entry (Int (pos (m + 1)) ∷ []) old new schema has.tables _ entry_is.0 entry_plain entry_is.1 rows h in
    answer old.now.trees m d.log rows has.log (read.answer Null)

pub shown_keeps : (old new : State) → IsUnchanged old new → KeepsCommit old new
shown_keeps old new same = record { was_open = λ _. same.0.was_open; committed = λ _. same.0.committed_is }

rolled_keeps : (old new : State) → IsRolledBack old new → KeepsCommit old new
rolled_keeps old new back = record { was_open = back.was_open; committed = λ still. (back.undone still).1 }

-- a query that fails commits nothing
pub failed_keeps : (sql : List ℕ) (params : Row) (old new : State) (e : Error) → IsPlain (understood old.now.schema sql) → FailsToQuery sql params old new e → KeepsCommit old new
unfolding FailsToQuery IsNotRun
failed_keeps sql params old new e plain (inl (inl h)) = shown_keeps old new h.1
failed_keeps sql params old new e plain (inl (inr h)) = rolled_keeps old new h.3
failed_keeps sql params old new e plain (inr h) =
    let none = (subst IsPlain h.1.is plain).0 in
    shown_keeps old new (rw none at h.2).3

pub shown_same : (sql : List ℕ) (params : Row) (old new : State) (rows : List Row) → IsPlain (understood old.now.schema sql) → Shown sql params old new rows → IsUnchanged old new
unfolding Shown
shown_same sql params old new rows plain h =
    let none = (subst IsPlain h.1.is plain).0 in
    (rw none at h.2).3

pub entry_plain_in : (db : Database) (d : Contents) → Holds db d → IsPlain (understood db.schema read_entry)
entry_plain_in db d has = subst (λ s. IsPlain (understood s read_entry)) (sym has.tables) entry_plain

-- what is taken off the end of at most one row
pub last_of : (j : ℕ) (o : Option Item) (before : List Row) (out : Option Row) (n : ℕ) → n ≡ length (shown_rows j o) → (IsSome out ↔ (0 < n)) → shown_rows j o ≡ before ++ option_to_list out → out ≡ option_map (entry_values j) o
last_of j o before out n long some is = go o before out n long some is (sym (length-append before (option_to_list out)) ∙ ap length (sym is))
  where
    go : (o : Option Item) (before : List Row) (out : Option Row) (n : ℕ) → n ≡ length (shown_rows j o) → (IsSome out ↔ (0 < n)) → shown_rows j o ≡ before ++ option_to_list out
        → length before + length (option_to_list out) ≡ length (shown_rows j o) → out ≡ option_map (entry_values j) o
    go None before None n long some is sum = refl
    go None before (Some r) n long some is sum = absurd (omega (arith, sum))
    go (Some e) [] None n long some is sum = absurd (omega (arith, sum))
    go (Some e) [] (Some r) n long some is sum = cc
    go (Some e) (b ∷ bs) None n long some is sum = absurd (let it = some.1 (omega (arith, long)) in cc)
    go (Some e) (b ∷ bs) (Some r) n long some is sum = absurd (omega (arith, sum))
