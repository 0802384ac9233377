-- DELETE of the end of the log.
use Rattle.std.proofs.Common.{◌≡◌, inl, inr, ℕ, zero, suc, ◌+◌, ◌<◌, ◌≤◌, ℤ, pos, List, [], ◌∷◌, ◌++◌, map, take, filter, flat_map, not, ◌||◌, cond, Bool, true, false, Some, None, Ok, refl, sym, ap, subst, ◌∙◌, arith, append_assoc}
use Rattle.std.proofs.lemmas.Int.{ints}
use Rattle.std.proofs.lemmas.Bool.Decides.{nat_tests}
use Rattle.std.proofs.lemmas.Bool.{cases_lt}
use Rattle.std.proofs.lemmas.List.Folds.{list_any-append}
use Rattle.std.proofs.lemmas.List.Sorted.{list_any-IsPermutation, IsPermutation-map, IsPermutation-sym, IsPermutation-trans}
use Rattle.std.specs.List.{list_any}
use Rattle.std.specs.List.Sorted.{IsPermutation}
use Rattle.std.specs.Ordering.{is_gt, is_eq}
use Rattle.sqlite.specs.declared.types.Value.TheVariants.{Null, Int}
use Rattle.sqlite.specs.Collation.TheVariants.{Binary}
use Rattle.sqlite_sql.specs.declared.ops.BinaryOp.TheVariants.{Compare}
use Rattle.sqlite_sql.specs.declared.ops.CompareOp.TheVariants.{Gt}
use Rattle.sqlite.specs.Order.{Row, value_cmp}
use Rattle.sqlite.specs.Ops.{binary}
use Rattle.sqlite_sql.specs.Ops.{is_true, from_truth}
use Rattle.sqlite.specs.Command.TheVariants.{Delete}
use Rattle.sqlite.specs.Query.{IsAnswer, output, Output}
use Rattle.sqlite_sql.specs.Query.{matches_as}
use Rattle.sqlite.specs.Program.{overlay}
use Rattle.sqlite.specs.Edit.{edit_of}
use Rattle.sqlite_rules.specs.Edit.{without_all, id_in}
use Rattle.sqlite.specs.Rowids.TheVariants.{Given}
use Rattle.sqlite_rules.specs.Calls.{ids_of}
use Rattle.sqlite.specs.Does.{Tally, Does}
use Rattle.sqlite.specs.Rows.{Written}
use Rattle.sqlite.specs.Tree.{Trees, has_rowid, without_rowid, rowid}
use Rattle.sqlite.specs.Listing.{understood}
use Rattle.sqlite.specs.Effect.{Database}
use Rattle.sqlite.specs.State.{State, mode_of, Executes}
use Rattle.sqlite.proofs.Callers.{statement_of, runs_as, one_step}
use Rattle.sqlite_value.proofs.OrderLemmas.{value_cmp-Int}
use Rattle.durable.specs.Contents.{Item, Contents}
use Rattle.durable.specs.Tables.{log, schema}
use Rattle.durable.specs.Rows.{entry_row, log_rows, in_order, Holds}
use Rattle.sqlite_keyed.proofs.ListLemmas.{IsPermutation-flat_map, IsPermutation-filter}
use Rattle.durable.proofs.Orders.{placed, unplaced}
use Rattle.durable.proofs.Parts.{went, same_value}
use Rattle.durable.proofs.Places.{zero_one, two_one}
use Rattle.durable.proofs.Meaning.{delete_text, delete_query, delete_is, delete_plain}

-- ---- the test

truth_back : (b : Bool) → is_true (from_truth (Some b)) ≡ b
truth_back true = refl
truth_back false = refl

is_above : (k i : ℕ) → Bool
is_above k i = is_true (binary (Compare Gt Binary) (Int (pos i)) (Int (pos k)))

above_by : (k i : ℕ) → is_above k i ≡ is_gt (value_cmp (Int (pos i)) (Int (pos k)))
unfolding is_above binary
above_by k i = truth_back _

above : (k i : ℕ) → k < i → is_above k i ≡ true
above k i low = above_by k i ∙ ap is_gt (value_cmp-Int (pos i) (pos k)) ∙ grind (arith, ints, nat_tests)

below : (k i : ℕ) → i ≤ k → is_above k i ≡ false
below k i low = above_by k i ∙ ap is_gt (value_cmp-Int (pos i) (pos k)) ∙ grind (arith, ints, nat_tests)

-- ---- the numbers that the DELETE finds

found : ℕ → List Row → List ℤ
found k rows = ids_of (map (λ (o : Output). o.1) (map (output delete_query) (flat_map (λ r. matches_as Null (λ _. []) delete_query.filter Rattle.sqlite_sql.specs.Query.end ((Int (pos k) ∷ []) ∷ r ∷ [])) rows)))

found_low : (k i : ℕ) (e : Item) (rows : List Row) → i ≤ k → found k (entry_row i e ∷ rows) ≡ found k rows
unfolding found is_above
found_low k i e rows low = rw (below k i low)

found_high : (k i : ℕ) (e : Item) (rows : List Row) → k < i → found k (entry_row i e ∷ rows) ≡ pos i ∷ found k rows
unfolding found is_above
found_high k i e rows low = rw (above k i low)

-- ---- the rows that it leaves

-- none of these numbers is the row's
abbrev kept : List ℤ → Row → Bool
kept ids r = not (list_any (λ id. has_rowid id r) ids)

all_kept : (rows : List Row) → filter (kept []) rows ≡ rows
all_kept [] = refl
all_kept (r ∷ rows) = ap (λ rs. r ∷ rs) (all_kept rows)

kept_more : (id : ℤ) (ids : List ℤ) (rows : List Row) → filter (kept ids) (without_rowid id rows) ≡ filter (kept (id ∷ ids)) rows
kept_more id ids [] = refl
kept_more id ids (r ∷ rows) = go (has_rowid id r) refl (kept_more id ids rows)
  where
    go : (b : Bool) → has_rowid id r ≡ b → filter (kept ids) (without_rowid id rows) ≡ filter (kept (id ∷ ids)) rows → filter (kept ids) (without_rowid id (r ∷ rows)) ≡ filter (kept (id ∷ ids)) (r ∷ rows)
    go true is more = rw is more
    go false is more = rw is (ap (λ l. cond (kept ids r) (r ∷ l) l) more)

without_is : (ids : List ℤ) (rows : List Row) → without_all rows ids ≡ filter (kept ids) rows
without_is [] rows = sym (all_kept rows)
without_is (id ∷ ids) rows = without_is ids (without_rowid id rows) ∙ kept_more id ids rows

own_number : (i : ℕ) (e : Item) → has_rowid (pos i) (entry_row i e) ≡ true
own_number i e = ap is_eq (value_cmp-Int (pos i) (pos i)) ∙ grind (arith, ints, nat_tests)

other_number : (i j : ℕ) (e : Item) → i < j → has_rowid (pos j) (entry_row i e) ≡ false
other_number i j e low = ap is_eq (value_cmp-Int (pos i) (pos j)) ∙ grind (arith, ints, nat_tests)

not_found : (k j : ℕ) (e : Item) (i : ℕ) (es : List Item) → j < i → list_any (λ id. has_rowid id (entry_row j e)) (found k (log_rows i es)) ≡ false
unfolding found
not_found k j e i [] low = refl
not_found k j e i (x ∷ es) low = elim (cases_lt k i) [
  | inr down ↦ rw (found_low k i x (log_rows (i + 1) es) down) (not_found k j e (i + 1) es (omega arith))
  | inl up ↦ rw (found_high k i x (log_rows (i + 1) es) up) (rw (other_number j i e low) (not_found k j e (i + 1) es (omega arith)))
]

or_true : (b c : Bool) → (b || (true || c)) ≡ true
or_true true c = refl
or_true false c = refl

taken : (pre : List ℤ) (i : ℕ) (e : Item) (rest : List ℤ) → kept (pre ++ pos i ∷ rest) (entry_row i e) ≡ false
taken pre i e rest =
    let p = λ (id : ℤ). has_rowid id (entry_row i e) in
    let any : list_any p (pre ++ pos i ∷ rest) ≡ true = list_any-append p pre (pos i ∷ rest) ∙ ap (λ b. list_any p pre || (b || list_any p rest)) (own_number i e) ∙ or_true (list_any p pre) (list_any p rest) in
    ap not any

cleared : (k i : ℕ) (es : List Item) (pre : List ℤ) → k < i → filter (kept (pre ++ found k (log_rows i es))) (log_rows i es) ≡ []
cleared k i [] pre low = refl
cleared k i (e ∷ es) pre low =
    let rest = found k (log_rows (i + 1) es) in
    let next : k < i + 1 = omega arith in
    let more : filter (kept (pre ++ pos i ∷ rest)) (log_rows (i + 1) es) ≡ [] = subst (λ ids. filter (kept ids) (log_rows (i + 1) es) ≡ []) (append_assoc pre (pos i ∷ []) rest) (cleared k (i + 1) es (pre ++ pos i ∷ []) next) in
    let one : filter (kept (pre ++ pos i ∷ rest)) (log_rows i (e ∷ es)) ≡ [] = ap (λ b. cond b (entry_row i e ∷ filter (kept (pre ++ pos i ∷ rest)) (log_rows (i + 1) es)) (filter (kept (pre ++ pos i ∷ rest)) (log_rows (i + 1) es))) (taken pre i e rest) ∙ more in
    subst (λ ids. filter (kept (pre ++ ids)) (log_rows i (e ∷ es)) ≡ []) (sym (found_high k i e (log_rows (i + 1) es) low)) one

cut_rows : (m k i : ℕ) (es : List Item) → m + i ≡ k + 1 → filter (kept (found k (log_rows i es))) (log_rows i es) ≡ log_rows i (take m es)
cut_rows zero k i es sum = let low : k < i = omega arith in cleared k i es [] low
cut_rows (suc m) k i [] sum = refl
cut_rows (suc m) k i (e ∷ es) sum =
    let low : i ≤ k = omega arith in
    let here : i < i + 1 = omega arith in
    let next : m + (i + 1) ≡ k + 1 = omega arith in
    let ids = found k (log_rows (i + 1) es) in
    let stays : kept ids (entry_row i e) ≡ true = ap not (not_found k i e (i + 1) es here) in
    let one : filter (kept ids) (log_rows i (e ∷ es)) ≡ log_rows i (take (suc m) (e ∷ es)) = ap (λ b. cond b (entry_row i e ∷ filter (kept ids) (log_rows (i + 1) es)) (filter (kept ids) (log_rows (i + 1) es))) stays ∙ ap (λ rs. entry_row i e ∷ rs) (cut_rows m k (i + 1) es next) in
    subst (λ ns. filter (kept ns) (log_rows i (e ∷ es)) ≡ log_rows i (take (suc m) (e ∷ es))) (sym (found_low k i e (log_rows (i + 1) es) low)) one

kept_alike : (a b : List ℤ) → IsPermutation a b → kept b ≡ kept a
kept_alike a b same = λ i r. not (sym (list_any-IsPermutation (λ id. has_rowid id r) a b same) i)

-- ---- the statement

answer : (db : Trees) (k : ℕ) (rows : List Row) → IsAnswer delete_query (overlay db []) (Int (pos k) ∷ []) rows → IsPermutation (found k (db 1)) (ids_of rows)
unfolding found
answer db k rows a =
    let show = λ (p : Output). p.1 in
    let alike = IsPermutation-map (λ (r : Row). id_in (rowid r)) _ _ (IsPermutation-map show a.kept a.ordered a.same) in
    let listed : ids_of (map show a.kept) ≡ found k (db 1) = ap (λ os. ids_of (map show os)) (a.distinct ∙ ap (map (output delete_query)) a.grouped) in
    let shown : ids_of (map show a.ordered) ≡ ids_of rows = ap ids_of (sym a.shown) in
    subst (λ ids. IsPermutation ids (ids_of rows)) listed (subst (IsPermutation (ids_of (map show a.kept))) shown alike)

found_alike : (k : ℕ) (rows others : List Row) → IsPermutation rows others → IsPermutation (found k rows) (found k others)
unfolding found
found_alike k rows others same =
    IsPermutation-map (λ (r : Row). id_in (rowid r)) _ _ (IsPermutation-map (λ (p : Output). p.1) _ _ (IsPermutation-map (output delete_query) _ _ (IsPermutation-flat_map _ rows others same)))

-- what is left of the rows of a log, in whatever order they are
left_placed : (k : ℕ) (es : List Item) (rows : List Row) (ids : List ℤ) → in_order rows ≡ log_rows 1 es → IsPermutation (found k rows) ids → in_order (filter (kept ids) rows) ≡ log_rows 1 (take k es)
left_placed k es rows ids is listed =
    let same = unplaced 1 es rows is in
    let all = IsPermutation-trans _ _ _ (IsPermutation-sym _ _ (found_alike k rows (log_rows 1 es) same)) listed in
    let left : filter (kept ids) (log_rows 1 es) ≡ log_rows 1 (take k es) = ap (λ test. filter test (log_rows 1 es)) (kept_alike _ _ all) ∙ cut_rows k k 1 es refl in
    placed 1 (take k es) (filter (kept ids) rows) (subst (IsPermutation (filter (kept ids) rows)) left (IsPermutation-filter (kept ids) rows (log_rows 1 es) same))

pub cuts : (old new : State) (d : Contents) (k : ℕ) (count : ℕ) → Holds old.now d → Executes delete_text (Int (pos k) ∷ []) old new (Ok count)
    → Holds new.now (record d { log = take k d.log })
cuts old new d k count has h =
    let params : Row = Int (pos k) ∷ [] in
    let db = old.now.trees in
    let command = Delete 1 (record { lets = []; body = delete_query }) in
    let w = runs_as delete_text params old new schema has.tables command delete_is delete_plain count h in
    let text = statement_of delete_text (understood schema delete_text) in
    let done = went (subst (λ s. Does old.step_limit (mode_of old) params (record old.now { schema = s }) text None command (Ok (w.tally, new.now))) has.tables w.changed) in
    let now = ap (λ (p : Tally × Database). p.1) (same_value (went (went done.2).2).2) in
    let queried = went done.1 in
    let ids = answer db k queried.0 (queried.1.answer Null) in
    let written = went queried.2 in
    let trees : done.0.trees ≡ written.0 = ap (λ (it : Written). it.trees) (same_value written.2) in
    let applied = one_step schema _ db written.0 (edit_of db log (ids_of queried.0) Given 0 []) refl written.1 in
    let one = ap (λ (b : Database). in_order (b.trees 1)) now ∙ ap (λ (x : Trees). in_order (x 1)) trees ∙ ap in_order (applied.rows ∙ without_is (ids_of queried.0) (db 1)) ∙ left_placed k d.log (db 1) (ids_of queried.0) has.log ids in
    let zero = ap (λ (b : Database). b.trees 0) now ∙ ap (λ (x : Trees). x 0) trees ∙ applied.others 0 zero_one tt ∙ has.meta in
    let two = ap (λ (b : Database). b.trees 2) now ∙ ap (λ (x : Trees). x 2) trees ∙ applied.others 2 two_one tt ∙ has.floor in
    record { tables = ap (λ (b : Database). b.schema) now; meta = zero; log = one; floor = two }
