-- What the queries of whole tables answer, of any rows.
use Rattle.std.proofs.Common.{drop, length, arith, true, Option, ◌≤◌, ◌≡◌, ℕ, ◌+◌, List, [], ◌∷◌, Some, map, flat_map, Ordering, Less, Equal, Greater, refl, sym, ap, subst, ◌∙◌, IsPermutation}
use Rattle.sqlite.specs.declared.types.Value.{Value}
use Rattle.sqlite.specs.declared.types.Value.TheVariants.{Null, Int, Real, Text, Blob}
use Rattle.sqlite_sql.specs.Ops.{is_null}
use Rattle.std.specs.List.{AllByRecursion}
use Rattle.std.proofs.lemmas.List.Sorted.{IsPermutation-map, IsPermutation-sym, IsPermutation-trans, length_permutation}
use Rattle.sqlite_trees.proofs.ListLemmas.{all-permutation}
use Rattle.durable.proofs.Orders.{log_ascends, placed, unplaced}
use Rattle.sqlite_schema.specs.Rules.{are_typed, passes}
use Rattle.sqlite_schema.specs.declared.schema.Constraint.TheVariants.{Datatype}
use Rattle.sqlite_schema.specs.declared.schema.Table as Table
use Rattle.sqlite_schema.specs.declared.schema.Column.{Column}
use Rattle.durable.specs.Contents.{Item}
use Rattle.durable.proofs.Offering.{both}
use Rattle.sqlite.specs.Order.{Row}
use Rattle.sqlite.specs.Query.{IsAnswer, output, page, Output}
use Rattle.sqlite_sql.specs.Query.{output_cmp}
use Rattle.sqlite_sql.proofs.QueryLemmas.{output_cmp_total}
use Rattle.sqlite_keyed.proofs.SortLemmas.{sorted_unique}
use Rattle.sqlite_keyed.proofs.ListLemmas.{ascending-map, ascending_weaker, map-map}
use Rattle.std.specs.Ordering.{ordering_then}
use Rattle.sqlite.specs.Program.{overlay}
use Rattle.sqlite.specs.Tree.{Trees}
use Rattle.sqlite_trees.specs.Tree.{IsAscending}
use Rattle.sqlite_catalog.specs.Listing.{IsSound}
use Rattle.sqlite.specs.State.{State, Shown}
use Rattle.sqlite.proofs.Callers.{reads_as, one_permutation}
use Rattle.durable.specs.Tables.{schema, meta, log, floor}
use Rattle.durable.specs.Rows.{meta_row, meta_values, floor_row, floor_values, shown_floor, entry_row, entry_values, log_rows, in_order, shown_log, shown_meta, shown_entry}
use Rattle.durable.proofs.Meaning.{read_meta, meta_query, meta_is, meta_plain, read_log, log_query, log_is, log_plain, read_floor, floor_query, floor_is, floor_plain}

then_equal : (o : Ordering) → ordering_then o Equal ≡ o
then_equal Less = refl
then_equal Equal = refl
then_equal Greater = refl

log_out : Row → Output
log_out r = output log_query ([] ∷ r ∷ [])

flat_ones : {A B : Type 0} (f : A → B) (xs : List A) → flat_map (λ x. f x ∷ []) xs ≡ map f xs
flat_ones f [] = refl
flat_ones f (x ∷ xs) = ap (λ l. f x ∷ l) (flat_ones f xs)

pub log_shown : (i : ℕ) (es : List Item) → map shown_entry (log_rows i es) ≡ shown_log i es
log_shown i [] = refl
log_shown i (e ∷ es) = ap (λ rows. entry_values i e ∷ rows) (log_shown (i + 1) es)

log_kept : (db : Trees) (rows : List Row) (a : IsAnswer log_query (overlay db []) [] rows) → a.kept ≡ map log_out (db 1)
unfolding log_out
log_kept db rows a =
    let staged : a.staged ≡ map (λ r. [] ∷ r ∷ []) (db 1) = a.grouped ∙ flat_ones (λ r. [] ∷ r ∷ []) (db 1) in
    a.distinct ∙ ap (map (output log_query)) staged ∙ map-map (output log_query) (λ r. [] ∷ r ∷ []) (db 1)

any_answer : (db : Trees) (rows : List Row) → IsAnswer log_query (overlay db []) [] rows → IsPermutation (map shown_entry (db 1)) rows
unfolding log_out
any_answer db rows a =
    let all = IsPermutation-map (λ (p : Output). p.1) a.kept a.ordered a.same in
    let from : IsPermutation (map shown_entry (db 1)) (map (λ (p : Output). p.1) a.ordered) = subst (λ l. IsPermutation l (map (λ (p : Output). p.1) a.ordered)) (ap (map (λ (p : Output). p.1)) (log_kept db rows a) ∙ map-map (λ (p : Output). p.1) log_out (db 1)) all in
    subst (IsPermutation (map shown_entry (db 1))) (sym a.shown) from

log_answer : (db : Trees) (rows : List Row) (es : List Item) → in_order (db 1) ≡ log_rows 1 es → IsAnswer log_query (overlay db []) [] rows → rows ≡ shown_log 1 es
unfolding log_out
log_answer db rows es has a =
    let l = log_rows 1 es in
    let rises : IsAscending (λ x y. output_cmp log_query x y ≡ Less) (map log_out l) =
    ascending-map (λ x y. output_cmp log_query x y ≡ Less) log_out l (ascending_weaker _ (λ r s. output_cmp log_query (log_out r) (log_out s) ≡ Less) (λ r s h. then_equal _ ∙ h) l (log_ascends 1 es)) in
    let same : IsPermutation (map log_out l) a.ordered = IsPermutation-trans _ _ _ (IsPermutation-sym _ _ (IsPermutation-map log_out (db 1) l (unplaced 1 es (db 1) has))) (subst (λ k. IsPermutation k a.ordered) (log_kept db rows a) a.same) in
    let ordered : a.ordered ≡ map log_out l = sorted_unique (output_cmp log_query) (output_cmp_total log_query) (map log_out l) a.ordered rises same a.sorted in
    a.shown ∙ ap (λ xs. page log_query [] (map (λ (p : Output). p.1) xs)) ordered ∙ map-map (λ (p : Output). p.1) log_out l ∙ log_shown 1 es

pub reads_any_log : (old new : State) (rows : List Row) → old.now.schema ≡ schema → Shown read_log [] old new rows → IsPermutation (map shown_entry (old.now.trees 1)) rows
reads_any_log old new rows has h = any_answer old.now.trees rows ((reads_as read_log [] old new schema has _ log_is.0 log_plain log_is.1 rows h).answer Null)

pub reads_log : (old new : State) (rows : List Row) → old.now.schema ≡ schema → Shown read_log [] old new rows → (es : List Item) → in_order (old.now.trees 1) ≡ log_rows 1 es → rows ≡ shown_log 1 es
reads_log old new rows has h es is =
    log_answer old.now.trees rows es is ((reads_as read_log [] old new schema has _ log_is.0 log_plain log_is.1 rows h).answer Null)

meta_out : Row → Output
meta_out r = output meta_query ([] ∷ r ∷ [])

meta_answer : (db : Trees) (rows : List Row) → IsAnswer meta_query (overlay db []) [] rows → IsPermutation (map shown_meta (db 0)) rows
unfolding meta_out
meta_answer db rows a =
    let staged : a.staged ≡ map (λ r. [] ∷ r ∷ []) (db 0) = a.grouped ∙ flat_ones (λ r. [] ∷ r ∷ []) (db 0) in
    let kept : a.kept ≡ map meta_out (db 0) = a.distinct ∙ ap (map (output meta_query)) staged ∙ map-map (output meta_query) (λ r. [] ∷ r ∷ []) (db 0) in
    let shown = map-map (λ (p : Output). p.1) meta_out (db 0) in
    let all = IsPermutation-map (λ (p : Output). p.1) a.kept a.ordered a.same in
    let from : IsPermutation (map shown_meta (db 0)) (map (λ (p : Output). p.1) a.ordered) = subst (λ l. IsPermutation l (map (λ (p : Output). p.1) a.ordered)) (ap (map (λ (p : Output). p.1)) kept ∙ shown) all in
    subst (IsPermutation (map shown_meta (db 0))) (sym a.shown) from

pub reads_any_meta : (old new : State) (rows : List Row) → old.now.schema ≡ schema → Shown read_meta [] old new rows → IsPermutation (map shown_meta (old.now.trees 0)) rows
reads_any_meta old new rows has h = meta_answer old.now.trees rows ((reads_as read_meta [] old new schema has _ meta_is.0 meta_plain meta_is.1 rows h).answer Null)

floor_out : Row → Output
floor_out r = output floor_query ([] ∷ r ∷ [])

floor_answer : (db : Trees) (rows : List Row) → IsAnswer floor_query (overlay db []) [] rows → IsPermutation (map shown_floor (db 2)) rows
unfolding floor_out
floor_answer db rows a =
    let staged : a.staged ≡ map (λ r. [] ∷ r ∷ []) (db 2) = a.grouped ∙ flat_ones (λ r. [] ∷ r ∷ []) (db 2) in
    let kept : a.kept ≡ map floor_out (db 2) = a.distinct ∙ ap (map (output floor_query)) staged ∙ map-map (output floor_query) (λ r. [] ∷ r ∷ []) (db 2) in
    let shown = map-map (λ (p : Output). p.1) floor_out (db 2) in
    let all = IsPermutation-map (λ (p : Output). p.1) a.kept a.ordered a.same in
    let from : IsPermutation (map shown_floor (db 2)) (map (λ (p : Output). p.1) a.ordered) = subst (λ l. IsPermutation l (map (λ (p : Output). p.1) a.ordered)) (ap (map (λ (p : Output). p.1)) kept ∙ shown) all in
    subst (IsPermutation (map shown_floor (db 2))) (sym a.shown) from

pub reads_any_floor : (old new : State) (rows : List Row) → old.now.schema ≡ schema → Shown read_floor [] old new rows → IsPermutation (map shown_floor (old.now.trees 2)) rows
reads_any_floor old new rows has h = floor_answer old.now.trees rows ((reads_as read_floor [] old new schema has _ floor_is.0 floor_plain floor_is.1 rows h).answer Null)

-- one row is shown, so one is there
pub only_row : (show : Row → Row) (all rows : List Row) (v : Row) → IsPermutation (map show all) rows → rows ≡ v ∷ [] → (r : Row) × (all ≡ r ∷ []) × (show r ≡ v)
only_row show [] rows v same is = absurd (let e = length_permutation [] rows same in omega (arith, e, ap length is))
only_row show (r ∷ []) rows v same is = (r, refl, let one = one_permutation (show r) rows same in cc)
only_row show (r ∷ s ∷ more) rows v same is = absurd (let e = length_permutation _ rows same in omega (arith, e, ap length is))

-- ---- rows of the declared types are known by what is shown of them

is_nothing : (v : Value) → is_null v ≡ true → v ≡ Null
is_nothing Null h = refl
is_nothing (Int n) h = absurd cc
is_nothing (Real x) h = absurd cc
is_nothing (Text t) h = absurd cc
is_nothing (Blob b) h = absurd cc

abbrev pub AreTyped : Table.Table → List Row → Type 0
AreTyped table = AllByRecursion (λ r. are_typed table.key 0 table.columns (drop 1 r) ≡ true)

-- a row has at most the declared columns
at_most : (key : Option ℕ) (at : ℕ) (cs : List Column) (vs : Row) → are_typed key at cs vs ≡ true → length vs ≤ length cs
at_most key at [] [] h = omega arith
at_most key at [] (v ∷ vs) h = absurd cc
at_most key at (c ∷ cs) [] h = omega arith
at_most key at (c ∷ cs) (v ∷ vs) h = let rest = at_most key (at + 1) cs vs (both _ (are_typed key (at + 1) cs vs) h).1 in omega (arith, rest)

pub meta_row_is : (r : Row) (t v : ℕ) → are_typed meta.key 0 meta.columns (drop 1 r) ≡ true → shown_meta r ≡ meta_values t v → r ≡ meta_row t v
meta_row_is [] t v typed is = absurd cc
meta_row_is (a ∷ []) t v typed is = absurd cc
meta_row_is (a ∷ b ∷ []) t v typed is = absurd cc
meta_row_is (a ∷ b ∷ c ∷ []) t v typed is = absurd cc
meta_row_is (a ∷ b ∷ c ∷ d ∷ []) t v typed is = let none = is_nothing b (both _ _ typed).0 in cc
meta_row_is (a ∷ b ∷ c ∷ d ∷ e ∷ more) t v typed is = absurd (let short = at_most (Some 0) 0 meta.columns (b ∷ c ∷ d ∷ e ∷ more) typed in omega (arith, short))

pub floor_row_is : (r : Row) (t : Option ℕ) → are_typed floor.key 0 floor.columns (drop 1 r) ≡ true → shown_floor r ≡ floor_values t → r ≡ floor_row t
floor_row_is [] t typed is = absurd cc
floor_row_is (a ∷ []) t typed is = absurd cc
floor_row_is (a ∷ b ∷ []) t typed is = absurd cc
floor_row_is (a ∷ b ∷ c ∷ []) t typed is = let none = is_nothing b (both _ _ typed).0 in cc
floor_row_is (a ∷ b ∷ c ∷ d ∷ more) t typed is = absurd (let short = at_most (Some 0) 0 floor.columns (b ∷ c ∷ d ∷ more) typed in omega (arith, short))

entry_row_is : (r : Row) (i : ℕ) (e : Item) → are_typed log.key 0 log.columns (drop 1 r) ≡ true → shown_entry r ≡ entry_values i e → r ≡ entry_row i e
entry_row_is [] i x typed is = absurd cc
entry_row_is (a ∷ []) i x typed is = absurd cc
entry_row_is (a ∷ b ∷ []) i x typed is = absurd cc
entry_row_is (a ∷ b ∷ c ∷ []) i x typed is = absurd cc
entry_row_is (a ∷ b ∷ c ∷ d ∷ []) i x typed is = absurd cc
entry_row_is (a ∷ b ∷ c ∷ d ∷ e ∷ []) i x typed is = absurd cc
entry_row_is (a ∷ b ∷ c ∷ d ∷ e ∷ f ∷ []) i x typed is = absurd cc
entry_row_is (a ∷ b ∷ c ∷ d ∷ e ∷ f ∷ g ∷ []) i x typed is = let none = is_nothing b (both _ _ typed).0 in cc
entry_row_is (a ∷ b ∷ c ∷ d ∷ e ∷ f ∷ g ∷ h ∷ more) i x typed is = absurd (let short = at_most (Some 0) 0 log.columns (b ∷ c ∷ d ∷ e ∷ f ∷ g ∷ h ∷ more) typed in omega (arith, short))

-- the row that shows this
unshown : Row → Row
unshown [] = []
unshown (v ∷ vs) = v ∷ Null ∷ vs

abbrev IsShownEntry : Row → Type 0
IsShownEntry v = (i : ℕ) × ((e : Item) × (v ≡ entry_values i e))

each_shown : (i : ℕ) (es : List Item) → AllByRecursion IsShownEntry (shown_log i es)
each_shown i [] = tt
each_shown i (e ∷ es) = ((i, (e, refl)), each_shown (i + 1) es)

each_back : (rows : List Row) → AreTyped log rows → AllByRecursion IsShownEntry (map shown_entry rows) → map unshown (map shown_entry rows) ≡ rows
unfolding unshown
each_back [] typed all = refl
each_back (r ∷ rows) typed all =
    let is : r ≡ entry_row all.0.0 all.0.1.0 = entry_row_is r all.0.0 all.0.1.0 typed.0 all.0.1.1 in
    let here : unshown (shown_entry r) ≡ r = ap (λ x. unshown (shown_entry x)) is ∙ sym is in
    ap (λ x. x ∷ map unshown (map shown_entry rows)) here ∙ ap (λ xs. r ∷ xs) (each_back rows typed.1 all.1)

log_unshown : (i : ℕ) (es : List Item) → map unshown (shown_log i es) ≡ log_rows i es
unfolding unshown
log_unshown i [] = refl
log_unshown i (e ∷ es) = ap (λ rows. entry_row i e ∷ rows) (log_unshown (i + 1) es)

pub log_rows_are : (rows shown : List Row) (es : List Item) → AreTyped log rows → IsPermutation (map shown_entry rows) shown → shown ≡ shown_log 1 es → in_order rows ≡ log_rows 1 es
log_rows_are rows shown es typed same is =
    let to : IsPermutation (map shown_entry rows) (shown_log 1 es) = subst (IsPermutation (map shown_entry rows)) is same in
    let all = all-permutation IsShownEntry (shown_log 1 es) (map shown_entry rows) (IsPermutation-sym _ _ to) (each_shown 1 es) in
    let back = IsPermutation-map unshown _ _ to in
    placed 1 es rows (subst (IsPermutation rows) (log_unshown 1 es) (subst (λ l. IsPermutation l (map unshown (shown_log 1 es))) (each_back rows typed all) back))

parts_typed : (table : Table.Table) (db : Trees) (rows : List Row) → AllByRecursion (λ row. passes Datatype schema db table row ≡ true) rows → AreTyped table rows
parts_typed table db [] all = tt
parts_typed table db (r ∷ rows) all = ((both _ _ all.0).0, parts_typed table db rows all.1)

pub meta_typed : (db : Trees) → IsSound schema db → AreTyped meta (db 0)
meta_typed db sound = parts_typed meta db (db 0) (sound.obeys.rules Datatype).0

pub log_typed : (db : Trees) → IsSound schema db → AreTyped log (db 1)
log_typed db sound = parts_typed log db (db 1) (sound.obeys.rules Datatype).1.0

pub floor_typed : (db : Trees) → IsSound schema db → AreTyped floor (db 2)
floor_typed db sound = parts_typed floor db (db 2) (sound.obeys.rules Datatype).1.1.0
