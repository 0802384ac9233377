-- Rows by their numbers.
use Rattle.std.proofs.Common.{◌≡◌, zero, suc, ℕ, ◌+◌, ◌<◌, List, [], ◌∷◌, ◌++◌, length, Bool, true, false, cond, true≢false, Ordering, Less, Equal, Greater, is_lt, is_gt, add-one, arith, refl, sym, ap, subst, ◌∙◌, IsPermutation, IsSorted}
use Rattle.std.specs.Cmp.{IsTotalOrder}
use Rattle.std.proofs.lemmas.Cmp.{upto, on_total}
use Rattle.sqlite_value.proofs.OrderLemmas.{value_cmp_total}
use Rattle.std.proofs.lemmas.List.Sorted.{IsPermutation-append_left}
use Rattle.sqlite_trees.proofs.ListLemmas.{all-permutation}
use Rattle.sqlite.specs.Tree.{put_row}
use Rattle.std.specs.List.{AllByRecursion}
use Rattle.std.specs.Ordering.{ordering_reverse}
use Rattle.std.proofs.lemmas.List.Sorted.{IsPermutation-trans, IsPermutation-sym}
use Rattle.sqlite_trees.specs.Tree.{IsAscending}
use Rattle.sqlite_keyed.specs.Lists.{insert_sorted}
use Rattle.sqlite_keyed.proofs.ListLemmas.{all_weaker}
use Rattle.sqlite_keyed.proofs.SortLemmas.{sorted_unique, IsPermutation-sort_by}
use Rattle.sqlite.specs.Order.{Row, column}
use Rattle.durable.specs.Contents.{Item}
use Rattle.durable.specs.Rows.{row_cmp, in_order, entry_row, log_rows}
use Rattle.durable.proofs.Places.{lower_id, put_next, one_more}

pub rows_total : IsTotalOrder row_cmp
rows_total = on_total (λ r. column r 0) value_cmp_total

-- one row after another
late_rows : (i j : ℕ) (e : Item) (es : List Item) → i < j → AllByRecursion (λ r. row_cmp (entry_row i e) r ≡ Less) (log_rows j es)
late_rows i j e [] low = tt
late_rows i j e (x ∷ es) low = (lower_id i j low, late_rows i (j + 1) e es (omega arith))

pub log_ascends : (i : ℕ) (es : List Item) → IsAscending (λ a b. row_cmp a b ≡ Less) (log_rows i es)
log_ascends i [] = tt
log_ascends i (e ∷ es) = (late_rows i (i + 1) e es (omega arith), log_ascends (i + 1) es)

abbrev AtMost : Row → Row → Type 0
AtMost a b = is_gt (row_cmp a b) ≡ false

turned : (o : Ordering) → is_gt o ≡ true → is_gt (ordering_reverse o) ≡ false
turned Less h = absurd (true≢false (sym h))
turned Equal h = absurd (true≢false (sym h))
turned Greater h = refl

turned_lt : (o : Ordering) → is_gt o ≡ false → is_lt (ordering_reverse o) ≡ false
turned_lt Less h = refl
turned_lt Equal h = refl
turned_lt Greater h = absurd (true≢false h)

at_most_then : (a b c : Row) → AtMost a b → AtMost b c → AtMost a c
at_most_then a b c p q = upto rows_total a b c p q

all_at_most : (a : Row) (new : Row) (xs : List Row) → AtMost a new → AllByRecursion (AtMost a) xs → AllByRecursion (AtMost a) (insert_sorted row_cmp new xs)
all_at_most a new [] h all = (h, tt)
all_at_most a new (x ∷ xs) h all =
    elim (is_gt (row_cmp new x)) as (λ b. AllByRecursion (AtMost a) (cond b (x ∷ insert_sorted row_cmp new xs) (new ∷ x ∷ xs))) [ true ↦ (all.0, all_at_most a new xs h all.1) | false ↦ (h, all) ]

inserted_rises : (new : Row) (xs : List Row) → IsAscending AtMost xs → IsAscending AtMost (insert_sorted row_cmp new xs)
inserted_rises new [] up = (tt, tt)
inserted_rises new (x ∷ xs) up = go (is_gt (row_cmp new x)) refl (inserted_rises new xs up.1)
  where
    go : (b : Bool) → is_gt (row_cmp new x) ≡ b → IsAscending AtMost (insert_sorted row_cmp new xs) → IsAscending AtMost (cond b (x ∷ insert_sorted row_cmp new xs) (new ∷ x ∷ xs))
    go true e more = (all_at_most x new xs (ap is_gt (rows_total.antisymm x new) ∙ turned _ e) up.0, more)
    go false e more = ((e, all_weaker _ (AtMost new) (λ z h. at_most_then new x z e h) xs up.0), up)

order_rises : (xs : List Row) → IsAscending AtMost (in_order xs)
order_rises [] = tt
order_rises (x ∷ xs) = inserted_rises x (in_order xs) (order_rises xs)

is_sorted : (xs : List Row) → IsAscending AtMost xs → IsSorted row_cmp xs
is_sorted [] up k d p q = absurd (omega arith)
is_sorted (x ∷ []) up k d p q = absurd (omega arith)
is_sorted (x ∷ y ∷ ys) up zero d p q = ap is_lt (rows_total.antisymm y x) ∙ turned_lt _ up.0.0
is_sorted (x ∷ y ∷ ys) up (suc k) d p q = let rest = is_sorted (y ∷ ys) up.1 k d (omega arith) (omega arith) in rw add-one (rw add-one at rest)

-- the rows are those of the log in some order just where they are so in their order
pub placed : (i : ℕ) (es : List Item) (rows : List Row) → IsPermutation rows (log_rows i es) → in_order rows ≡ log_rows i es
placed i es rows same =
    sorted_unique row_cmp rows_total (log_rows i es) (in_order rows) (log_ascends i es) (IsPermutation-trans _ _ _ (IsPermutation-sym _ _ same) (IsPermutation-sym _ _ (IsPermutation-sort_by row_cmp rows_total rows))) (is_sorted _ (order_rises rows))

pub unplaced : (i : ℕ) (es : List Item) (rows : List Row) → in_order rows ≡ log_rows i es → IsPermutation rows (log_rows i es)
unplaced i es rows is = subst (IsPermutation rows) is (IsPermutation-sym _ _ (IsPermutation-sort_by row_cmp rows_total rows))

-- ---- a row above all others

put_last : (new : Row) (rows : List Row) → AllByRecursion (λ r. row_cmp r new ≡ Less) rows → put_row new rows ≡ rows ++ new ∷ []
put_last new [] all = refl
put_last new (r ∷ rows) all = rw all.0 (ap (λ l. r ∷ l) (put_last new rows all.1))

all_below : (i j : ℕ) (es : List Item) (e : Item) → j ≡ i + length es → AllByRecursion (λ r. row_cmp r (entry_row j e) ≡ Less) (log_rows i es)
all_below i j [] e is = tt
all_below i j (x ∷ es) e is = let low : i < j = omega arith in (lower_id i j low, all_below (i + 1) j es e (omega arith))

pub put_placed : (es : List Item) (e : Item) (rows : List Row) → in_order rows ≡ log_rows 1 es → in_order (put_row (entry_row (length es + 1) e) rows) ≡ log_rows 1 (es ++ e ∷ [])
put_placed es e rows is =
    let new = entry_row (length es + 1) e in
    let same = unplaced 1 es rows is in
    let below = all_below 1 (length es + 1) es e (one_more (length es)) in
    let here = put_last new rows (all-permutation (λ r. row_cmp r new ≡ Less) (log_rows 1 es) rows (IsPermutation-sym _ _ same) below) in
    let there : log_rows 1 es ++ new ∷ [] ≡ log_rows 1 (es ++ e ∷ []) = sym (put_last new (log_rows 1 es) below) ∙ put_next 1 (length es + 1) es e (one_more (length es)) in
    ap in_order here ∙ placed 1 (es ++ e ∷ []) (rows ++ new ∷ []) (subst (IsPermutation (rows ++ new ∷ [])) there (IsPermutation-append_left (new ∷ []) rows (log_rows 1 es) same))
