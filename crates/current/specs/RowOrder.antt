-- The order of rows: by key, start, end, values and system start.
use Rattle.std.specs.Prelude.{◌≡◌, Bool, List}
use Rattle.std.specs.List.{list_any}
use Rattle.std.specs.List.Sorted.{IsSorted}
use Rattle.std.proofs.Common.{sym, subst}
use Rattle.std.specs.Cmp.{IsTotalOrder, IsPartialOrder, IsEquivalence, on_total, then_total, nat_cmp_total, eq_by_cmp_equiv, partial_order_from_total, unsigned_ties, both_tied}
use Rattle.std.specs.Ordering.{ordering_then, nat_cmp, is_eq, as_partial_cmp}
use Rattle.std.specs.declared.cmp.Ordering.{Ordering}
use Rattle.model.specs.Values.{key_cmp}
use Rattle.model.specs.Tables.{Row}
use Rattle.overlaps.specs.Key.{key_cmp_total, same_key-ties}
use Rattle.rowlaws.specs.Touching.{same_row}
use Rattle.current.specs.declared.row.Row.{Row as Declared}
use Rattle.current.specs.Rows.{row_of}
use denote.Ref.{Bor}

-- by key, start, end, values and system start
abbrev pub row_cmp : Row → Row → Ordering
row_cmp a b = ordering_then (ordering_then (ordering_then (ordering_then (key_cmp a.key b.key) (nat_cmp a.period.start b.period.start)) (nat_cmp a.period.end b.period.end)) (key_cmp a.values b.values)) (nat_cmp a.system_start b.system_start)

row_total : IsTotalOrder row_cmp
row_total = then_total (then_total (then_total (then_total (on_total (λ (r : Row). r.key) key_cmp_total) (on_total (λ (r : Row). r.period.start) nat_cmp_total)) (on_total (λ (r : Row). r.period.end) nat_cmp_total)) (on_total (λ (r : Row). r.values) key_cmp_total)) (on_total (λ (r : Row). r.system_start) nat_cmp_total)

pub row_ties : (a b : Row) → same_row a b ≡ is_eq (row_cmp a b)
row_ties a b =
    both_tied _ _ _ _ (both_tied _ _ _ _ (both_tied _ _ _ _ (both_tied _ _ _ _ (same_key-ties a.key b.key) (unsigned_ties a.period.start b.period.start)) (unsigned_ties a.period.end b.period.end)) (same_key-ties a.values b.values)) (unsigned_ties a.system_start b.system_start)

-- of rows as the code has them
abbrev pub row_order : Declared → Declared → Ordering
row_order a b = row_cmp (row_of a) (row_of b)

abbrev pub is_same : Declared → Declared → Bool
is_same a b = same_row (row_of a) (row_of b)

pub row_order_total : IsTotalOrder row_order
row_order_total = on_total row_of row_total

pub is_same-ties : (a b : Declared) → is_same a b ≡ is_eq (row_order a b)
is_same-ties a b = row_ties (row_of a) (row_of b)

pub is_same_equiv : IsEquivalence is_same
is_same_equiv = subst (λ E. IsEquivalence E) (λ i a b. sym (is_same-ties a b) i) (eq_by_cmp_equiv row_order_total)

pub row_order_partial : IsPartialOrder is_same (as_partial_cmp row_order)
row_order_partial = subst (λ E. IsPartialOrder E (as_partial_cmp row_order)) (λ i a b. sym (is_same-ties a b) i) (partial_order_from_total row_order_total)

-- rows as the code lends them, each at most the next
abbrev pub AreInOrder : List (Bor Declared) → Type 0
AreInOrder rows = IsSorted (λ a b. row_order a.now b.now) rows

-- this row is one of them
abbrev pub is_among : List (Bor Declared) → Declared → Bool
is_among rows row = list_any (λ other. is_same row other.now) rows
