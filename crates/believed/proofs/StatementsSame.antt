-- Statements change a table in the same way.
use Rattle.std.proofs.Common.{◌≡◌, ℕ, ◌&&◌, ◌||◌, Bool, true, false, cond, Option, Some, None, List, length, map, filter, refl, sym, ap, ◌∙◌, Ok, Err}
use Rattle.std.specs.Prelude.{option_map, option_and_then, unwrap_or, is_none, sum_by, count_by}
use Rattle.std.specs.List.{list_any, range_with_len}
use Rattle.std.proofs.lemmas.List.{length-map}
use Rattle.std.proofs.lemmas.List.Concat.{length-flat_map}
use Rattle.std.proofs.lemmas.List.Sums.{length-filter}
use Rattle.fault.specs.declared.refusal.Refusal.TheVariants.{NumberRange}
use Rattle.model.specs.declared.value.Value.{Value}
use Rattle.model.specs.Tables.{days, Period, inside, Fact, Table, Row, joined, begins}
use Rattle.model.specs.Statements.{is_edge, days_of}
use Rattle.model.specs.Statements as before
use Rattle.model.specs.Transactions.{Action, Insert, Update, Delete}
use Rattle.model.specs.Transactions as transactions
use Rattle.believed.specs.Statements as now

met_same : (passes : Row → Bool) (p : Period) (old : Table) (k : List Value) (d : ℕ) → now.is_met passes p old k d ≡ before.is_met passes p old k d
unfolding now.is_met before.is_met
met_same passes p old k d = refl

overflows_same : (passes : Row → Bool) (p : Period) (set : List Value → Option (List Value)) (old : Table) → now.set_overflows passes p set old ≡ before.set_overflows passes p set old
unfolding now.set_overflows before.set_overflows
overflows_same passes p set old = λ i. list_any (λ k. list_any (λ d. met_same passes p old k d i && is_none (option_and_then (λ (c : Fact). set c.values) (old.fact k d))) (days_of p)) old.keys

-- ---- cells

updated_fact : (set : List Value → Option (List Value)) (t : ℕ) (met within : Bool) (o : Option Fact) →
    cond met (option_and_then (λ (c : Fact). option_map (λ v. let x : Fact = record { values = v; system_start = t } in x) (cond within (Some (unwrap_or (set c.values) c.values)) (Some c.values))) o) o
    ≡ cond met (option_map (λ (c : Fact). let x : Fact = record { values = cond within (unwrap_or (set c.values) c.values) c.values; system_start = t } in x) o) o
updated_fact set t false within o = refl
updated_fact set t true within None = refl
updated_fact set t true true (Some c) = refl
updated_fact set t true false (Some c) = refl

deleted_fact : (t : ℕ) (met within : Bool) (o : Option Fact) →
    cond met (option_and_then (λ (c : Fact). option_map (λ v. let x : Fact = record { values = v; system_start = t } in x) (cond within None (Some c.values))) o) o
    ≡ cond met (cond within None (option_map (λ (c : Fact). let x : Fact = record { values = c.values; system_start = t } in x) o)) o
deleted_fact t false within o = refl
deleted_fact t true true None = refl
deleted_fact t true true (Some c) = refl
deleted_fact t true false None = refl
deleted_fact t true false (Some c) = refl

updated_same : (passes : Row → Bool) (p : Period) (set : List Value → Option (List Value)) (t : ℕ) (old : Table) →
    ◌≡◌ {A = Table} (record (now.rewritten passes p (λ v. Some (unwrap_or (set v) v)) t old) { is_cut = λ k d. old.is_cut k d || (is_edge p d && joined old k d && now.is_met passes p old k d) }) (before.updated passes p set t old)
unfolding now.rewritten before.updated
updated_same passes p set t old = λ i. record {
  fact = λ k d. (ap (λ b. cond b (option_and_then (λ (c : Fact). option_map (λ v. let x : Fact = record { values = v; system_start = t } in x) (cond (inside p d) (Some (unwrap_or (set c.values) c.values)) (Some c.values))) (old.fact k d)) (old.fact k d)) (met_same passes p old k d)
      ∙ updated_fact set t (before.is_met passes p old k d) (inside p d) (old.fact k d)) i;
  is_cut = λ k d. old.is_cut k d || (is_edge p d && joined old k d && met_same passes p old k d i);
  keys = old.keys;
}

deleted_same : (passes : Row → Bool) (p : Period) (t : ℕ) (old : Table) → now.rewritten passes p (λ v. None) t old ≡ before.deleted passes p t old
unfolding now.rewritten before.deleted
deleted_same passes p t old = λ i. record {
  fact = λ k d. (ap (λ b. cond b (option_and_then (λ (c : Fact). option_map (λ v. let x : Fact = record { values = v; system_start = t } in x) (cond (inside p d) None (Some c.values))) (old.fact k d)) (old.fact k d)) (met_same passes p old k d)
      ∙ deleted_fact t (before.is_met passes p old k d) (inside p d) (old.fact k d)) i;
  is_cut = old.is_cut;
  keys = old.keys;
}

pub changed_same : (action : Action) (t : ℕ) (old : Table) → now.changed action t old ≡ transactions.changed action t old
unfolding now.changed transactions.changed before.insert_overlaps
changed_same (Insert key values p) t old = refl
changed_same (Update passes p set) t old = λ i. cond (overflows_same passes p set old i) (Err NumberRange) (Ok (updated_same passes p set t old i))
changed_same (Delete passes p) t old = ap Ok (deleted_same passes p t old)

-- ---- rows

abbrev at_key : List Value → ℕ → List Value × ℕ
at_key k d = (k, d)

begin_count : (table : Table) (k : List Value) → length (map (at_key k) (filter (begins table k) (range_with_len 0 days))) ≡ count_by (begins table k) (range_with_len 0 days)
begin_count table k = length-map (filter (begins table k) (range_with_len 0 days)) (at_key k) ∙ length-filter (begins table k) (range_with_len 0 days)

pub count_same : (table : Table) → now.row_count table ≡ before.row_count table
unfolding now.row_count before.row_count
count_same table = sym (length-flat_map (λ k. map (at_key k) (filter (begins table k) (range_with_len 0 days))) table.keys ∙ (λ i. sum_by (λ k. begin_count table k i) table.keys))
