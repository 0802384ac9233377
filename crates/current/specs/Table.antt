-- What a contract sees of the rows of a table.
use Rattle.std.specs.Prelude.{◌≡◌, ◌⊎◌, ◌↔◌, ◌<◌, ◌≤◌, ℕ, true, false, List, flat_map, length}
use Rattle.std.specs.List.{list_any}
use Rattle.fault.specs.declared.refusal.Refusal.{Refusal}
use Rattle.fault.specs.declared.refusal.Refusal.TheVariants.{NoMemory, KeyOverlap, RowLimit, NumberRange}
use Rattle.model.specs.Transactions.{Action}
use Rattle.rowlaws.specs.Changes.{clashes}
use Rattle.current.specs.Corrections.{is_stuck, kept, removed_at, added_at}
use Rattle.model.specs.Tables.{Table, Row, IsRow}
use Rattle.rowlaws.specs.Rows.{Has, Apart, Lists}
use Rattle.rowlaws.specs.Touching.{IsTouched}
use Rattle.current.specs.declared.table.TableRows.{TableRows}
use Rattle.current.specs.ByKey.{rows_in}

-- its rows, in the order of key and start
abbrev pub rows_of_table : TableRows → List Row
rows_of_table t = rows_in t.index.strands.entries

-- the same rows and one more
abbrev pub IsWith : Row → List Row → List Row → Type 0
IsWith row rows more = (r : Row) → Has more r ↔ (Has rows r ⊎ (r ≡ row))

-- both have the same rows
abbrev pub HaveSame : List Row → List Row → Type 0
HaveSame rows more = (r : Row) → Has more r ↔ Has rows r

-- a row that clashes with none is inserted, among fewer than 20,000
abbrev pub IsInserted : Row → List Row → List Row → Type 0
IsInserted row rows more = (list_any (clashes row.key row.period) rows ≡ false) × (length rows < 20000) × IsWith row rows more

-- 20, and then 22; or 43
abbrev pub IsInsertRefused : Row → List Row → Refusal → Type 0
IsInsertRefused row rows refusal =
    (refusal ≡ NoMemory) ⊎ ((refusal ≡ KeyOverlap) × (list_any (clashes row.key row.period) rows ≡ true)) ⊎ ((refusal ≡ RowLimit) × (list_any (clashes row.key row.period) rows ≡ false) × (20000 ≤ length rows))

-- what was kept are the new rows, at most 20,000, and this is what went and came
abbrev pub IsCorrection : Action → ℕ → List Row → List Row → List Row → List Row → Type 0
IsCorrection c t rows more removed added =
    (list_any (is_stuck c) rows ≡ false) × (length (flat_map (kept c t) rows) ≤ 20000) × HaveSame (flat_map (kept c t) rows) more
    × (removed ≡ flat_map (removed_at c t) rows) × (added ≡ flat_map (added_at c t) rows)

-- 23, and then 22; or 43
abbrev pub IsCorrectionRefused : Action → ℕ → List Row → Refusal → Type 0
IsCorrectionRefused c t rows refusal =
    (refusal ≡ NoMemory) ⊎ ((refusal ≡ NumberRange) × (list_any (is_stuck c) rows ≡ true)) ⊎ ((refusal ≡ RowLimit) × (list_any (is_stuck c) rows ≡ false) × (20000 < length (flat_map (kept c t) rows)))

-- ---- rows taken out, and put back

-- the same rows without these
abbrev pub IsWithout : List Row → List Row → List Row → Type 0
IsWithout less rows more = (r : Row) → Has more r ↔ (Has rows r × (Has less r → ⊥))

-- the same rows with these
abbrev pub IsJoined : List Row → List Row → List Row → Type 0
IsJoined others rows more = (r : Row) → Has more r ↔ (Has rows r ⊎ Has others r)

-- all are rows of one table, and the others, each once, are not yet there
abbrev pub CanPut : List Row → List Row → Type 0
CanPut rows others = (table : Table) × ((r : Row) → Has rows r ⊎ Has others r → IsRow table r) × Apart others × ((r : Row) → Has others r → Has rows r → ⊥)

-- some rows became these, and this was touched
abbrev pub CanUndo : List Row → List Row → List Row → Type 0
CanUndo rows removed added = (old : Table) × (new : Table) × (before : List Row) × Lists before old × Lists rows new × IsTouched old new removed added
