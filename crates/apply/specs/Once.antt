-- That tables are those of a list of entries is a fact with one proof at most, so that a struct can keep it in a ghost field.
use Rattle.std.specs.Prelude.{◌≡◌, ℕ, ◌<◌, ◌≤◌, ◌⊎◌, Option, Some, None, List, [], ◌∷◌}
use Rattle.std.proofs.Common.{inl, inr, ap, subst, sym, ◌∙◌}
use Rattle.std.proofs.Props.{props}
use mathlib.Core.HLevel.{is_prop→PathP, Unit-prop}
use Rattle.model.specs.declared.value.Value.{Value}
use Rattle.model.specs.declared.entry.Entry.{Entry}
use Rattle.model.specs.Tables.{Table, Row, Fact, IsRow}
use Rattle.schema.specs.Shape.{TableShape, ReferenceShape}
use Rattle.schema.specs.declared.table.Kind.{Kind}
use Rattle.sqlchecks.specs.Columns as columns
use Rattle.rowlaws.specs.Rows.{Has, Apart, Lists}
use Rattle.rowlaws.proofs.RowFacts.{one_row}
use Rattle.rowlaws.proofs.Keys.{apart_from_sorted}
use Rattle.versionlaws.specs.Versions.{Version, IsBefore, IsAlive, Holds}
use Rattle.apply.specs.declared.tables.Tables.{Tables}
use Rattle.apply.specs.Reads.{AreFew}
use Rattle.apply.specs.View.{AreTables}

-- ---- values and rows

pub value_set : IsSet Value
value_set = hlevel props

pub key_set : IsSet (List Value)
key_set = hlevel (props, value_set)

pub row_set : IsSet Row
row_set = hlevel (props, key_set)

version_set : IsSet Version
version_set = hlevel (props, row_set)

cell_set : IsSet (Option Fact)
cell_set = hlevel (props, key_set)

row_prop : (table : Table) (row : Row) → IsProp (IsRow table row)
row_prop table row = hlevel (props, cell_set)

-- ---- elements

has_in : {A : Type 0} → IsSet A → (x : A) (xs : List A) (z : A) → (Has xs x → ⊥) → IsProp (Has xs z) → IsProp ((z ≡ x) ⊎ Has xs z)
has_in set x xs z apart one (inl a) (inl b) = ap inl (set z x a b)
has_in set x xs z apart one (inl a) (inr h) = absurd (apart (subst (Has xs) a h))
has_in set x xs z apart one (inr h) (inl b) = absurd (apart (subst (Has xs) b h))
has_in set x xs z apart one (inr h) (inr g) = ap inr (one h g)

has_prop : {A : Type 0} → IsSet A → (xs : List A) → Apart xs → (z : A) → IsProp (Has xs z)
has_prop set [] apart z = λ a b. absurd a
has_prop set (x ∷ xs) apart z = has_in set x xs z apart.0 (has_prop set xs apart.1 z)

apart_prop : {A : Type 0} (xs : List A) → IsProp (Apart xs)
apart_prop [] = Unit-prop
apart_prop (x ∷ xs) = hlevel (props, apart_prop xs)

-- ---- a list of the rows of a table

-- the row of a day
abbrev Holding : List Row → List Value → ℕ → Type 0
Holding rows k d = (r : Row) × Has rows r × (r.key ≡ k) × (r.period.start ≤ d) × (d < r.period.end)

start_prop : (r : Row) (d : ℕ) → IsProp (r.period.start ≤ d)
start_prop r d = hlevel props

end_prop : (r : Row) (d : ℕ) → IsProp (d < r.period.end)
end_prop r d = hlevel props

holding_prop : (rows : List Row) (table : Table) → Lists rows table → (k : List Value) (d : ℕ) → IsProp (Holding rows k d)
holding_prop rows table h k d a b =
    let e : a.0 ≡ b.0 = one_row (h.each a.0 a.1) (h.each b.0 b.1) k d (record { key = a.2; from = a.3; before = a.4 }) (record { key = b.2; from = b.3; before = b.4 }) in
    λ i. (
      e i,
      is_prop→PathP (λ i. Has rows (e i)) (λ i. has_prop row_set rows h.once (e i)) a.1 b.1 i,
      is_prop→PathP (λ i. (e i).key ≡ k) (λ i. key_set (e i).key k) a.2 b.2 i,
      is_prop→PathP (λ i. (e i).period.start ≤ d) (λ i. start_prop (e i) d) a.3 b.3 i,
      is_prop→PathP (λ i. d < (e i).period.end) (λ i. end_prop (e i) d) a.4 b.4 i,
    )

lists_from : (rows : List Row) (table : Table) → Lists rows table → IsProp (Lists rows table)
lists_from rows table h =
    let row = row_prop table in
    let holding = holding_prop rows table h in
    let key = has_prop key_set table.keys (apart_from_sorted table.keys h.keys) in
    hlevel (props, row, holding, key, apart_prop rows)

pub lists_prop : (rows : List Row) (table : Table) → IsProp (Lists rows table)
lists_prop rows table a b = lists_from rows table a a b

-- ---- versions

before_prop : (u : ℕ) (end : Option ℕ) → IsProp (IsBefore u end)
before_prop u None = Unit-prop
before_prop u (Some end) = hlevel props

alive_prop : (v : Version) (u : ℕ) → IsProp (IsAlive v u)
alive_prop v u = hlevel (props, before_prop u v.end)

-- the version of a row that has a property
abbrev Kept : List Version → Row → (Version → Type 0) → Type 0
Kept versions row P = (v : Version) × Has versions v × (v.row ≡ row) × P v

kept_prop : (versions : List Version) (row : Row) (P : Version → Type 0) → Apart versions → ((v w : Version) → Has versions v → Has versions w → v.row ≡ w.row → v ≡ w) → ((v : Version) → IsProp (P v)) → IsProp (Kept versions row P)
kept_prop versions row P apart once prop a b =
    let e : a.0 ≡ b.0 = once a.0 b.0 a.1 b.1 (a.2 ∙ sym b.2) in
    λ i. (
      e i,
      is_prop→PathP (λ i. Has versions (e i)) (λ i. has_prop version_set versions apart (e i)) a.1 b.1 i,
      is_prop→PathP (λ i. (e i).row ≡ row) (λ i. row_set (e i).row row) a.2 b.2 i,
      is_prop→PathP (λ i. P (e i)) (λ i. prop (e i)) a.3 b.3 i,
    )

holds_from : (versions : List Version) (history : ℕ → Table) (bound : ℕ) (current : Table) → Holds versions history bound current → IsProp (Holds versions history bound current)
holds_from versions history bound current h =
    let alive : (u : ℕ) (row : Row) → IsProp (Kept versions row (λ v. IsAlive v u)) = λ u row. kept_prop versions row (λ v. IsAlive v u) h.apart h.once (λ v. alive_prop v u) in
    let current_ones : (row : Row) → IsProp (Kept versions row (λ v. v.end ≡ None)) = λ row. kept_prop versions row (λ v. v.end ≡ None) h.apart h.once (λ v. hlevel props) in
    hlevel (props, row_prop, alive, current_ones, version_set, before_prop, apart_prop versions)

pub holds_prop : (versions : List Version) (history : ℕ → Table) (bound : ℕ) (current : Table) → IsProp (Holds versions history bound current)
holds_prop versions history bound current a b = holds_from versions history bound current a a b

-- ---- all tables

kind_set : IsSet Kind
kind_set = hlevel props

reference_set : IsSet ReferenceShape
reference_set = hlevel props

shape_set : IsSet TableShape
shape_set = hlevel (props, kind_set, reference_set)

schema_set : IsSet columns.Tables
schema_set = hlevel (props, shape_set)

pub few_prop : (schema : columns.Tables) (list : List Entry) (reads : ℕ) → IsProp (AreFew schema list reads)
unfolding AreFew
few_prop schema list reads = hlevel props

pub tables_prop : (schema : columns.Tables) (list : List Entry) (tables : Tables) → IsProp (AreTables schema list tables)
tables_prop schema list tables = hlevel (props, lists_prop, holds_prop, schema_set, few_prop)
