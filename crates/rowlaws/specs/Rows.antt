-- A list that has each row of a table once: what a program keeps in place of days.
use Rattle.std.specs.Prelude.{◌≡◌, ◌≢◌, ◌↔◌, ℕ, ◌<◌, ◌≤◌, ◌⊎◌, Some, List, [], ◌∷◌, length, IsTrue, Contains, AllPairs}
use Rattle.std.specs.Cmp.{IsTotalOrder}
use Rattle.std.specs.List.Sorted.{IsStrictlySortedBy, IsPermutation}
use Rattle.model.specs.declared.value.Value.{Value}
use Rattle.model.specs.Values.{key_cmp}
use Rattle.model.specs.Tables.{days, inside, Fact, Table, Row, IsRow}
use Rattle.model.specs.Statements.{row_count}

-- z is an element
abbrev pub Has : {A : Type 0} → List A → A → Type 0
Has [] z = ⊥
Has (x ∷ xs) z = (z ≡ x) ⊎ Has xs z

-- no element comes again
abbrev pub Apart : {A : Type 0} → List A → Type 0
Apart [] = Unit {0}
Apart (x ∷ xs) = (Has xs x → ⊥) × Apart xs

-- each of the list is a row of the table, each filled day lies in one of them, and none comes again; the rows end by the
-- last day, and the table's keys, in order, have theirs
pub record Lists (rows : List Row) (table : Table) : Type 0 where
  pub each : (r : Row) → Has rows r → IsRow table r
  pub every : (k : List Value) (d : ℕ) (c : Fact) → table.fact k d ≡ Some c → (r : Row) × Has rows r × (r.key ≡ k) × (r.period.start ≤ d) × (d < r.period.end)
  pub once : Apart rows
  pub within : (r : Row) → Has rows r → r.period.end ≤ days
  pub keyed : (r : Row) → Has rows r → Has table.keys r.key
  pub keys : IsStrictlySortedBy key_cmp table.keys

-- ---- laws

-- the order of keys is total
abbrev pub KeysOrdered : Type 0
KeysOrdered = IsTotalOrder key_cmp

-- the elements of a list, in std's word
abbrev pub HasContains : Type 0
HasContains = (rows : List Row) (r : Row) → Has rows r ↔ Contains rows r

-- and that none comes again
abbrev pub ApartPairs : Type 0
ApartPairs = (rows : List Row) → Apart rows ↔ AllPairs (λ r s. r ≢ s) rows

-- two rows of a table that have one key and a common day are one
abbrev pub OneRow : Type 0
OneRow = (table : Table) (r s : Row) (d : ℕ) → IsRow table r → IsRow table s → r.key ≡ s.key → IsTrue (inside r.period d) → IsTrue (inside s.period d) → r ≡ s

-- each row of a table is in each list of its rows
abbrev pub EachListed : Type 0
EachListed = (rows : List Row) (table : Table) (r : Row) → Lists rows table → IsRow table r → Has rows r

-- a list that has the same rows, each once, lists the table as well
abbrev pub SameRows : Type 0
SameRows = (rows more : List Row) (table : Table) → Lists rows table → Apart more → ((r : Row) → Has more r ↔ Has rows r) → Lists more table

-- and so does the list in another order
abbrev pub Permuted : Type 0
Permuted = (rows more : List Row) (table : Table) → IsPermutation rows more → Lists rows table → Lists more table

-- a table has as many rows as a list of its rows
abbrev pub RowCount : Type 0
RowCount = (rows : List Row) (table : Table) → Lists rows table → row_count table ≡ length rows
