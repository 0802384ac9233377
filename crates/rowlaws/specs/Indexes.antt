-- An index, so that nobody need go through all rows to find those that refer to a key.
use Rattle.std.specs.Prelude.{ℕ, ◌==◌, ◌⊎◌, List, [], ◌++◌, if◌then◌else◌, map, filter, flat_map}
use Rattle.std.specs.List.Sorted.{IsStrictlySortedBy}
use Rattle.model.specs.declared.value.Value.{Value}
use Rattle.model.specs.Values.{key_cmp, same_key}
use Rattle.model.specs.Tables.{Row}
use Rattle.model.specs.Transactions.{Reference}
use Rattle.rowlaws.specs.Rows.{Has}
use Rattle.rowlaws.specs.Statements.{Rows}
use Rattle.rowlaws.specs.Covering.{AllInOrder}
use Rattle.rowlaws.specs.Losing.{losing_keys}
use Rattle.rowlaws.specs.Suspects.{IsPicked}

-- of a child's table, a parent's table and a key of the parent: keys of the child's rows
abbrev pub Index : Type 0
Index = ℕ → ℕ → List Value → List (List Value)

-- the index has the key of each row that refers to a key; it may have more
abbrev pub IsIndex : List Reference → Rows → Index → Type 0
IsIndex fs all index = (f : Reference) → Has fs f → (r : Row) → Has (all f.child) r → Has (index f.child f.parent (f.refers r.key r.values)) r.key

-- by one foreign key, of its table: the keys of the rows that came, and those that the index has at a key that lost a day
abbrev pub keys_by : Rows → Rows → Rows → Index → ℕ → Reference → List (List Value)
keys_by all removed added index n f = if f.child == n then map (λ r. r.key) (added n) ++ flat_map (index n f.parent) (losing_keys (removed f.parent) (all f.parent)) else []

-- and by all of them
abbrev pub keys_to_check : List Reference → Rows → Rows → Rows → Index → ℕ → List (List Value)
keys_to_check fs all removed added index n = flat_map (keys_by all removed added index n) fs

-- rows of each table, with each row of these keys among them
pub record IsOfKeys (all : Rows) (keys : ℕ → List (List Value)) (picked : Rows) : Type 0 where
  pub listed : (n : ℕ) (r : Row) → Has (picked n) r → Has (all n) r
  pub each : (n : ℕ) (r : Row) → Has (all n) r → Has (keys n) r.key → Has (picked n) r

-- the rows of a key
abbrev pub rows_of_key : List Row → List Value → List Row
rows_of_key rows k = filter (λ r. same_key r.key k) rows

-- of each table, the rows of each of these keys
abbrev pub rows_of_keys : Rows → (ℕ → List (List Value)) → Rows
rows_of_keys all keys n = flat_map (rows_of_key (all n)) (keys n)

-- ---- laws

-- by an index, the rows of these keys are rows with all suspects among them
abbrev pub IndexPicks : Type 0
IndexPicks = (fs : List Reference) (all removed added picked : Rows) (index : Index) →
    IsIndex fs all index → IsOfKeys all (keys_to_check fs all removed added index) picked → IsPicked fs all removed added picked

-- the rows of keys in order, with all that are wanted among them, are such rows, and in order
abbrev pub KeysPicked : Type 0
KeysPicked = (all : Rows) (wanted keys : ℕ → List (List Value)) →
    AllInOrder all → ((n : ℕ) → IsStrictlySortedBy key_cmp (keys n)) → ((n : ℕ) (k : List Value) → Has (wanted n) k → Has (keys n) k) →
    IsOfKeys all wanted (rows_of_keys all keys) × AllInOrder (rows_of_keys all keys)

-- an index stays one where it only grows, and has the keys of the rows that came
abbrev pub IndexGrows : Type 0
IndexGrows = (fs : List Reference) (before all added : Rows) (index more : Index) →
    IsIndex fs before index → ((n : ℕ) (r : Row) → Has (all n) r → Has (before n) r ⊎ Has (added n) r) →
    ((child parent : ℕ) (k l : List Value) → Has (index child parent k) l → Has (more child parent k) l) → IsIndex fs added more → IsIndex fs all more
