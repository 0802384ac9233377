-- References over the periods of rows: the first day of a child that no parent has.
use Rattle.std.specs.Prelude.{◌≡◌, ◌↔◌, ℕ, ◌<◌, ◌≤◌, ◌==◌, nat_le, nat_lt, is_some, IsTrue, find, Option, Some, None, List, [], ◌∷◌, if◌then◌else◌, map, filter, min, max}
use Rattle.std.specs.List.{range_with_len}
use Rattle.std.specs.List.Sorted.{IsStrictlySortedBy}
use Rattle.std.specs.Option.{option_or}
use Rattle.std.specs.Ordering.{ordering_then, nat_cmp}
use Rattle.std.specs.declared.cmp.Ordering.{Ordering}
use Rattle.model.specs.declared.value.Value.{Value}
use Rattle.model.specs.Values.{key_cmp, same_key}
use Rattle.model.specs.Tables.{Period, Fact, Row}
use Rattle.model.specs.Periods.{StartInOrder, is_free}
use Rattle.model.specs.Statements.{days_of}
use Rattle.model.specs.Transactions.{State, Language, Reference, Place, first_orphan}
use Rattle.rowlaws.specs.Rows.{Has}
use Rattle.rowlaws.specs.Statements.{Rows, AllListed}

-- ---- one child and its parents

-- the day, if it is before the end
abbrev pub if_before : (day end : ℕ) → Option ℕ
if_before day end = if nat_lt day end then Some day else None

-- the first day from one on, up to the end, that no period has: by going through the periods in the order of their starts
abbrev pub uncovered : (day end : ℕ) → List Period → Option ℕ
uncovered day end [] = if_before day end
uncovered day end (p ∷ ps) = if nat_le p.start day then uncovered (max day p.end) end ps else if_before day end

-- ---- all rows, in the order of key and start

-- by key, and then by start
abbrev pub place_cmp : Row → Row → Ordering
place_cmp a b = ordering_then (key_cmp a.key b.key) (nat_cmp a.period.start b.period.start)

-- each table's rows are in this order
abbrev pub AllInOrder : Rows → Type 0
AllInOrder all = (n : ℕ) → IsStrictlySortedBy place_cmp (all n)

-- the periods of a key
abbrev pub periods_of : List Row → List Value → List Period
periods_of rows k = map (λ r. r.period) (filter (λ r. same_key r.key k) rows)

-- the lesser day, where there is one
abbrev pub lesser : Option ℕ → Option ℕ → Option ℕ
lesser None o = o
lesser (Some a) None = Some a
lesser (Some a) (Some b) = Some (min a b)

-- the first day without a parent of a row of table n, by one foreign key
abbrev pub missing_by : Rows → ℕ → Row → Reference → Option ℕ
missing_by all n r f = if f.child == n then find (is_free (periods_of (all f.parent) (f.refers r.key r.values))) (days_of r.period) else None

-- and by all of them
abbrev pub missing : List Reference → Rows → ℕ → Row → Option ℕ
missing [] all n r = None
missing (f ∷ fs) all n r = lesser (missing_by all n r f) (missing fs all n r)

-- this day of the row, or else a later row's
abbrev pub place_at : ℕ → Row → Option ℕ → Option Place → Option Place
place_at n r (Some d) later = Some (record { table = n; key = r.key; day = d })
place_at n r None later = later

-- the first such day of a table, row by row
abbrev pub missing_in_rows : List Reference → Rows → ℕ → List Row → Option Place
missing_in_rows fs all n [] = None
missing_in_rows fs all n (r ∷ rows) = place_at n r (missing fs all n r) (missing_in_rows fs all n rows)

-- and of all tables, one after another
abbrev pub missing_in_tables : List Reference → Rows → List ℕ → Option Place
missing_in_tables fs all [] = None
missing_in_tables fs all (n ∷ ns) = option_or (missing_in_rows fs all n (all n)) (missing_in_tables fs all ns)

-- the first day without a parent
unfoldable pub rows_orphan : Language → Rows → Option Place
rows_orphan language all = missing_in_tables language.references all (range_with_len 0 language.tables)

-- ---- laws

-- going through parents' periods in order finds the least day of the child that none of them has
abbrev pub UncoveredDay : Type 0
UncoveredDay = (child : Period) (parents : List Period) →
    child.start ≤ child.end → StartInOrder parents → uncovered child.start child.end parents ≡ find (is_free parents) (days_of child)

-- the periods of a key, of rows in order, are in order
abbrev pub PeriodsInOrder : Type 0
PeriodsInOrder = (rows : List Row) (k : List Value) → IsStrictlySortedBy place_cmp rows → StartInOrder (periods_of rows k)

-- over rows in order, the first day without a parent is the first on days
abbrev pub OrphanOnRows : Type 0
OrphanOnRows = (language : Language) (all : Rows) (state : State) → AllListed all state → AllInOrder all → rows_orphan language all ≡ first_orphan language state

-- for each foreign key, each filled day of the child is a filled day of the parent's key that its values name
abbrev pub ReferencesHold : Language → State → Type 0
ReferencesHold language state = (f : Reference) → Has language.references f → f.child < language.tables →
    (k : List Value) (d : ℕ) (c : Fact) → (state f.child).fact k d ≡ Some c → IsTrue (is_some ((state f.parent).fact (f.refers k c.values) d))

-- there is no first day without a parent exactly where the references hold
abbrev pub References : Type 0
References = (language : Language) (all : Rows) (state : State) → AllListed all state → first_orphan language state ≡ None ↔ ReferencesHold language state
