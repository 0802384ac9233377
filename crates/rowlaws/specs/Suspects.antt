-- References after an action, by what it touched alone: which rows can have a day without a parent now, if none had before.
use Rattle.std.specs.Prelude.{◌≡◌, ℕ, ◌<◌, ◌≤◌, ◌==◌, ◌&&◌, is_some, IsTrue, Option, Some, None, List, [], ◌∷◌, ◌++◌, if◌then◌else◌, filter, flat_map, Ok}
use Rattle.std.specs.List.{list_any, range_with_len}
use Rattle.std.specs.Option.{option_or}
use Rattle.std.specs.Ordering.{ordering_then, nat_cmp}
use Rattle.std.specs.declared.cmp.Ordering.{Ordering}
use Rattle.std.specs.declared.cmp.Ordering.TheVariants.{Less, Equal, Greater}
use Rattle.model.specs.declared.value.Value.{Value}
use Rattle.model.specs.Values.{key_cmp, same_key}
use Rattle.model.specs.Tables.{inside, Row, IsRow}
use Rattle.model.specs.Transactions.{State, Statement, Language, Reference, Place, is_orphan, first_orphan}
use Rattle.rowlaws.specs.Rows.{Has}
use Rattle.rowlaws.specs.Statements.{Rows, run_all_on_rows, AllListed}
use Rattle.rowlaws.specs.Covering.{place_at, missing, missing_in_rows, AllInOrder}
use Rattle.rowlaws.specs.Transactions.{rows_transacted, rows_unless_orphan}
use Rattle.rowlaws.specs.Losing.{is_lost, lost_days}
use Rattle.rowlaws.specs.Whole.{AllTouched, AllTouchedAmong, ComesFromWhole}

-- ---- the rows to look at

-- the rows that by a foreign key refer to the key of a row that went, and have a day that the key lost with it
abbrev pub rows_losing : Reference → List Row → List Row → Row → List Row
rows_losing f rows more q = filter (λ r. same_key (f.refers r.key r.values) q.key && list_any (inside r.period) (lost_days more q)) rows

-- by one foreign key, of its table: the rows that came, and those that have a day that a key they refer to lost
abbrev pub suspects_by : Rows → Rows → Rows → ℕ → Reference → List Row
suspects_by all removed added n f = if f.child == n then added n ++ flat_map (rows_losing f (all n) (all f.parent)) (removed f.parent) else []

-- and by all of them
abbrev pub suspects : List Reference → Rows → Rows → Rows → Rows
suspects fs all removed added n = flat_map (suspects_by all removed added n) fs

-- rows of each table, in any order and as often as may be, with all its suspects that stand now among them
pub record IsPicked (fs : List Reference) (all removed added picked : Rows) : Type 0 where
  pub listed : (n : ℕ) (r : Row) → Has (picked n) r → Has (all n) r
  pub each : (n : ℕ) (r : Row) → Has (suspects fs all removed added n) r → Has (all n) r → Has (picked n) r

-- ---- the first day without a parent among some rows

-- the first of two places, as they are in order
abbrev pub by_order : Ordering → Place → Place → Place
by_order Less p q = p
by_order Equal p q = p
by_order Greater p q = q

-- by key, and then by day
abbrev pub day_cmp : Place → Place → Ordering
day_cmp p q = ordering_then (key_cmp p.key q.key) (nat_cmp p.day q.day)

-- the earlier of two places of one table, where there is one
abbrev pub earlier : Option Place → Option Place → Option Place
earlier None o = o
earlier (Some p) None = Some p
earlier (Some p) (Some q) = Some (by_order (day_cmp p q) p q)

-- the first day without a parent of some rows of table n, in any order
abbrev pub first_among : List Reference → Rows → ℕ → List Row → Option Place
first_among fs all n [] = None
first_among fs all n (r ∷ rows) = earlier (place_at n r (missing fs all n r) None) (first_among fs all n rows)

-- and of all tables, one after another
abbrev pub first_in_tables : List Reference → Rows → Rows → List ℕ → Option Place
first_in_tables fs all picked [] = None
first_in_tables fs all picked (n ∷ ns) = option_or (first_among fs all n (picked n)) (first_in_tables fs all picked ns)

-- the same where each table's rows are in the order of key and start: then the first row that has such a day has the first
abbrev pub first_in_order : List Reference → Rows → Rows → List ℕ → Option Place
first_in_order fs all picked [] = None
first_in_order fs all picked (n ∷ ns) = option_or (missing_in_rows fs all n (picked n)) (first_in_order fs all picked ns)

-- the first day without a parent, looked for among these rows alone
unfoldable pub picked_orphan : Language → Rows → Rows → Option Place
picked_orphan language all picked = first_in_tables language.references all picked (range_with_len 0 language.tables)

-- and where they are in order
unfoldable pub ordered_orphan : Language → Rows → Rows → Option Place
ordered_orphan language all picked = first_in_order language.references all picked (range_with_len 0 language.tables)

-- and among the suspects
abbrev pub touched_orphan : Language → Rows → Rows → Rows → Option Place
touched_orphan language all removed added = picked_orphan language all (suspects language.references all removed added)

-- ---- laws

-- a row that stood before has, by each foreign key, a parent on each day that the parent's key did not lose
abbrev pub KeptChild : Type 0
KeptChild = (language : Language) (before : Rows) (old new : State) (f : Reference) (r : Row) (d : ℕ) →
    AllListed before old → first_orphan language old ≡ None → Has language.references f → f.child < language.tables → IsRow (old f.child) r → r.period.start ≤ d → d < r.period.end →
    (IsTrue (is_lost (old f.parent) (new f.parent) (f.refers r.key r.values) d) → ⊥) → IsTrue (is_some ((new f.parent).fact (f.refers r.key r.values) d))

-- if there was no day without a parent, each one that there is lies in a suspect
abbrev pub OrphanSuspect : Type 0
OrphanSuspect = (language : Language) (before all removed added : Rows) (old new : State) (p : Place) →
    AllListed before old → AllListed all new → AllTouchedAmong old new removed added → first_orphan language old ≡ None → p.table < language.tables → IsTrue (is_orphan language new p) →
    (r : Row) × Has (suspects language.references all removed added p.table) r × Has (all p.table) r × (r.key ≡ p.key) × (r.period.start ≤ p.day) × (p.day < r.period.end)

-- then the first day without a parent of any rows with all suspects among them is the first of all
abbrev pub PickedOrphan : Type 0
PickedOrphan = (language : Language) (all removed added picked : Rows) (state : State) →
    ComesFromWhole language all removed added → AllListed all state → IsPicked language.references all removed added picked → picked_orphan language all picked ≡ first_orphan language state

-- and so where they are in order
abbrev pub OrderedOrphan : Type 0
OrderedOrphan = (language : Language) (all removed added picked : Rows) (state : State) →
    ComesFromWhole language all removed added → AllListed all state → IsPicked language.references all removed added picked → AllInOrder picked →
    ordered_orphan language all picked ≡ first_orphan language state

-- and so is the first of the suspects, where no row is told of that came and went again
abbrev pub TouchedOrphan : Type 0
TouchedOrphan = (language : Language) (before all removed added : Rows) (old new : State) →
    AllListed before old → AllListed all new → AllTouched old new removed added → first_orphan language old ≡ None → touched_orphan language all removed added ≡ first_orphan language new

-- a transaction on lists of rows, where the references are judged by what its statements touched
abbrev pub TransactionTouched : Type 0
TransactionTouched = (language : Language) (t : ℕ) (ss : List Statement) (before all removed added picked : Rows) (state : State) →
    run_all_on_rows t ss before ≡ Ok all → ComesFromWhole language all removed added → AllListed all state → IsPicked language.references all removed added picked →
    rows_transacted language t ss before ≡ rows_unless_orphan language all (picked_orphan language all picked)
