-- How far a statement may raise the count of rows that are read, from `old` to `new`.
use Rattle.std.specs.Prelude.{◌≡◌, ℕ, zero, suc, ◌+◌, ◌*◌, ◌^◌, ◌<◌, ◌≤◌, Bool, ◌&&◌, nat_lt, if◌then◌else◌, List, [], ◌∷◌, length, map, filter, unwrap_or}
use Rattle.std.specs.List.{list_any}
use Rattle.model.specs.declared.value.Value.{Value}
use Rattle.model.specs.Values.{same_key}
use Rattle.model.specs.Tables.{Period, Row}
use Rattle.model.specs.Transactions.{Reference}
use Rattle.rowlaws.specs.Rows.{Has}
use Rattle.rowlaws.specs.Statements.{Rows}
use Rattle.rowlaws.specs.Changes.{clashes}
use Rattle.rowlaws.specs.Losing.{has_lost_day}
use Rattle.sqlchecks.specs.Columns.{Tables}
use Rattle.sqlchecks.specs.declared.comparison.Comparison.{Comparison}
use Rattle.sqlread.specs.Shapes.{StatementShape, Insert, Update, Delete}
use Rattle.sqlread.specs.Meaning.{all_days, reference_of}
use Rattle.current.specs.Named.{IsNamed}

-- the row has the key
abbrev pub is_of : List Value → Row → Bool
is_of key r = same_key r.key key

-- one row of a key is looked for by halves: of fewer rows of the key than two to the power of `digits`, `digits` and one
-- more are read at most
abbrev pub FewToFind : List Value → List Row → ℕ → ℕ → Type 0
FewToFind key rows old new = (digits : ℕ) → length (filter (is_of key) rows) < 2 ^ digits → new ≤ old + digits + 1

-- INSERT looks so for a row that clashes, and by halves for the place of its own
abbrev pub FewToInsert : List Value → List Row → ℕ → ℕ → Type 0
FewToInsert key rows old new = (digits : ℕ) → length (filter (is_of key) rows) < 2 ^ digits → new ≤ old + digits + digits + 1

-- UPDATE and DELETE of one key: twice `digits` and one more besides the key's rows that have a day of the portion
abbrev pub FewToCorrect : List Value → Period → List Row → ℕ → ℕ → Type 0
FewToCorrect key p rows old new = (digits : ℕ) → length (filter (is_of key) rows) < 2 ^ digits → new ≤ old + digits + digits + 1 + length (filter (clashes key p) rows)

-- so where WHERE names a key, the keys of all rows have as many columns, and no row had more before
abbrev pub FewIfNamed : List Comparison → Period → ℕ → List Row → ℕ → ℕ → Type 0
FewIfNamed conditions p columns rows old new = (key : List Value) → IsNamed conditions key → ((r : Row) → Has rows r → length r.key ≡ length key) → columns ≤ length key → FewToCorrect key p rows old new

-- whatever WHERE says: of fewer rows than two to the power of `digits`, twice `digits` and one more besides all rows
abbrev pub NoMoreThanAll : List Row → ℕ → ℕ → Type 0
NoMoreThanAll rows old new = (digits : ℕ) → length rows < 2 ^ digits → new ≤ old + digits + digits + 1 + length rows

-- by what the statement is, of the rows of its table
abbrev pub FewReads : StatementShape → ℕ → List Row → ℕ → ℕ → Type 0
FewReads (Insert s) columns rows old new = FewToInsert s.key rows old new
FewReads (Update s) columns rows old new = FewIfNamed s.conditions (unwrap_or s.portion all_days) columns rows old new × NoMoreThanAll rows old new
FewReads (Delete s) columns rows old new = FewIfNamed s.conditions (unwrap_or s.portion all_days) columns rows old new × NoMoreThanAll rows old new

-- how many rows of the first n tables went and came
abbrev pub rows_touched : ℕ → Rows → Rows → ℕ
rows_touched zero removed added = 0
rows_touched (suc n) removed added = rows_touched n removed added + (length (removed n) + length (added n))

-- a statement is undone on so many tables: of tables that have fewer rows, with those that come back, than two to the power of
-- `digits`, twice `digits` and two for each row that went or came
abbrev pub FewToUndo : ℕ → Rows → Rows → Rows → ℕ → ℕ → Type 0
FewToUndo tables rows removed added old new =
    (digits : ℕ) → ((n : ℕ) → length (rows n) + length (removed n) < 2 ^ digits) → new ≤ old + rows_touched tables removed added * (digits + digits + 2)

-- ---- references after a transaction: what costs how many reads

-- the cost of all of these
abbrev pub total : {A : Type 0} → (A → ℕ) → List A → ℕ
total cost [] = 0
total cost (x ∷ xs) = cost x + total cost xs

-- of tables that have fewer rows each than two to the power of `digits`, no more rows are read than the cost says
abbrev pub CostsAtMost : Rows → (ℕ → ℕ) → ℕ → ℕ → Type 0
CostsAtMost all cost old new = (digits : ℕ) → ((n : ℕ) → length (all n) < 2 ^ digits) → new ≤ old + cost digits

-- to search a key for its rows that have a day of the period: by halves, and these besides
abbrev pub searching : ℕ → List Value → Period → List Row → ℕ
searching digits key p rows = digits + digits + 1 + length (filter (clashes key p) rows)

-- to judge a row: by each foreign key of its table, its parent's key is searched for the rows that have a day of it
abbrev pub judging : ℕ → Rows → List Reference → Row → ℕ
judging digits all fs r = total (λ f. searching digits (f.refers r.key r.values) r.period (all f.parent)) fs

-- how many keys the rows have: of each, one row has no other after it
abbrev pub key_count : List Row → ℕ
key_count [] = 0
key_count (r ∷ rows) = (if list_any (is_of r.key) rows then 0 else 1) + key_count rows

-- to search each key of these rows for some of them, and to judge some of those
abbrev pub seeking : ℕ → Rows → List Reference → (Row → Bool) → (Row → Bool) → List Row → ℕ
seeking digits all fs some judged rows = key_count rows * (digits + digits + 1) + total (λ r. 1 + (if judged r then judging digits all fs r else 0)) (filter some rows)

-- the row has a day between the first and the last day of these
abbrev pub is_between : List Row → Row → Bool
is_between lost r = list_any (λ q. nat_lt q.period.start r.period.end) lost && list_any (λ q. nat_lt r.period.start q.period.end) lost

-- keys lost days with these rows: each key of a foreign key's table is searched for its rows between them, and those are judged
-- that refer to such a key
abbrev pub losing : ℕ → Rows → List Reference → Reference → List Row → ℕ
losing digits all fs f [] = 0
losing digits all fs f (q ∷ lost) = seeking digits all fs (is_between (q ∷ lost)) (λ r. list_any (λ x. same_key (f.refers r.key r.values) x.key) (q ∷ lost)) (all f.child)

-- to follow a foreign key after these rows went from its parent: the key of each is searched for the rows that have a day of it
-- now; with those that have a day that none of these has, the key lost days
abbrev pub following : ℕ → Rows → List Reference → Reference → List Row → ℕ
following digits all fs f removed = total (λ q. searching digits q.key q.period (all f.parent)) removed + losing digits all fs f (filter (has_lost_day (all f.parent)) removed)

-- to check a table by its foreign keys: each row that came is looked for, and judged; and each foreign key is followed
abbrev pub checking : ℕ → Rows → Rows → Rows → ℕ → List Reference → ℕ
checking digits all removed added n [] = 0
checking digits all removed added n (f ∷ fs) = total (λ r. digits + 1 + judging digits all (f ∷ fs) r) (added n) + total (λ g. following digits all (f ∷ fs) g (removed g.parent)) (f ∷ fs)

-- to check the tables from this place on
abbrev pub checking_from : ℕ → Rows → Rows → Rows → ℕ → Tables → ℕ
checking_from digits all removed added n [] = 0
checking_from digits all removed added n (t ∷ ts) = checking digits all removed added n (map (reference_of n t.1) t.1.references) + checking_from digits all removed added (n + 1) ts

-- references are checked after these rows went and came, in tables of this schema that have all these rows now
abbrev pub FewToCheck : Tables → Rows → Rows → Rows → ℕ → ℕ → Type 0
FewToCheck schema all removed added old new = CostsAtMost all (λ digits. checking_from digits all removed added 0 schema) old new
