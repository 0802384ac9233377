-- Fourteen laws that anybody believes of a database. Each ties large definitions of `model` or `sqlread` to a sentence, which stands
-- above it; the function of that name in `src/lib.rt` has it for its contract. The fourteenth is in `Example.antt`.
use Rattle.std.specs.Prelude.{◌≡◌, ◌↔◌, ◌⊎◌, ℕ, ◌+◌, ◌<◌, ◌≤◌, Bool, true, false, ◌&&◌, if◌then◌else◌, Option, Some, None, option_map, List, [], ◌∷◌, ◌++◌, map, length, reverse, All, Contains, Result, Ok, Err}
use Rattle.std.specs.Result.{result_unwrap_or}
use Rattle.fault.specs.declared.refusal.Refusal.{Refusal}
use Rattle.fault.specs.declared.refusal.Refusal.TheVariants.{KeyOverlap, NotClosed, Old, Gap}
use Rattle.period.specs.Day.{IsDayText}
use Rattle.period.specs.Instant.{IsInstant, IsInstantText}
use Rattle.model.specs.declared.value.Value.{Value}
use Rattle.model.specs.declared.entry.Entry.{Entry}
use Rattle.model.specs.declared.entry.Request.{Request}
use Rattle.model.specs.declared.entry.Told.{Told}
use Rattle.model.specs.Lists.{nth}
use Rattle.model.specs.Tables.{days, Period, inside, Table, Row, IsRow, joined, row_at, empty_table}
use Rattle.model.specs.Statements.{meets}
use Rattle.model.specs.Transactions.{State, Statement, Language, Action, Insert, Update, Delete, changed, run_statements, transacted, executed_text}
use Rattle.model.specs.Texts.{instant_text}
use Rattle.model.specs.Logs.{IsStamped, executed, is_first, outcome_at, state_after, outcome, state_at}
use Rattle.model.specs.Answers.{as_of, Query, Select, Answer, read_at, IsAnswer, IsClosed}
use Rattle.model.specs.Members.{Node, applied, closed_time}
use Rattle.model.specs.Worlds.{World, Event, Ask, Output, Applied, Refused, Answered, new_world, run, Gives, GivesAll}
use Rattle.model.specs.Agreement.{decided, IsTold}
use Rattle.rowlaws.specs.Cutting.{cut, removed}
use Rattle.rowlaws.specs.Changes.{IsFine}
use Rattle.rowlaws.specs.Statements.{AreFine}
use Rattle.rowlaws.specs.Covering.{ReferencesHold}
use Rattle.onelist.specs.Explained.{Gave, IsAnswered, WereSubmitted, IsInOrder}
use Rattle.sqltokens.specs.Syntax as grammar
use Rattle.sqlsyntax.specs.Queries.{query}
use Rattle.sqlsyntax.specs.Spelling.{Spells, IsWrongAt}
use Rattle.sqlchecks.specs.Literals.{day_named, instant_named}
use Rattle.sqlchecks.specs.Columns.{Tables}
use Rattle.sqlread.specs.Reading.{IsReading}
use Rattle.sqlread.specs.Meaning.{language_of}

-- ---- one table

-- A table arises by actions that were accepted, from the empty one on. (`IsFine`: a period that is inserted has a day, and none past
-- the last; a portion has a day.) By `TablesArise` below these are all the tables that there ever are.
pub data Arises : Table → Type 0 where
  Empty : Arises empty_table
  Changed : (c : Action) (t : ℕ) (before after : Table) → IsFine c → Arises before → changed c t before ≡ Ok after → Arises after

-- 1. An INSERT that is accepted leaves its row, born at the instant, and each row that was there; and no other.
abbrev pub InsertedIsThere : Type 0
InsertedIsThere = (key values : List Value) (p : Period) (t : ℕ) (before after : Table) (row : Row) → p.start < p.end → p.end ≤ days → Arises before →
    changed (Insert key values p) t before ≡ Ok after → IsRow after row ↔ (IsRow before row ⊎ (row ≡ record { key = key; period = p; values = values; system_start = t }))

-- It is refused exactly where a row has its key and a day of its period.
abbrev pub InsertIsRefused : Type 0
InsertIsRefused = (key values : List Value) (p : Period) (t : ℕ) (before : Table) → p.start < p.end → p.end ≤ days → Arises before →
    (changed (Insert key values p) t before ≡ Err KeyOverlap) ↔ ((row : Row) × (d : ℕ) × IsRow before row × (row.key ≡ key) × (inside row.period d && inside p d ≡ true))

-- 2. What is deleted is gone: of a row that passes WHERE no day of the portion is left.
abbrev pub DeletedIsGone : Type 0
DeletedIsGone = (passes : Row → Bool) (p : Period) (t : ℕ) (before after : Table) (row : Row) (d : ℕ) → Arises before → changed (Delete passes p) t before ≡ Ok after →
    IsRow before row → passes row ≡ true → inside row.period d && inside p d ≡ true → after.fact row.key d ≡ None

-- whether the action meets the row: an UPDATE or a DELETE meets one that passes WHERE and has a day in the portion
abbrev pub is_met_by : Action → Row → Bool
is_met_by (Insert key values p) row = false
is_met_by (Update passes p set) row = meets passes p row
is_met_by (Delete passes p) row = meets passes p row

-- 3. What is not met stays: each row that the action does not meet is there after it as it was, born when it was.
abbrev pub UnmetStays : Type 0
UnmetStays = (c : Action) (t : ℕ) (before after : Table) (row : Row) → IsFine c → Arises before → changed c t before ≡ Ok after →
    IsRow before row → is_met_by c row ≡ false → IsRow after row

-- what an UPDATE or a DELETE leaves on a day of a row that it meets: in the portion what SET makes of the values, or nothing; else the values
abbrev pub left_by : Action → Row → ℕ → Option (List Value)
left_by (Update passes p set) row d = if inside p d then set row.values else Some row.values
left_by (Delete passes p) row d = if inside p d then None else Some row.values
left_by (Insert key values p) row d = Some row.values

-- What is met becomes what the statement says, day by day, and is born at the instant.
abbrev pub MetIsChanged : Type 0
MetIsChanged = (c : Action) (t : ℕ) (before after : Table) (row : Row) (d : ℕ) → IsFine c → Arises before → changed c t before ≡ Ok after →
    IsRow before row → is_met_by c row ≡ true → inside row.period d ≡ true → after.fact row.key d ≡ option_map (λ values. record { values = values; system_start = t }) (left_by c row d)

-- what becomes of a row: one that is met is cut in what lies before the portion, within it (unless that is deleted) and after it
abbrev pub parts_by : Action → ℕ → Row → List Row
parts_by (Insert key values p) t row = row ∷ []
parts_by (Update passes p set) t row = cut passes p set t row
parts_by (Delete passes p) t row = removed passes p t row

-- Nothing else is there: after an UPDATE or a DELETE each row is a part of one that was there, and each part is there.
abbrev pub PartsAreThere : Type 0
PartsAreThere = (c : Action) (t : ℕ) (before after : Table) (row : Row) → IsFine c → Arises before → changed c t before ≡ Ok after →
    ((key values : List Value) (p : Period) → c ≡ Insert key values p → ⊥) → IsRow after row ↔ ((old : Row) × IsRow before old × Contains (parts_by c t old) row)

-- 4. Rows of one key share no day: two that do are one.
abbrev pub RowsShareNoDay : Type 0
RowsShareNoDay = (table : Table) (a b : Row) (d : ℕ) → IsRow table a → IsRow table b → a.key ≡ b.key → inside a.period d && inside b.period d ≡ true → a ≡ b

-- 5. Rows are longest runs. Each filled day lies in one row, which is the one that UPDATE and DELETE find.
abbrev pub RowsAreRuns : Type 0
RowsAreRuns = (table : Table) (key : List Value) (d : ℕ) (row : Row) → Arises table →
    row_at table key d ≡ Some row ↔ (IsRow table row × (row.key ≡ key) × (inside row.period d ≡ true))

-- And no longer run of joined days has the row's.
abbrev pub NoLongerRun : Type 0
NoLongerRun = (table : Table) (row : Row) (p : Period) → IsRow table row → p.start ≤ row.period.start → row.period.end ≤ p.end →
    ((d : ℕ) → p.start < d → d < p.end → joined table row.key d ≡ true) → p ≡ row.period

-- ---- all tables

-- 6. Nobody lacks a parent: at each instant, whatever texts were executed, a day that is filled in a child is filled in its parent.
abbrev pub NoOrphans : Type 0
NoOrphans = (tables : Tables) (list : List Entry) (u : ℕ) → ReferencesHold (language_of tables) (state_at (language_of tables) list u)

-- A transaction whose statements are accepted is refused for no other reason.
abbrev pub OrphansAreRefused : Type 0
OrphansAreRefused = (language : Language) (t : ℕ) (ss : List Statement) (before next : State) → AreFine ss → ((n : ℕ) → Arises (before n)) →
    run_statements t ss before ≡ Ok next → (transacted language t ss before ≡ Ok next) ↔ ReferencesHold language next

-- Each table at each instant arises as those above.
abbrev pub TablesArise : Type 0
TablesArise = (tables : Tables) (list : List Entry) (u n : ℕ) → Arises (state_at (language_of tables) list u n)

-- ---- lists of entries

-- 7. The past stays: entries that come later leave the tables at each instant before them. What a DELETE took is there AS OF the instant before it.
abbrev pub PastStays : Type 0
PastStays = (language : Language) (list later : List Entry) (u : ℕ) → All (λ e. u < e.stamp) later → state_at language (list ++ later) u ≡ state_at language list u

-- And so does each answer about instants before them.
abbrev pub AnswersStay : Type 0
AnswersStay = (language : Language) (q : Query) (list later : List Entry) (a : Answer) → All (λ e. q.time.last < e.stamp) later → IsAnswer language q list a ↔ IsAnswer language q (list ++ later) a

-- An answer AS OF an instant has the rows of the table then that pass WHERE, and no other.
abbrev pub AnswerHasTheRows : Type 0
AnswerHasTheRows = (language : Language) (n u : ℕ) (passes : Row → Bool) (list : List Entry) (a : Answer) (row : Row) → IsAnswer language (record { table = n; time = as_of u; passes = passes }) list a →
    Contains (map (λ s. s.row) a.rows) row ↔ (IsRow (state_at language list u n) row × (passes row ≡ true))

-- the requests of one client, numbered from n on, each with its instant and its text
abbrev pub requests_from : ℕ → ℕ → List (ℕ × List ℕ) → List Entry
requests_from client n [] = []
requests_from client n ((t, text) ∷ more) = record { term = 1; stamp = t; request = Some (record { client = client; number = n; text = text }) } ∷ requests_from client (n + 1) more

-- the tables after these texts are run one after another, where one that is refused changes nothing
abbrev pub run_in_turn : Language → State → List (ℕ × List ℕ) → State
run_in_turn language state [] = state
run_in_turn language state ((t, text) ∷ more) = run_in_turn language (result_unwrap_or (executed_text language t text state) state) more

-- 8. One client's tables are those of its texts run one after another, and of the next one it is told what that comes to on them.
abbrev pub OneClient : Type 0
OneClient = (language : Language) (client t : ℕ) (text : List ℕ) (items : List (ℕ × List ℕ)) →
    let before = reverse (requests_from client 1 items) in
    let left = run_in_turn language (λ n. empty_table) items in
    (state_after language before ≡ left)
    × (outcome language t (record { client = client; number = length items + 1; text = text }) before ≡ outcome_at t (executed_text language t text left))

-- two lists, from the newest entry back, leave the same tables, and whatever request comes next is told the same
abbrev pub AreAlike : Language → List Entry → List Entry → Type 0
AreAlike language a b = (state_after language a ≡ state_after language b) × ((t : ℕ) (r : Request) → outcome language t r a ≡ outcome language t r b)

-- 9. A repeat is harmless: a request that was executed and comes again changes nothing, and while its number is among its client's latest eight it is told what it was told.
abbrev pub RepeatIsHarmless : Type 0
RepeatIsHarmless = (language : Language) (older between : List Entry) (d e : Entry) (r again : Request) → d.request ≡ Some r → is_first r older ≡ true →
    e.request ≡ Some again → again.client ≡ r.client → again.number ≡ r.number →
    let before = between ++ d ∷ older in
    AreAlike language (e ∷ before) before × (executed r.client before < r.number + 8 → outcome language e.stamp again before ≡ outcome language d.stamp r older)

-- Only the number after the last one counts. Any other changes nothing; a greater one is told that there is a gap, and one before the latest eight that it is old.
abbrev pub OnlyTheNextCounts : Type 0
OnlyTheNextCounts = (language : Language) (before : List Entry) (e : Entry) (r : Request) → e.request ≡ Some r →
    (is_first r before ≡ false → AreAlike language (e ∷ before) before) × (executed r.client before + 1 < r.number → outcome language e.stamp r before ≡ Err Gap)
    × (r.number + 8 ≤ executed r.client before → outcome language e.stamp r before ≡ Err Old)

-- ---- runs of a group

-- 10. Refused exactly where not closed: of a question about instants up to its closed time a member that is up gives the answer in what it has applied; any other it refuses.
abbrev pub RefusedUnlessClosed : Type 0
RefusedUnlessClosed = (language : Language) (n m : ℕ) (w : World) (q : Select) (out : List Output) (x : Node) → nth w.nodes m ≡ Some x → x.up ≡ true → Gives language n w (Ask m q) out →
    ((t : ℕ) → closed_time x ≡ Some t → (read_at t q).time.last ≤ t → (a : Answer) × IsAnswer language (read_at t q) (applied x) a × (out ≡ Answered m a ∷ []))
    × ((IsClosed q (closed_time x) → ⊥) → out ≡ Refused m (NotClosed (option_map instant_text (closed_time x))) ∷ [])

-- Closed is closed: whatever is decided past what a member has applied has a stamp above its closed time.
abbrev pub NothingComesBelow : Type 0
NothingComesBelow = (language : Language) (n m i t : ℕ) (early late : List Event) (x : Node) (e : Entry) → nth (run language n (new_world n) early).nodes m ≡ Some x → closed_time x ≡ Some t →
    length (applied x) < i → nth (decided language n (new_world n) (early ++ late)) i ≡ Some e → t < e.stamp

-- 11. One list explains all that a run gives, whatever is lost, late, repeated or cut short. Its instants rise; each request that a member tells of stands in it with that
-- outcome; each answer is the one in it; each request in it was submitted; and what began after something was told or answered stands after that.
abbrev pub OneListExplains : Type 0
OneListExplains = (language : Language) (n : ℕ) (events : List Event) (outs : List (List Output)) → GivesAll language n (new_world n) events outs →
    (list : List Entry) × IsStamped list
    × ((k m : ℕ) (told : Told) → Gave outs k (Applied m told) → IsTold language list told)
    × ((k m : ℕ) (q : Select) (a : Answer) → IsAnswered events outs k m q a → IsAnswer language (read_at a.last q) list a)
    × WereSubmitted events list × IsInOrder language events outs list

-- ---- texts

-- one thing is said and nothing goes wrong, or something goes wrong at one place and nothing is said
abbrev pub IsOneReading : {A : Type 0} → (A → Type 0) → (ℕ → Type 0) → Type 0
IsOneReading {A} Says GoesWrongAt =
    ((a : A) × Says a × ((b : A) → Says b → b ≡ a) × ((at : ℕ) → GoesWrongAt at → ⊥))
    ⊎ ((at : ℕ) × GoesWrongAt at × ((place : ℕ) → GoesWrongAt place → place ≡ at) × ((a : A) → Says a → ⊥))

-- 12. A text has one reading: it spells one list of statements, or else goes wrong at one place.
abbrev pub OneReading : Type 0
OneReading = (text : List ℕ) → IsOneReading (Spells text) (IsWrongAt text)

-- And so of a question.
abbrev pub OneQuestion : Type 0
OneQuestion = (text : List ℕ) → IsOneReading (grammar.Spells query text) (grammar.IsWrongAt query text)

-- And a transaction means one thing: its statements, or one refusal.
abbrev pub OneMeaning : Type 0
OneMeaning = (tables : Tables) (text : List ℕ) → (r : Result (List Statement) Refusal) × IsReading tables text r × ((s : Result (List Statement) Refusal) → IsReading tables text s → s ≡ r)

-- 13. Days are named by their dates: a text names a day exactly where it is its date in the calendar, as YYYY-MM-DD.
abbrev pub DaysAreNamed : Type 0
DaysAreNamed = (d : ℕ) (text : List ℕ) → d ≤ days → (day_named text ≡ Ok d) ↔ IsDayText d text

-- And so of instants, by their date and time of day.
abbrev pub InstantsAreNamed : Type 0
InstantsAreNamed = (t : ℕ) (text : List ℕ) → IsInstant t → (instant_named text ≡ Ok t) ↔ IsInstantText t text
