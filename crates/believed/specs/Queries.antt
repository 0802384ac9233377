-- What the text of a query spells, what it is checked for in the order of the text, and what it asks.
use Rattle.std.specs.Prelude.{◌≡◌, ◌≢◌, ℕ, ◌<◌, ◌≤◌, ◌-◌, ◌==◌, ◌↔◌, Bool, true, not, ◌&&◌, nat_lt, nat_le, if◌then◌else◌, List, [], ◌∷◌, ◌++◌, length, map, find, Option, Some, None, unwrap_or, ok_or, codes, bytes_eq, Result, Ok, Err}
use Rattle.std.specs.Char.{is_ascii_digit}
use Rattle.std.specs.Cmp.Lexicographic.{pointwise}
use Rattle.std.specs.List.{AllByRecursion, join_by, list_all, range_with_len}
use mathlib.Core.Logic.{inl, inr}
use Rattle.fault.specs.declared.refusal.Refusal.{Refusal}
use Rattle.fault.specs.declared.refusal.Refusal.TheVariants.{Syntax, UnknownColumn, EmptyPeriod, OutOfRange, TooLarge}
use Rattle.model.specs.Tables.{Period, Row, inside}
use Rattle.model.specs.Answers.{SystemTime, Select}
use Rattle.schema.specs.Name.{same_name}
use Rattle.schema.specs.Shape.{TableShape}
use Rattle.sqltokens.specs.declared.token.Keyword.TheVariants as keyword
use Rattle.sqltokens.specs.declared.token.Sign.TheVariants.{Open, Close, Comma, Semicolon, Star}
use Rattle.sqltokens.specs.What.{What, Word, Symbol, Name, Text, Piece}
use Rattle.namesyntax.specs.Names.{Bytes}
use Rattle.sqlsyntax.specs.declared.forms.Relation.{Relation}
use Rattle.sqlsyntax.specs.declared.forms.Relation.TheVariants.{Overlaps, Equals, Precedes, Succeeds, ImmediatelyPrecedes, ImmediatelySucceeds}
use Rattle.sqlsyntax.specs.Shared.{operator_sign}
use Rattle.sqlsyntax.specs.Queries.{SpanForm, RelationForm, PredicateForm, TermForm, TimeForm, QueryForm}
use Rattle.sqlsyntax.specs.Spelling.{literal}
use Rattle.sqlchecks.specs.Columns.{Tables}
use Rattle.sqlchecks.specs.Comparisons.{compares}
use Rattle.sqlread.specs.Meaning.{relates}
use Rattle.believed.specs.Days.{instant_text}
use Rattle.believed.specs.Results.{◌>>=◌, ◌>>◌, refuse_if, each}
use Rattle.believed.specs.Spelling.{Spells, IsWrongAt}
use Rattle.believed.specs.Checks.{in_table, day_named, period_from, comparison_in}

-- ---- spellings

-- PERIOD and two dates
abbrev pub span : SpanForm → List What
span (from, to) =
    Word keyword.Period ∷ Symbol Open ∷ Word keyword.Date ∷ Text from ∷ Symbol Comma ∷ Word keyword.Date ∷ Text to ∷ Symbol Close ∷ []

-- the words of each relation
abbrev pub relation : RelationForm → List What
relation (inl u) = Word keyword.Overlaps ∷ []
relation (inr (inl u)) = Word keyword.Equals ∷ []
relation (inr (inr (inl u))) = Word keyword.Precedes ∷ []
relation (inr (inr (inr (inl u)))) = Word keyword.Succeeds ∷ []
relation (inr (inr (inr (inr (inl u))))) = Word keyword.Immediately ∷ Word keyword.Precedes ∷ []
relation (inr (inr (inr (inr (inr u))))) = Word keyword.Immediately ∷ Word keyword.Succeeds ∷ []

-- CONTAINS and days, CONTAINS and a day, an operator and a literal, a relation and days
abbrev pub predicate : PredicateForm → List What
predicate (inl (inl days)) = Word keyword.Contains ∷ span days
predicate (inl (inr day)) = Word keyword.Contains ∷ Word keyword.Date ∷ Text day ∷ []
predicate (inr (inl (operator, value))) = Symbol (operator_sign operator) ∷ literal value
predicate (inr (inr (r, days))) = relation r ++ span days

-- a column or the period, and a predicate
abbrev pub term : TermForm → List What
term (name, p) = Name name ∷ predicate p

-- nothing, or FOR SYSTEM_TIME AS OF an instant, FROM one TO another, or BETWEEN two
abbrev pub time : Option TimeForm → List What
time None = []
time (Some (inl at)) = Word keyword.For ∷ Word keyword.SystemTime ∷ Word keyword.As ∷ Word keyword.Of ∷ Word keyword.Timestamp ∷ Text at ∷ []
time (Some (inr (inl (from, to)))) =
    Word keyword.For ∷ Word keyword.SystemTime ∷ Word keyword.From ∷ Word keyword.Timestamp ∷ Text from ∷ Word keyword.To ∷ Word keyword.Timestamp ∷ Text to ∷ []
time (Some (inr (inr (from, to)))) =
    Word keyword.For ∷ Word keyword.SystemTime ∷ Word keyword.Between ∷ Word keyword.Timestamp ∷ Text from ∷ Word keyword.And ∷ Word keyword.Timestamp ∷ Text to ∷ []

-- nothing, or WHERE and terms with AND between them
abbrev pub terms : Option (List TermForm) → List What
terms None = []
terms (Some ts) = Word keyword.Where ∷ join_by term (Word keyword.And ∷ []) ts

-- SELECT * FROM table time terms;
abbrev pub query : QueryForm → List What
query (table, (t, ts)) = Word keyword.Select ∷ Symbol Star ∷ Word keyword.From ∷ Name table ∷ (time t ++ (terms ts ++ Symbol Semicolon ∷ []))

-- ---- dates and instants have their shapes: a digit at each d (code 100), else the very byte

abbrev pub IsShaped : List ℕ → Bytes → Type 0
IsShaped shape text = pointwise (λ d b. if d == 100 then is_ascii_digit b else d == b) shape text ≡ true

abbrev pub IsDated : PredicateForm → Type 0
IsDated (inl (inl (from, to))) = IsShaped (codes "dddd-dd-dd") from × IsShaped (codes "dddd-dd-dd") to
IsDated (inl (inr day)) = IsShaped (codes "dddd-dd-dd") day
IsDated (inr (inl (operator, inl day))) = IsShaped (codes "dddd-dd-dd") day
IsDated (inr (inl (operator, inr value))) = Unit {0}
IsDated (inr (inr (r, (from, to)))) = IsShaped (codes "dddd-dd-dd") from × IsShaped (codes "dddd-dd-dd") to

abbrev pub IsTimed : Option TimeForm → Type 0
IsTimed None = Unit {0}
IsTimed (Some (inl at)) = IsShaped (codes "dddd-dd-dd dd:dd:dd.dddddd") at
IsTimed (Some (inr (inl (from, to)))) = IsShaped (codes "dddd-dd-dd dd:dd:dd.dddddd") from × IsShaped (codes "dddd-dd-dd dd:dd:dd.dddddd") to
IsTimed (Some (inr (inr (from, to)))) = IsShaped (codes "dddd-dd-dd dd:dd:dd.dddddd") from × IsShaped (codes "dddd-dd-dd dd:dd:dd.dddddd") to

-- the tokens of the query, with some terms behind WHERE
pub record IsQuery (q : QueryForm) (tokens : List Piece) : Type 0 where
  pub are : map (λ t. t.what) tokens ≡ query q
  pub some : q.1.1 ≢ Some []
  pub timed : IsTimed q.1.0
  pub dated : AllByRecursion (λ t. IsDated t.1) (unwrap_or q.1.1 [])

-- ---- checks

-- an instant from 1970-01-01 00:00:00, which is 0, to 9999-12-30 23:59:59.999999, in microseconds: 16
abbrev pub instant_named : Bytes → Result ℕ Refusal
instant_named text = ok_or (find (λ t. bytes_eq (instant_text t) text) (range_with_len 0 253_402_214_400_000_000)) OutOfRange

-- 16 for each instant, then 15 where there is none between; FROM .. TO ends before its second instant
abbrev pub time_in : TimeForm → Result SystemTime Refusal
time_in (inl at) = instant_named at >>= λ t. Ok (record { first = t; last = t })
time_in (inr (inl (from, to))) = do
  start ← instant_named from
  end ← instant_named to
  refuse_if (not (nat_lt start end)) EmptyPeriod
  Ok (record { first = start; last = end - 1 })
time_in (inr (inr (from, to))) = do
  start ← instant_named from
  end ← instant_named to
  refuse_if (not (nat_le start end)) EmptyPeriod
  Ok (record { first = start; last = end })

-- without system time none
abbrev pub times_in : Option TimeForm → Result (Option SystemTime) Refusal
times_in None = Ok None
times_in (Some form) = time_in form >>= λ t. Ok (Some t)

-- the relation of each form, in its order
abbrev pub relation_of : RelationForm → Relation
relation_of (inl u) = Overlaps
relation_of (inr (inl u)) = Equals
relation_of (inr (inr (inl u))) = Precedes
relation_of (inr (inr (inr (inl u)))) = Succeeds
relation_of (inr (inr (inr (inr (inl u))))) = ImmediatelyPrecedes
relation_of (inr (inr (inr (inr (inr u))))) = ImmediatelySucceeds

-- f of the days of a test on the period: 12 where the name is not that of the table's period, then 16 and 15
abbrev pub days_in : TableShape → Bytes → SpanForm → (Period → Row → Bool) → Result (Row → Bool) Refusal
days_in table name (from, to) f = do
  refuse_if (not (same_name name table.period)) UnknownColumn
  start ← day_named from
  end ← day_named to
  period ← period_from start end
  Ok (f period)

-- a test on a row
abbrev pub term_in : TableShape → TermForm → Result (Row → Bool) Refusal
term_in table (name, inl (inl days)) = days_in table name days λ p row. nat_le row.period.start p.start && nat_le p.end row.period.end
term_in table (name, inl (inr day)) = do
  refuse_if (not (same_name name table.period)) UnknownColumn
  d ← day_named day
  Ok (λ row. inside row.period d)
term_in table (name, inr (inl comparison)) = comparison_in table (name, comparison) >>= λ c. Ok (λ row. compares c row.key row.values)
term_in table (name, inr (inr (r, days))) = days_in table name days λ p row. relates (relation_of r) row.period p

-- table, system time, WHERE
abbrev pub question_in : Tables → QueryForm → Result Select Refusal
question_in tables (name, (t, ts)) = in_table tables name λ place table. do
  time ← times_in t
  passes ← each (term_in table) (unwrap_or ts [])
  Ok (record { table = place; time = time; passes = λ row. list_all (λ test. test row) passes })

-- more than 4096 bytes, or a text that spells a query, which the checks take or refuse, or one that goes wrong at a place
pub data IsQuestion (tables : Tables) (text : List ℕ) (r : Result Select Refusal) : Type 0 where
  TooLong : 4096 < length text → r ≡ Err TooLarge → IsQuestion tables text r
  Spelled : (q : QueryForm) → length text ≤ 4096 → Spells text (IsQuery q) → r ≡ question_in tables q → IsQuestion tables text r
  Wrong : (at : ℕ) → length text ≤ 4096 → IsWrongAt (λ tokens. (q : QueryForm) × IsQuery q tokens) text at → r ≡ Err (Syntax at) → IsQuestion tables text r

-- each text asks what is given for it
abbrev pub IsAsking : Tables → (List ℕ → Result Select Refusal) → Type 0
IsAsking tables asks = (text : List ℕ) (r : Result Select Refusal) → IsQuestion tables text r ↔ (asks text ≡ r)
