-- What the text of a query says, how each part of it is spelled, what it is checked for in the order of the text, and what it asks.
use Rattle.std.specs.Prelude.{◌≡◌, ℕ, ◌<◌, ◌≤◌, ◌+◌, ◌-◌, ◌==◌, ◌↔◌, Bool, true, not, ◌&&◌, nat_lt, nat_le, if◌then◌else◌, List, [], ◌∷◌, ◌++◌, length, map, Option, Some, None, codes, Result, Ok, Err}
use Rattle.std.specs.Char.{is_ascii_digit}
use Rattle.std.specs.Cmp.Lexicographic.{pointwise}
use Rattle.std.specs.List.{join_by, list_all}
use Rattle.fault.specs.declared.refusal.Refusal.{Refusal}
use Rattle.fault.specs.declared.refusal.Refusal.TheVariants.{Syntax, UnknownColumn, EmptyPeriod, TooLarge}
use Rattle.model.specs.Tables.{Row, inside}
use Rattle.model.specs.Answers.{SystemTime, Select}
use Rattle.schema.specs.Name.{same_name}
use Rattle.schema.specs.Shape.{TableShape}
use Rattle.sqltokens.specs.declared.token.Keyword.{Keyword}
use Rattle.sqltokens.specs.declared.token.Keyword.TheVariants as keyword
use Rattle.sqltokens.specs.declared.token.Keyword.TheVariants.{As, Of, For, From, To, And, Where, SystemTime as SystemTimeWord, Timestamp, Date, Period, Contains, Immediately}
use Rattle.sqltokens.specs.declared.token.Sign.TheVariants.{Open, Close, Comma, Semicolon, Star}
use Rattle.sqltokens.specs.What.{What, Word, Symbol, Name, Text, Piece}
use Rattle.namesyntax.specs.Names.{Bytes}
use Rattle.sqlsyntax.specs.declared.forms.Operator.{Operator}
use Rattle.sqlsyntax.specs.declared.forms.Relation.{Relation}
use Rattle.sqlsyntax.specs.declared.forms.Relation.TheVariants.{Overlaps, Equals, Precedes, Succeeds, ImmediatelyPrecedes, ImmediatelySucceeds}
use Rattle.sqlsyntax.specs.Shared.{operator_sign, LiteralForm}
use Rattle.sqlsyntax.specs.Spelling.{literal}
use Rattle.sqlchecks.specs.Columns.{Tables}
use Rattle.sqlchecks.specs.Comparisons.{compares}
use Rattle.sqlread.specs.Meaning.{relates}
use Rattle.believed.specs.Results.{◌>>=◌, ◌>>◌, refuse_if, each}
use Rattle.believed.specs.Spelling.{Spells, IsWrongAt}
use Rattle.believed.specs.Checks.{in_table, day_named, comparison_in}
use Rattle.believed.specs.Meaning.{portion_in}
use Rattle.believed.specs.Queries.{instant_named}

-- ---- what is said

-- behind FOR SYSTEM_TIME
pub data Time : Type 0 where
  AsOf : (at : Bytes) → Time
  FromTo : (from to : Bytes) → Time
  Between : (from to : Bytes) → Time

-- of the period, of a column, of the period again; days go from a date to another
pub data Predicate : Type 0 where
  ContainsDays : (from to : Bytes) → Predicate
  ContainsDay : (day : Bytes) → Predicate
  Compares : Operator → LiteralForm → Predicate
  Relates : Relation → (from to : Bytes) → Predicate

-- each term of WHERE names the column or the period that it is about
pub record Query : Type 0 where
  pub table : Bytes
  pub time : Option Time
  pub terms : List (Bytes × Predicate)

-- ---- spellings

-- PERIOD (DATE from, DATE to)
abbrev pub dates : Bytes → Bytes → List What
dates from to = Word Period ∷ Symbol Open ∷ Word Date ∷ Text from ∷ Symbol Comma ∷ Word Date ∷ Text to ∷ Symbol Close ∷ []

-- the words of each relation
abbrev pub relation : Relation → List What
relation Overlaps = Word keyword.Overlaps ∷ []
relation Equals = Word keyword.Equals ∷ []
relation Precedes = Word keyword.Precedes ∷ []
relation Succeeds = Word keyword.Succeeds ∷ []
relation ImmediatelyPrecedes = Word Immediately ∷ Word keyword.Precedes ∷ []
relation ImmediatelySucceeds = Word Immediately ∷ Word keyword.Succeeds ∷ []

-- CONTAINS and days, CONTAINS and a day, an operator and a literal, a relation and days
abbrev pub predicate : Predicate → List What
predicate (ContainsDays from to) = Word Contains ∷ dates from to
predicate (ContainsDay day) = Word Contains ∷ Word Date ∷ Text day ∷ []
predicate (Compares operator value) = Symbol (operator_sign operator) ∷ literal value
predicate (Relates r from to) = relation r ++ dates from to

-- nothing, or FOR SYSTEM_TIME AS OF an instant, FROM one TO another, or BETWEEN two
abbrev pub time : Option Time → List What
time None = []
time (Some (AsOf at)) = Word For ∷ Word SystemTimeWord ∷ Word As ∷ Word Of ∷ Word Timestamp ∷ Text at ∷ []
time (Some (FromTo from to)) = Word For ∷ Word SystemTimeWord ∷ Word From ∷ Word Timestamp ∷ Text from ∷ Word To ∷ Word Timestamp ∷ Text to ∷ []
time (Some (Between from to)) = Word For ∷ Word SystemTimeWord ∷ Word keyword.Between ∷ Word Timestamp ∷ Text from ∷ Word And ∷ Word Timestamp ∷ Text to ∷ []

-- nothing, or WHERE and terms with AND between them
abbrev pub terms : List (Bytes × Predicate) → List What
terms [] = []
terms ts = Word Where ∷ join_by (λ t. Name t.0 ∷ predicate t.1) (Word And ∷ []) ts

-- SELECT * FROM table time terms;
abbrev pub query : Query → List What
query q = Word keyword.Select ∷ Symbol Star ∷ Word From ∷ Name q.table ∷ (time q.time ++ (terms q.terms ++ Symbol Semicolon ∷ []))

-- each text behind this word has the shape: a digit at each d (code 100), else the very byte
abbrev pub AreShaped : Keyword → List ℕ → List What → Type 0
AreShaped word shape tokens = (before after : List What) (text : Bytes) → tokens ≡ before ++ Word word ∷ Text text ∷ after →
    pointwise (λ d b. if d == 100 then is_ascii_digit b else d == b) shape text ≡ true

-- the tokens of the query, with its dates and instants in their shapes
abbrev pub IsQuery : Query → List Piece → Type 0
IsQuery q tokens = (map (λ t. t.what) tokens ≡ query q) × AreShaped Date (codes "dddd-dd-dd") (query q)
    × AreShaped Timestamp (codes "dddd-dd-dd dd:dd:dd.dddddd") (query q)

-- ---- checks, and what is asked

-- from one instant to another, with so many instants more, the last left out: 16 for each of the two, then 15 where none is between
abbrev pub instants_in : Bytes → Bytes → ℕ → Result (Option SystemTime) Refusal
instants_in from to more = do
  start ← instant_named from
  end ← instant_named to
  refuse_if (not (nat_lt start (end + more))) EmptyPeriod
  Ok (Some (record { first = start; last = end + more - 1 }))

-- AS OF t is t alone; FROM .. TO leaves its last instant out, BETWEEN has it
abbrev pub time_in : Option Time → Result (Option SystemTime) Refusal
time_in None = Ok None
time_in (Some (AsOf at)) = instants_in at at 1
time_in (Some (FromTo from to)) = instants_in from to 0
time_in (Some (Between from to)) = instants_in from to 1

-- a test on a row; days are checked as those behind FOR PORTION OF
abbrev pub term_in : TableShape → Bytes × Predicate → Result (Row → Bool) Refusal
term_in table (name, ContainsDays from to) =
    portion_in table (Some (name, (from, to))) >>= λ p. Ok (λ row. nat_le row.period.start p.start && nat_le p.end row.period.end)
term_in table (name, ContainsDay day) = refuse_if (not (same_name name table.period)) UnknownColumn >> day_named day >>= λ d. Ok (λ row. inside row.period d)
term_in table (name, Compares operator value) = comparison_in table (name, (operator, value)) >>= λ c. Ok (λ row. compares c row.key row.values)
term_in table (name, Relates r from to) = portion_in table (Some (name, (from, to))) >>= λ p. Ok (λ row. relates r row.period p)

-- table, system time, WHERE
abbrev pub question_in : Tables → Query → Result Select Refusal
question_in tables q = in_table tables q.table λ place table. do
  time ← time_in q.time
  passes ← each (term_in table) q.terms
  Ok (record { table = place; time = time; passes = λ row. list_all (λ test. test row) passes })

-- more than 4096 bytes, or a text that spells a query, which the checks take or refuse, or one that goes wrong at a place
pub data IsQuestion (tables : Tables) (text : List ℕ) (r : Result Select Refusal) : Type 0 where
  TooLong : 4096 < length text → r ≡ Err TooLarge → IsQuestion tables text r
  Spelled : (q : Query) → length text ≤ 4096 → Spells text (IsQuery q) → r ≡ question_in tables q → IsQuestion tables text r
  Wrong : (at : ℕ) → length text ≤ 4096 → IsWrongAt (λ tokens. (q : Query) × IsQuery q tokens) text at → r ≡ Err (Syntax at) → IsQuestion tables text r

-- each text asks what is given for it
abbrev pub IsAsking : Tables → (List ℕ → Result Select Refusal) → Type 0
IsAsking tables asks = (text : List ℕ) (r : Result Select Refusal) → IsQuestion tables text r ↔ (asks text ≡ r)
