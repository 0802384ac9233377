-- The grammar of queries.
use Rattle.std.specs.Prelude.{List, Option, ◌⊎◌, map}
use Rattle.std.specs.Option.{option_map}
use mathlib.Core.Logic.{inl, inr}
use Rattle.sqltokens.specs.declared.token.Keyword.TheVariants.{Select, From, For, SystemTime, As, Of, To, Between, And, Where, Period, Contains, Overlaps, Equals, Precedes, Succeeds, Immediately, Timestamp}
use Rattle.sqltokens.specs.declared.token.Sign.TheVariants.{Star, Semicolon, Open, Close, Comma}
use Rattle.sqlsyntax.specs.declared.forms.Operator.{Operator}
use Rattle.sqlsyntax.specs.declared.forms.Span.{Span}
use Rattle.sqlsyntax.specs.declared.forms.Relation.{Relation}
use Rattle.sqlsyntax.specs.declared.forms.Relation.TheVariants as relations
use Rattle.sqlsyntax.specs.declared.forms.Predicate.{Predicate}
use Rattle.sqlsyntax.specs.declared.forms.Predicate.TheVariants as predicates
use Rattle.sqlsyntax.specs.declared.forms.Term.{Term}
use Rattle.sqlsyntax.specs.declared.forms.SystemTime as system
use Rattle.sqlsyntax.specs.declared.forms.SystemTime.TheVariants as times
use Rattle.sqlsyntax.specs.declared.forms.Query.{Query}
use Rattle.sqltokens.specs.What.{What, is_word, word, sign}
use Rattle.sqltokens.specs.Classes.{points}
use Rattle.phrase.specs.Grammar.{Phrase, one, only, ◌▹◌, ◌◃◌, ◌▸◌, optional, either, row}
use Rattle.namesyntax.specs.Names.{Bytes, names, name_of}
use Rattle.sqlsyntax.specs.Shared.{operators, is_operator, date, LiteralForm, literal, literal_form}

-- the two dates
abbrev pub SpanForm : Type 0
SpanForm = Bytes × Bytes

-- PERIOD "(" date "," date ")"
unfoldable pub span : Phrase What SpanForm
span = word Period ▹ sign Open ▹ date ▸ sign Comma ▹ date ◃ sign Close

-- overlaps, equals, precedes, succeeds, immediately precedes, immediately succeeds
abbrev pub RelationForm : Type 0
RelationForm = Unit {0} ⊎ (Unit {0} ⊎ (Unit {0} ⊎ (Unit {0} ⊎ (Unit {0} ⊎ Unit {0}))))

unfoldable pub relation : Phrase What RelationForm
relation =
    either (is_word Overlaps) (only (word Overlaps))
    (either (is_word Equals) (only (word Equals))
    (either (is_word Precedes) (only (word Precedes))
    (either (is_word Succeeds) (only (word Succeeds))
    (word Immediately ▹ either (is_word Precedes) (only (word Precedes)) (only (word Succeeds))))))

-- contains a span or a day, is compared by an operator with a literal, or lies so to a span
abbrev pub PredicateForm : Type 0
PredicateForm = (SpanForm ⊎ Bytes) ⊎ ((Operator × LiteralForm) ⊎ (RelationForm × SpanForm))

-- CONTAINS ( span | date ) | operator literal | relation span
unfoldable pub predicate : Phrase What PredicateForm
predicate =
    either (is_word Contains) (word Contains ▹ either (is_word Period) span date)
    (either is_operator (one operators ▸ literal)
    (relation ▸ span))

abbrev pub TermForm : Type 0
TermForm = Bytes × PredicateForm

unfoldable pub term : Phrase What TermForm
term = one names ▸ predicate

unfoldable pub another_term : Phrase What TermForm
another_term = word And ▹ term

-- term { AND term }
unfoldable pub terms : Phrase What (List TermForm)
terms = row term (is_word And) another_term

-- WHERE term { AND term }
unfoldable pub condition : Phrase What (List TermForm)
condition = word Where ▹ terms

-- what stands between the quotes behind TIMESTAMP
unfoldable pub point : Phrase What Bytes
point = word Timestamp ▹ one points

-- as of a timestamp, from one to another, or between two
abbrev pub TimeForm : Type 0
TimeForm = Bytes ⊎ ((Bytes × Bytes) ⊎ (Bytes × Bytes))

-- FOR SYSTEM_TIME ( AS OF point | FROM point TO point | BETWEEN point AND point )
unfoldable pub time : Phrase What TimeForm
time = word For ▹ word SystemTime ▹
    either (is_word As) (word As ▹ word Of ▹ point)
    (either (is_word From) (word From ▹ point ▸ word To ▹ point)
    (word Between ▹ point ▸ word And ▹ point))

-- the table's name, the system time and the terms
abbrev pub QueryForm : Type 0
QueryForm = Bytes × (Option TimeForm × Option (List TermForm))

unfoldable pub query : Phrase What QueryForm
query = word Select ▹ sign Star ▹ word From ▹ one names ▸ optional (is_word For) time ▸ optional (is_word Where) condition ◃ sign Semicolon

-- ---- the parts of what the code reads

abbrev pub span_form : Span → SpanForm
span_form s = (s.from.source.now, s.to.source.now)

abbrev pub relation_form : Relation → RelationForm
relation_form relations.Overlaps = inl tt
relation_form relations.Equals = inr (inl tt)
relation_form relations.Precedes = inr (inr (inl tt))
relation_form relations.Succeeds = inr (inr (inr (inl tt)))
relation_form relations.ImmediatelyPrecedes = inr (inr (inr (inr (inl tt))))
relation_form relations.ImmediatelySucceeds = inr (inr (inr (inr (inr tt))))

abbrev pub predicate_form : Predicate → PredicateForm
predicate_form (predicates.Compares o l) = inr (inl (o, literal_form l))
predicate_form (predicates.ContainsDay d) = inl (inr d.source.now)
predicate_form (predicates.ContainsSpan s) = inl (inl (span_form s))
predicate_form (predicates.Relates r s) = inr (inr (relation_form r, span_form s))

abbrev pub term_form : Term → TermForm
term_form t = (name_of t.name, predicate_form t.predicate)

abbrev pub time_form : system.SystemTime → TimeForm
time_form (times.AsOf t) = inl t.source.now
time_form (times.FromTo a b) = inr (inl (a.source.now, b.source.now))
time_form (times.Between a b) = inr (inr (a.source.now, b.source.now))

abbrev pub query_form : Query → QueryForm
query_form q = (name_of q.table, (option_map time_form q.time, option_map (λ v. map term_form v.items) q.terms))
