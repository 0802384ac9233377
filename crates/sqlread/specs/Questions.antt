-- What queries are checked for, in the order of the text, and the queries that they then are.
use Rattle.std.specs.Prelude.{◌-◌, not, nat_lt, nat_le, Result, Ok}
use mathlib.Core.Logic.{inl, inr}
use Rattle.fault.specs.declared.refusal.Refusal.{Refusal}
use Rattle.fault.specs.declared.refusal.Refusal.TheVariants.{UnknownColumn, EmptyPeriod}
use Rattle.model.specs.Answers.{SystemTime, as_of}
use Rattle.schema.specs.Name.{same_name}
use Rattle.schema.specs.Shape.{TableShape}
use Rattle.sqlsyntax.specs.declared.forms.Relation.{Relation}
use Rattle.sqlsyntax.specs.declared.forms.Relation.TheVariants.{Overlaps, Equals, Precedes, Succeeds, ImmediatelyPrecedes, ImmediatelySucceeds}
use Rattle.namesyntax.specs.Names.{Bytes}
use Rattle.sqlsyntax.specs.Queries.{RelationForm, PredicateForm, TermForm, TimeForm, QueryForm}
use Rattle.sqlchecks.specs.Answering.{◌>>=◌, ◌>>◌, refuse_if, each_of}
use Rattle.sqlchecks.specs.Literals.{day_named, instant_named, period_named}
use Rattle.sqlchecks.specs.Columns.{Tables}
use Rattle.sqlchecks.specs.Comparisons.{comparison_in}
use Rattle.sqlread.specs.Shapes.{TermShape, Compares, ContainsDay, Contains, Relates, QueryShape}
use Rattle.sqlread.specs.Changes.{in_table, if_given, all_given}

-- ---- FOR SYSTEM_TIME: 16 for each instant, then 15 where there is none between. FROM .. TO ends before its second instant

unfoldable pub time_in : TimeForm → Result SystemTime Refusal
time_in (inl at) = instant_named at >>= λ t. Ok (as_of t)
time_in (inr (inl (from, to))) = do
  start ← instant_named from
  end ← instant_named to
  refuse_if (not (nat_lt start end)) EmptyPeriod
  Ok (record { first = start; last = end - 1 })
time_in (inr (inr (from, to))) = do
  start ← instant_named from
  end ← instant_named to
  refuse_if (not (nat_le start end)) EmptyPeriod
  Ok (record { first = start; last = end })

-- ---- WHERE

abbrev pub relation_of : RelationForm → Relation
relation_of (inl tt) = Overlaps
relation_of (inr (inl tt)) = Equals
relation_of (inr (inr (inl tt))) = Precedes
relation_of (inr (inr (inr (inl tt)))) = Succeeds
relation_of (inr (inr (inr (inr (inl tt))))) = ImmediatelyPrecedes
relation_of (inr (inr (inr (inr (inr tt))))) = ImmediatelySucceeds

-- 12 where the name is not that of the table's period
abbrev pub of_period : TableShape → Bytes → Result (Unit {0}) Refusal
of_period table name = refuse_if (not (same_name name table.period)) UnknownColumn

unfoldable pub predicate_in : TableShape → Bytes → PredicateForm → Result TermShape Refusal
predicate_in table name (inl (inl (from, to))) = of_period table name >> (period_named from to >>= λ p. Ok (Contains p))
predicate_in table name (inl (inr day)) = of_period table name >> (day_named day >>= λ d. Ok (ContainsDay d))
predicate_in table name (inr (inl comparison)) = comparison_in table (name, comparison) >>= λ c. Ok (Compares c)
predicate_in table name (inr (inr (relation, (from, to)))) = of_period table name >> (period_named from to >>= λ p. Ok (Relates (relation_of relation) p))

unfoldable pub term_in : TableShape → TermForm → Result TermShape Refusal
term_in table form = predicate_in table form.0 form.1

-- ---- queries

unfoldable pub question_in : Tables → QueryForm → Result QueryShape Refusal
question_in tables form = in_table tables form.0 λ place table. do
  time ← if_given time_in form.1.0
  terms ← all_given (each_of (term_in table)) form.1.1
  Ok (record { table = place; time = time; terms = terms })
