-- The grammar of queries is lawful.
use Rattle.std.proofs.Common.{◌≡◌, true, false, List, [], ◌∷◌, ◌++◌, Option, Some, None, refl, inl, inr}
use Rattle.std.specs.Prelude.{◌⊎◌}
use Rattle.sqltokens.specs.declared.token.Keyword.{Keyword}
use Rattle.sqltokens.specs.declared.token.Keyword.TheVariants.{Select, From, For, SystemTime, As, Of, To, Between, And, Where, Period, Contains, Overlaps, Equals, Precedes, Succeeds, Immediately, Timestamp}
use Rattle.sqltokens.specs.declared.token.Sign.TheVariants.{Star, Semicolon, Open, Close, Comma}
use Rattle.sqltokens.specs.What.{What, Symbol, is_word, word, sign}
use Rattle.phrase.specs.Grammar.{Phrase, one, only, ◌▹◌, ◌◃◌, ◌▸◌, optional, either}
use Rattle.namesyntax.specs.Names.{Bytes, names}
use Rattle.sqlsyntax.specs.Shared.{operators, is_operator, date, literal}
use Rattle.sqlsyntax.specs.Queries.{SpanForm, span, RelationForm, relation, predicate, TermForm, term, another_term, terms, condition, point, time, query}
use Rattle.phrase.proofs.Laws.{stops, IsLawful, Begins, Parts, Repeats, after_fixed, before_fixed, in_turn, only_fixed, left_out, one_of, in_row}
use Rattle.sqltokens.proofs.Symbols.{a_word, a_sign, points_lawful, stops_nothing}
use Rattle.namesyntax.proofs.LawsNames.{name_then}
use Rattle.sqlsyntax.proofs.LawsShared.{operator_begins, date_lawful, date_then, operation_lawful}

-- ---- spans

date_closes : date.goes (Symbol Close) ≡ false
unfolding date
date_closes = refl

pub span_lawful : IsLawful span
unfolding span
span_lawful =
    after_fixed (word Period) _ (a_word Period) (after_fixed (sign Open) _ (a_sign Open) (date_then _
    (after_fixed (sign Comma) _ (a_sign Comma) (before_fixed date (sign Close) (a_sign Close) date_closes date_lawful))))

span_begins : Begins (is_word Period) span true
unfolding span
span_begins a rest f = refl

no_span : Begins (is_word Period) date false
unfolding date
no_span a rest f = refl

-- ---- relations

abbrev immediate : Phrase What (Unit {0} ⊎ Unit {0})
immediate = word Immediately ▹ either (is_word Precedes) (only (word Precedes)) (only (word Succeeds))

abbrev from_succeeds : Phrase What (Unit {0} ⊎ (Unit {0} ⊎ Unit {0}))
from_succeeds = either (is_word Succeeds) (only (word Succeeds)) immediate

abbrev from_precedes : Phrase What (Unit {0} ⊎ (Unit {0} ⊎ (Unit {0} ⊎ Unit {0})))
from_precedes = either (is_word Precedes) (only (word Precedes)) from_succeeds

abbrev from_equals : Phrase What (Unit {0} ⊎ (Unit {0} ⊎ (Unit {0} ⊎ (Unit {0} ⊎ Unit {0}))))
from_equals = either (is_word Equals) (only (word Equals)) from_precedes

no_precedes : Begins (is_word Precedes) from_succeeds false
no_precedes (inl u) rest f = refl
no_precedes (inr u) rest f = refl

no_equals : Begins (is_word Equals) from_precedes false
no_equals (inl u) rest f = refl
no_equals (inr (inl u)) rest f = refl
no_equals (inr (inr u)) rest f = refl

no_overlaps : Begins (is_word Overlaps) from_equals false
no_overlaps (inl u) rest f = refl
no_overlaps (inr (inl u)) rest f = refl
no_overlaps (inr (inr (inl u))) rest f = refl
no_overlaps (inr (inr (inr u))) rest f = refl

pub relation_lawful : IsLawful relation
unfolding relation
relation_lawful =
    one_of (is_word Overlaps) (only (word Overlaps)) from_equals (λ a rest f. refl) no_overlaps (only_fixed (word Overlaps) (a_word Overlaps))
    (one_of (is_word Equals) (only (word Equals)) from_precedes (λ a rest f. refl) no_equals (only_fixed (word Equals) (a_word Equals))
    (one_of (is_word Precedes) (only (word Precedes)) from_succeeds (λ a rest f. refl) no_precedes (only_fixed (word Precedes) (a_word Precedes))
    (one_of (is_word Succeeds) (only (word Succeeds)) immediate (λ a rest f. refl) (λ a rest f. refl) (only_fixed (word Succeeds) (a_word Succeeds))
    (after_fixed (word Immediately) _ (a_word Immediately)
    (one_of (is_word Precedes) (only (word Precedes)) (only (word Succeeds)) (λ a rest f. refl) (λ a rest f. refl) (only_fixed (word Precedes) (a_word Precedes)) (only_fixed (word Succeeds) (a_word Succeeds)))))))

relation_ends : (rest : List What) → stops relation.goes rest ≡ true
unfolding relation
relation_ends [] = refl
relation_ends (t ∷ ts) = refl

-- ---- terms

abbrev related : Phrase What (RelationForm × SpanForm)
related = relation ▸ span

no_operator : Begins is_operator related false
unfolding relation
no_operator (inl u, s) rest f = refl
no_operator (inr (inl u), s) rest f = refl
no_operator (inr (inr (inl u)), s) rest f = refl
no_operator (inr (inr (inr (inl u))), s) rest f = refl
no_operator (inr (inr (inr (inr u))), s) rest f = refl

no_contains : Begins (is_word Contains) (either is_operator (one operators ▸ literal) related) false
unfolding relation operators
no_contains (inl o) rest f = refl
no_contains (inr (inl u, s)) rest f = refl
no_contains (inr (inr (inl u), s)) rest f = refl
no_contains (inr (inr (inr (inl u)), s)) rest f = refl
no_contains (inr (inr (inr (inr (inl u))), s)) rest f = refl
no_contains (inr (inr (inr (inr (inr u))), s)) rest f = refl

operation_begins : Begins is_operator (one operators ▸ literal) true
unfolding operators
operation_begins a rest f = operator_begins a.0 (literal.spell a.1 ++ rest)

pub predicate_lawful : IsLawful predicate
unfolding predicate
predicate_lawful =
    one_of (is_word Contains) (word Contains ▹ either (is_word Period) span date) (either is_operator (one operators ▸ literal) related) (λ a rest f. refl) no_contains
    (after_fixed (word Contains) _ (a_word Contains) (one_of (is_word Period) span date span_begins no_span span_lawful date_lawful))
    (one_of is_operator (one operators ▸ literal) related operation_begins no_operator operation_lawful
    (in_turn relation span (λ b rest f s t. relation_ends (span.spell b ++ rest)) relation_lawful span_lawful))

pub term_lawful : IsLawful term
unfolding term
term_lawful = name_then predicate predicate_lawful

pub another_term_lawful : IsLawful another_term
unfolding another_term
another_term_lawful = after_fixed (word And) term (a_word And) term_lawful

pub another_term_begins : Begins (is_word And) another_term true
unfolding another_term
another_term_begins a rest f = refl

terms_part : Parts term another_term
unfolding term another_term predicate literal date span relation
terms_part b rest f = refl

terms_repeat : Repeats another_term
unfolding term another_term predicate literal date span relation
terms_repeat b rest f = refl

pub terms_lawful : IsLawful terms
unfolding terms
terms_lawful = in_row term (is_word And) another_term another_term_begins terms_part terms_repeat term_lawful another_term_lawful

pub condition_lawful : IsLawful condition
unfolding condition
condition_lawful = after_fixed (word Where) terms (a_word Where) terms_lawful

condition_begins : Begins (is_word Where) condition true
unfolding condition
condition_begins a rest f = refl

-- ---- system time

pub point_lawful : IsLawful point
unfolding point
point_lawful = after_fixed (word Timestamp) _ (a_word Timestamp) points_lawful

point_ends : (rest : List What) → stops point.goes rest ≡ true
unfolding point
point_ends rest = stops_nothing rest

two_points : (k : Keyword) → IsLawful (point ▸ word k ▹ point)
two_points k = in_turn point (word k ▹ point) (λ b rest f s t. point_ends ((word k ▹ point).spell b ++ rest)) point_lawful (after_fixed (word k) point (a_word k) point_lawful)

abbrev from_or_between : Phrase What ((Bytes × Bytes) ⊎ (Bytes × Bytes))
from_or_between = either (is_word From) (word From ▹ point ▸ word To ▹ point) (word Between ▹ point ▸ word And ▹ point)

no_as : Begins (is_word As) from_or_between false
no_as (inl x) rest f = refl
no_as (inr x) rest f = refl

pub time_lawful : IsLawful time
unfolding time
time_lawful =
    after_fixed (word For) _ (a_word For) (after_fixed (word SystemTime) _ (a_word SystemTime)
    (one_of (is_word As) (word As ▹ word Of ▹ point) from_or_between (λ a rest f. refl) no_as
    (after_fixed (word As) _ (a_word As) (after_fixed (word Of) point (a_word Of) point_lawful))
    (one_of (is_word From) (word From ▹ point ▸ word To ▹ point) (word Between ▹ point ▸ word And ▹ point) (λ a rest f. refl) (λ b rest f. refl)
    (after_fixed (word From) _ (a_word From) (two_points To))
    (after_fixed (word Between) _ (a_word Between) (two_points And)))))

time_begins : Begins (is_word For) time true
unfolding time
time_begins a rest f = refl

-- ---- queries

semicolon_ends : (optional (is_word Where) condition).goes (Symbol Semicolon) ≡ false
unfolding condition terms term another_term predicate literal date span relation
semicolon_ends = refl

-- what follows the system time does not go on with it
end_divides : (b : Option (List TermForm)) (rest : List What) → stops (optional (is_word For) time).goes ((optional (is_word Where) condition ◃ sign Semicolon).spell b ++ rest) ≡ true
unfolding time condition point
end_divides None rest = refl
end_divides (Some c) rest = refl

pub query_lawful : IsLawful query
unfolding query
query_lawful =
    let end = optional (is_word Where) condition ◃ sign Semicolon in
    let asked = optional (is_word For) time in
    let end_lawful = before_fixed (optional (is_word Where) condition) (sign Semicolon) (a_sign Semicolon) semicolon_ends (left_out (is_word Where) condition condition_begins condition_lawful) in
    after_fixed (word Select) (sign Star ▹ word From ▹ one names ▸ asked ▸ end) (a_word Select)
    (after_fixed (sign Star) (word From ▹ one names ▸ asked ▸ end) (a_sign Star)
    (after_fixed (word From) (one names ▸ asked ▸ end) (a_word From)
    (name_then (asked ▸ end)
    (in_turn asked end (λ b rest f s t. end_divides b rest) (left_out (is_word For) time time_begins time_lawful) end_lawful))))
