-- A query asks the same in both words.
use Rattle.std.proofs.Common.{◌≡◌, ℕ, ◌-◌, ◌<◌, ◌≤◌, Bool, true, false, cond, not, Option, Some, None, List, [], ◌∷◌, map, length, refl, sym, ap, ◌∙◌, subst, arith, Result, Ok, Err, inl, inr}
use Rattle.std.specs.Prelude.{◌&&◌, nat_lt, nat_le, ok_or, find, bytes_eq, unwrap_or}
use Rattle.std.specs.List.{list_all, range_with_len}
use Rattle.std.specs.Option.{option_map_or}
use Rattle.std.proofs.lemmas.Bool.{ltb-true, ltb-false, lt-ltb, le-ltb}
use Rattle.fault.specs.declared.refusal.Refusal.{Refusal}
use Rattle.fault.specs.declared.refusal.Refusal.TheVariants.{Syntax, UnknownColumn, EmptyPeriod, OutOfRange, TooLarge}
use Rattle.model.specs.Tables.{Period, Row}
use Rattle.model.specs.Answers.{SystemTime, Select}
use Rattle.schema.specs.Name.{same_name}
use Rattle.schema.specs.Shape.{TableShape}
use Rattle.period.specs.Instant as instant
use Rattle.namesyntax.specs.Names.{Bytes}
use Rattle.namesyntax.specs.Parsing.{parsed, or_syntax}
use Rattle.sqltokens.specs.Syntax.{spelled_in, IsTold}
use Rattle.sqltokens.proofs.Texts.{decide}
use Rattle.sqlsyntax.specs.declared.forms.Relation.{Relation}
use Rattle.sqlsyntax.specs.Queries.{SpanForm, RelationForm, PredicateForm, TermForm, TimeForm, QueryForm}
use Rattle.sqlsyntax.specs.Queries as forms
use Rattle.sqlchecks.specs.Answering.{each_of}
use Rattle.sqlchecks.specs.Columns.{Tables}
use Rattle.sqlchecks.specs.Literals as literals
use Rattle.sqlchecks.specs.Comparisons as comparisons
use Rattle.sqlchecks.specs.declared.comparison.Comparison.{Comparison}
use Rattle.sqlread.specs.Changes.{if_given, all_given}
use Rattle.sqlread.specs.Questions as before
use Rattle.sqlread.specs.Shapes.{TermShape, QueryShape, Compares, ContainsDay, Contains, Relates}
use Rattle.sqlread.specs.Meaning.{term_passes, select_of, relates}
use Rattle.sqlread.specs.Texts.{query_in}
use Rattle.believed.specs.Days as days
use Rattle.believed.specs.Results.{◌>>=◌, ◌>>◌, refuse_if, each}
use Rattle.believed.specs.Checks as checks
use Rattle.believed.specs.Queries as now
use Rattle.believed.proofs.Binding.{mapped, same_or, bind, bind_same, refused, each_mapped}
use Rattle.believed.proofs.DaysSame.{instant_same}
use Rattle.believed.proofs.ChecksSame.{in_table_same, day_same, comparison_same}
use Rattle.believed.proofs.QueriesSame.{Any, spells_now, spells_before, wrong_now, wrong_before}

-- ---- system time

named_same : (text : Bytes) → now.instant_named text ≡ literals.instant_named text
unfolding literals.instant_named literals.named
named_same text = λ i. ok_or (find (λ t. bytes_eq (instant_same t i) text) (range_with_len 0 253_402_214_400_000_000)) OutOfRange

abbrev from_to : Bytes → Bytes → (ℕ → ℕ → Bool) → (ℕ → ℕ → SystemTime) → (Bytes → Result ℕ Refusal) → Result SystemTime Refusal
from_to a b test time named = named a >>= λ start. named b >>= λ end. refuse_if (not (test start end)) EmptyPeriod >> Ok (time start end)

both_same : (a b : Bytes) (test : ℕ → ℕ → Bool) (time : ℕ → ℕ → SystemTime) → from_to a b test time now.instant_named ≡ from_to a b test time literals.instant_named
both_same a b test time =
    bind_same (λ (t : SystemTime). t) (now.instant_named a) (literals.instant_named a) _ _ (named_same a)
    (λ start. bind_same (λ (t : SystemTime). t) (now.instant_named b) (literals.instant_named b) _ _ (named_same b)
    (λ end. sym (same_or (refuse_if (not (test start end)) EmptyPeriod >> Ok (time start end)))))
    ∙ same_or (from_to a b test time literals.instant_named)

time_same : (form : TimeForm) → now.time_in form ≡ before.time_in form
unfolding before.time_in
time_same (inl at) = ap (λ (r : Result ℕ Refusal). r >>= λ t. let x : Result SystemTime Refusal = Ok (record { first = t; last = t }) in x) (named_same at)
time_same (inr (inl (a, b))) = both_same a b nat_lt (λ start end. record { first = start; last = end - 1 })
time_same (inr (inr (a, b))) = both_same a b nat_le (λ start end. record { first = start; last = end })

times_same : (t : Option TimeForm) → now.times_in t ≡ if_given before.time_in t
times_same None = refl
times_same (Some form) = ap (λ (r : Result SystemTime Refusal). r >>= λ t. Ok (Some t)) (time_same form)

-- ---- WHERE

relation_same : (r : RelationForm) → now.relation_of r ≡ before.relation_of r
relation_same (inl u) = refl
relation_same (inr (inl u)) = refl
relation_same (inr (inr (inl u))) = refl
relation_same (inr (inr (inr (inl u)))) = refl
relation_same (inr (inr (inr (inr (inl u))))) = refl
relation_same (inr (inr (inr (inr (inr u))))) = refl

period_cases : {B C : Type 0} (h : C → B) (b : Bool) (p : Period) (f : Period → B) (g : Period → C) → f p ≡ h (g p) →
    (cond b (Ok p) (Err EmptyPeriod) >>= λ p. Ok (f p)) ≡ mapped h ((refuse_if (not b) EmptyPeriod >> Ok p) >>= λ p. Ok (g p))
period_cases h true p f g same = ap Ok same
period_cases h false p f g same = refl

abbrev tests : (Period → Row → Bool) → Result ℕ Refusal → Result ℕ Refusal → Result (Row → Bool) Refusal
tests f r s = r >>= λ start. s >>= λ end. checks.period_from start end >>= λ p. Ok (f p)

abbrev a_period : ℕ → ℕ → Period
a_period start end = record { start = start; end = end }

abbrev shapes : (Period → TermShape) → Result ℕ Refusal → Result ℕ Refusal → Result TermShape Refusal
shapes g r s = (r >>= λ start. s >>= λ end. refuse_if (not (nat_lt start end)) EmptyPeriod >> Ok (a_period start end)) >>= λ p. Ok (g p)

tests_plain : (f : Period → Row → Bool) (g : Period → TermShape) → ((p : Period) → f p ≡ term_passes (g p)) → (r s : Result ℕ Refusal) → tests f r s ≡ mapped term_passes (shapes g r s)
tests_plain f g same (Ok start) (Ok end) = period_cases term_passes (nat_lt start end) (a_period start end) f g (same (a_period start end))
tests_plain f g same (Ok start) (Err x) = refl
tests_plain f g same (Err x) s = refl

tests_by : (f : Period → Row → Bool) (g : Period → TermShape) → ((p : Period) → f p ≡ term_passes (g p)) → (r s r' s' : Result ℕ Refusal) → r' ≡ r → s' ≡ s → tests f r' s' ≡ mapped term_passes (shapes g r s)
tests_by f g same r s r' s' e d = ap (λ x. tests f x s') e ∙ ap (λ y. tests f r y) d ∙ tests_plain f g same r s

period_tests : (a b : Bytes) (f : Period → Row → Bool) (g : Period → TermShape) → ((p : Period) → f p ≡ term_passes (g p)) →
    tests f (checks.day_named a) (checks.day_named b) ≡ mapped term_passes (literals.period_named a b >>= λ p. Ok (g p))
unfolding literals.period_named
period_tests a b f g same = tests_by f g same (literals.day_named a) (literals.day_named b) (checks.day_named a) (checks.day_named b) (day_same a) (day_same b)

days_same : (table : TableShape) (name a b : Bytes) (f : Period → Row → Bool) (g : Period → TermShape) → ((p : Period) → f p ≡ term_passes (g p)) →
    now.days_in table name (a, b) f ≡ mapped term_passes (before.of_period table name >> (literals.period_named a b >>= λ p. Ok (g p)))
days_same table name a b f g same = refused term_passes (not (same_name name table.period)) (not (same_name name table.period)) UnknownColumn _ _ refl (period_tests a b f g same)

term_same : (table : TableShape) (t : TermForm) → now.term_in table t ≡ mapped term_passes (before.term_in table t)
unfolding before.term_in before.predicate_in term_passes
term_same table (name, inl (inl (a, b))) = days_same table name a b (λ p row. nat_le row.period.start p.start && nat_le p.end row.period.end) Contains (λ p. refl)
term_same table (name, inl (inr day)) = refused term_passes (not (same_name name table.period)) (not (same_name name table.period)) UnknownColumn _ _ refl
    (bind_same term_passes (checks.day_named day) (literals.day_named day) _ (λ d. Ok (ContainsDay d)) (day_same day) (λ d. refl))
term_same table (name, inr (inl c)) = bind_same term_passes (checks.comparison_in table (name, c)) (comparisons.comparison_in table (name, c)) _ (λ c. Ok (Compares c)) (comparison_same table (name, c)) (λ c. refl)
term_same table (name, inr (inr (r, (a, b)))) = ap (λ (x : Relation). now.days_in table name (a, b) (λ p row. relates x row.period p)) (relation_same r)
    ∙ days_same table name a b (λ p row. relates (before.relation_of r) row.period p) (Relates (before.relation_of r)) (λ p. refl)

terms_same : (table : TableShape) (ts : Option (List TermForm)) → each (now.term_in table) (unwrap_or ts []) ≡ mapped (map term_passes) (all_given (each_of (before.term_in table)) ts)
terms_same table None = refl
terms_same table (Some ts) = each_mapped term_passes (now.term_in table) (before.term_in table) (term_same table) ts

-- ---- queries

passes_all : (ts : List TermShape) (row : Row) → list_all (λ (test : Row → Bool). test row) (map term_passes ts) ≡ list_all (λ t. term_passes t row) ts
passes_all [] row = refl
passes_all (t ∷ ts) row = ap (λ b. term_passes t row && b) (passes_all ts row)

question_same : (tables : Tables) (q : QueryForm) → now.question_in tables q ≡ mapped select_of (before.question_in tables q)
unfolding before.question_in
question_same tables (name, (t, ts)) = in_table_same select_of tables name _ _ (λ place table.
    bind_same select_of (now.times_in t) (if_given before.time_in t) _ _ (times_same t)
    (λ time. bind select_of (map term_passes) (each (now.term_in table) (unwrap_or ts [])) (all_given (each_of (before.term_in table)) ts) _ _ (terms_same table ts)
    (λ terms. λ i. Ok (record { table = place; time = time; passes = λ row. passes_all terms row i }))))

-- ---- texts

abbrev asked : Tables → List ℕ → Result Select Refusal
asked tables text = mapped select_of (query_in tables text)

after_form : (tables : Tables) (r : Result QueryForm ℕ) (q : QueryForm) → r ≡ Ok q → mapped select_of (or_syntax r >>= before.question_in tables) ≡ now.question_in tables q
after_form tables r q e = ap (λ (s : Result QueryForm ℕ). mapped select_of (or_syntax s >>= before.question_in tables)) e ∙ sym (question_same tables q)

after_wrong : (tables : Tables) (r : Result QueryForm ℕ) (at : ℕ) → r ≡ Err at → mapped select_of (or_syntax r >>= before.question_in tables) ≡ Err (Syntax at)
after_wrong tables r at e = ap (λ (s : Result QueryForm ℕ). mapped select_of (or_syntax s >>= before.question_in tables)) e

long_is : (tables : Tables) (text : List ℕ) (b : Bool) → nat_lt 4096 (length text) ≡ b → asked tables text ≡ cond b (Err TooLarge) (mapped select_of (parsed forms.query text >>= before.question_in tables))
unfolding query_in
long_is tables text true e = ap (λ b. mapped select_of (cond b (Err TooLarge) (parsed forms.query text >>= before.question_in tables))) e
long_is tables text false e = ap (λ b. mapped select_of (cond b (Err TooLarge) (parsed forms.query text >>= before.question_in tables))) e

question_is : IsTold forms.query → (tables : Tables) (text : List ℕ) (r : Result Select Refusal) → now.IsQuestion tables text r → r ≡ asked tables text
question_is told tables text r (now.TooLong long is) = is ∙ sym (long_is tables text true (lt-ltb 4096 (length text) long))
question_is told tables text r (now.Spelled q short spells is) =
    is ∙ sym (long_is tables text false (le-ltb 4096 (length text) short) ∙ after_form tables (spelled_in forms.query text) q (((told text).0 q).0 (spells_before text q spells)))
question_is told tables text r (now.Wrong at short wrong is) =
    is ∙ sym (long_is tables text false (le-ltb 4096 (length text) short) ∙ after_wrong tables (spelled_in forms.query text) at (((told text).1 at).0 (wrong_before text at wrong)))

is_question : IsTold forms.query → (tables : Tables) (text : List ℕ) → now.IsQuestion tables text (asked tables text)
is_question told tables text = elim (decide (nat_lt 4096 (length text))) [
  | inl h ↦ now.TooLong (ltb-true 4096 (length text) h) (long_is tables text true h)
  | inr h ↦ by (ltb-false 4096 (length text) h) h (spelled_in forms.query text) refl
]
  where
    by : length text ≤ 4096 → nat_lt 4096 (length text) ≡ false → (r : Result QueryForm ℕ) → spelled_in forms.query text ≡ r → now.IsQuestion tables text (asked tables text)
    by short h (Ok q) e = now.Spelled q short (spells_now text q (((told text).0 q).1 e)) (long_is tables text false h ∙ after_form tables (spelled_in forms.query text) q e)
    by short h (Err at) e = now.Wrong at short (wrong_now text at (((told text).1 at).1 e)) (long_is tables text false h ∙ after_wrong tables (spelled_in forms.query text) at e)

pub asking : IsTold forms.query → (tables : Tables) → now.IsAsking tables (asked tables)
asking told tables text r = (λ h. sym (question_is told tables text r h), λ e. subst (λ (s : Result Select Refusal). now.IsQuestion tables text s) e (is_question told tables text))
