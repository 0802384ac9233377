-- The text of a query asks the same in these words as in those of `believed`.
use Rattle.std.proofs.Common.{◌≡◌, ℕ, suc, ◌+◌, ◌-◌, Bool, true, false, Option, Some, None, List, [], ◌∷◌, ◌++◌, map, refl, sym, ap, ◌∙◌, subst, arith, append_assoc, inl, inr, Result, Ok, Err}
use Rattle.std.specs.Prelude.{◌≢◌, codes, unwrap_or, option_map, not, nat_lt, nat_le, ◌&&◌}
use Rattle.std.specs.List.{AllByRecursion, flat_map, list_all}
use Rattle.std.proofs.Math.Dec.{leb-suc-suc}
use Rattle.std.proofs.lemmas.Bool.{lt-ltb}
use Rattle.fault.specs.declared.refusal.Refusal.{Refusal}
use Rattle.fault.specs.declared.refusal.Refusal.TheVariants.{UnknownColumn, EmptyPeriod}
use Rattle.model.specs.Tables.{Period as Days, Row}
use Rattle.model.specs.Answers.{SystemTime, Select}
use Rattle.schema.specs.Name.{same_name}
use Rattle.schema.specs.Shape.{TableShape}
use Rattle.sqltokens.specs.declared.token.Keyword.{Keyword}
use Rattle.sqltokens.specs.declared.token.Keyword.TheVariants as keyword
use Rattle.sqltokens.specs.declared.token.Keyword.TheVariants.{Date, Timestamp}
use Rattle.sqltokens.specs.declared.token.Sign.TheVariants.{Open, Close, Comma, Semicolon, Star}
use Rattle.sqltokens.specs.What.{What, Word, Symbol, Name, Digits, Text, Piece, is_word}
use Rattle.namesyntax.specs.Names.{Bytes}
use Rattle.sqlsyntax.specs.declared.forms.Relation.{Relation}
use Rattle.sqlsyntax.specs.declared.forms.Relation.TheVariants.{Overlaps, Equals, Precedes, Succeeds, ImmediatelyPrecedes, ImmediatelySucceeds}
use Rattle.sqlsyntax.specs.Queries.{RelationForm, PredicateForm, TermForm, TimeForm, QueryForm}
use Rattle.sqlchecks.specs.Columns.{Tables}
use Rattle.sqlread.specs.Meaning.{relates}
use Rattle.believed.specs.Results.{◌>>=◌, ◌>>◌, refuse_if, fold_ok}
use Rattle.believed.specs.Spelling.{IsWrongAt}
use Rattle.believed.specs.Checks.{in_table, day_named, period_from}
use Rattle.believed.specs.Meaning.{portion_in}
use Rattle.believed.specs.Queries as before
use Rattle.believedsql.specs.Questions.{Time, AsOf, FromTo, Between, Predicate, ContainsDays, ContainsDay, Compares, Relates, Query}
use Rattle.believedsql.specs.Questions as now

-- ---- forms of both

abbrev of_time : TimeForm → Time
of_time (inl at) = AsOf at
of_time (inr (inl (a, b))) = FromTo a b
of_time (inr (inr (a, b))) = Between a b

abbrev time_form : Time → TimeForm
time_form (AsOf at) = inl at
time_form (FromTo a b) = inr (inl (a, b))
time_form (Between a b) = inr (inr (a, b))

abbrev relation_form : Relation → RelationForm
relation_form Overlaps = inl tt
relation_form Equals = inr (inl tt)
relation_form Precedes = inr (inr (inl tt))
relation_form Succeeds = inr (inr (inr (inl tt)))
relation_form ImmediatelyPrecedes = inr (inr (inr (inr (inl tt))))
relation_form ImmediatelySucceeds = inr (inr (inr (inr (inr tt))))

abbrev of_predicate : PredicateForm → Predicate
of_predicate (inl (inl (a, b))) = ContainsDays a b
of_predicate (inl (inr d)) = ContainsDay d
of_predicate (inr (inl (o, l))) = Compares o l
of_predicate (inr (inr (r, (a, b)))) = Relates (before.relation_of r) a b

abbrev predicate_form : Predicate → PredicateForm
predicate_form (ContainsDays a b) = inl (inl (a, b))
predicate_form (ContainsDay d) = inl (inr d)
predicate_form (Compares o l) = inr (inl (o, l))
predicate_form (Relates r a b) = inr (inr (relation_form r, (a, b)))

abbrev of_term : TermForm → Bytes × Predicate
of_term t = (t.0, of_predicate t.1)

abbrev term_form : Bytes × Predicate → TermForm
term_form t = (t.0, predicate_form t.1)

abbrev if_some : List TermForm → Option (List TermForm)
if_some [] = None
if_some (t ∷ ts) = Some (t ∷ ts)

abbrev of_query : QueryForm → Query
of_query f = record { table = f.0; time = option_map of_time f.1.0; terms = map of_term (unwrap_or f.1.1 []) }

abbrev query_form : Query → QueryForm
query_form q = (q.table, (option_map time_form q.time, if_some (map term_form q.terms)))

time_again : (t : Option Time) → option_map of_time (option_map time_form t) ≡ t
time_again None = refl
time_again (Some (AsOf at)) = refl
time_again (Some (FromTo a b)) = refl
time_again (Some (Between a b)) = refl

relation_again : (r : Relation) → before.relation_of (relation_form r) ≡ r
relation_again Overlaps = refl
relation_again Equals = refl
relation_again Precedes = refl
relation_again Succeeds = refl
relation_again ImmediatelyPrecedes = refl
relation_again ImmediatelySucceeds = refl

predicate_again : (p : Predicate) → of_predicate (predicate_form p) ≡ p
predicate_again (ContainsDays a b) = refl
predicate_again (ContainsDay d) = refl
predicate_again (Compares o l) = refl
predicate_again (Relates r a b) = ap (λ r. Relates r a b) (relation_again r)

all_again : (ts : List (Bytes × Predicate)) → map of_term (map term_form ts) ≡ ts
all_again [] = refl
all_again (t ∷ ts) = λ i. (t.0, predicate_again t.1 i) ∷ all_again ts i

terms_again : (ts : List (Bytes × Predicate)) → map of_term (unwrap_or (if_some (map term_form ts)) []) ≡ ts
terms_again [] = refl
terms_again (t ∷ ts) = all_again (t ∷ ts)

query_again : (q : Query) → of_query (query_form q) ≡ q
query_again q = λ i. record { table = q.table; time = time_again q.time i; terms = terms_again q.terms i }

some_terms : (ts : List TermForm) → if_some ts ≢ Some []
some_terms [] e = cc
some_terms (t ∷ ts) e = cc

-- ---- tokens

relation_same : (r : RelationForm) → now.relation (before.relation_of r) ≡ before.relation r
relation_same (inl u) = refl
relation_same (inr (inl u)) = refl
relation_same (inr (inr (inl u))) = refl
relation_same (inr (inr (inr (inl u)))) = refl
relation_same (inr (inr (inr (inr (inl u))))) = refl
relation_same (inr (inr (inr (inr (inr u))))) = refl

predicate_same : (p : PredicateForm) → now.predicate (of_predicate p) ≡ before.predicate p
predicate_same (inl (inl (a, b))) = refl
predicate_same (inl (inr d)) = refl
predicate_same (inr (inl (o, l))) = refl
predicate_same (inr (inr (r, (a, b)))) = ap (λ (ts : List What). ts ++ now.dates a b) (relation_same r)

abbrev spelled : Bytes × Predicate → List What
spelled t = Name t.0 ∷ now.predicate t.1

term_same : (t : TermForm) → spelled (of_term t) ≡ before.term t
term_same (n, p) = ap (λ (ts : List What). Name n ∷ ts) (predicate_same p)

ands_same : (ts : List TermForm) → flat_map (λ t. Word keyword.And ∷ spelled t) (map of_term ts) ≡ flat_map (λ t. Word keyword.And ∷ before.term t) ts
ands_same [] = refl
ands_same (t ∷ ts) = λ i. (Word keyword.And ∷ term_same t i) ++ ands_same ts i

terms_same : (ts : Option (List TermForm)) → ts ≢ Some [] → now.terms (map of_term (unwrap_or ts [])) ≡ before.terms ts
terms_same None h = refl
terms_same (Some []) h = absurd (h refl)
terms_same (Some (t ∷ ts)) h = λ i. Word keyword.Where ∷ (term_same t i ++ ands_same ts i)

time_same : (t : Option TimeForm) → now.time (option_map of_time t) ≡ before.time t
time_same None = refl
time_same (Some (inl at)) = refl
time_same (Some (inr (inl (a, b)))) = refl
time_same (Some (inr (inr (a, b)))) = refl

query_same : (f : QueryForm) → f.1.1 ≢ Some [] → now.query (of_query f) ≡ before.query f
query_same (n, (t, ts)) h = λ i. Word keyword.Select ∷ Symbol Star ∷ Word keyword.From ∷ Name n ∷ (time_same t i ++ (terms_same ts h i ++ Symbol Semicolon ∷ []))

-- ---- texts behind a word

module _ (k : Keyword) (P : Bytes → Type 0) (own : is_word k (Word k) ≡ true) where
  abbrev Held : List What → Type 0
  Held tokens = (front back : List What) (text : Bytes) → tokens ≡ front ++ Word k ∷ Text text ∷ back → P text

  held_none : Held []
  held_none [] back text e = absurd cc
  held_none (x ∷ front) back text e = absurd cc

  held_token : (w : What) (ts : List What) → is_word k w ≡ false → Held ts → Held (w ∷ ts)
  held_token w ts plain h [] back text e = let is : w ≡ Word k = cc in let yes = ap (is_word k) is in absurd (let x : true ≡ false = sym own ∙ sym yes ∙ plain in cc)
  held_token w ts plain h (x ∷ front) back text e = h front back text cc

  held_text : (d : Bytes) (ts : List What) → P d → Held ts → Held (Word k ∷ Text d ∷ ts)
  held_text d ts p h [] back text e = let is : d ≡ text = cc in subst P is p
  held_text d ts p h (x ∷ front) back text e = held_token (Text d) ts refl h front back text cc

  held_back : (xs ys : List What) → Held (xs ++ ys) → Held ys
  held_back xs ys h front back text e = h (xs ++ front) back text (ap (λ (l : List What). xs ++ l) e ∙ sym (append_assoc xs front (Word k ∷ Text text ∷ back)))

  -- terms that pass one by one
  module _ (Q : TermForm → Type 0) (pass : (t : TermForm) → Q t → (rest : List What) → Held rest → Held (now.predicate (of_predicate t.1) ++ rest)) where
    term_held : (t : TermForm) → Q t → (rest : List What) → Held rest → Held (spelled (of_term t) ++ rest)
    term_held t q rest h = held_token (Name t.0) (now.predicate (of_predicate t.1) ++ rest) refl (pass t q rest h)

    ands_held : is_word k (Word keyword.And) ≡ false → (ts : List TermForm) → AllByRecursion Q ts → (rest : List What) → Held rest → Held (flat_map (λ t. Word keyword.And ∷ spelled t) (map of_term ts) ++ rest)
    ands_held plain [] q rest h = h
    ands_held plain (t ∷ ts) q rest h =
        let more = flat_map (λ t. Word keyword.And ∷ spelled t) (map of_term ts) in
        subst Held (sym (append_assoc (Word keyword.And ∷ spelled (of_term t)) more rest))
        (held_token (Word keyword.And) (spelled (of_term t) ++ (more ++ rest)) plain (term_held t q.0 (more ++ rest) (ands_held plain ts q.1 rest h)))

    terms_held : is_word k (Word keyword.And) ≡ false → is_word k (Word keyword.Where) ≡ false → (ts : List TermForm) → AllByRecursion Q ts → (rest : List What) → Held rest → Held (now.terms (map of_term ts) ++ rest)
    terms_held plain first [] q rest h = h
    terms_held plain first (t ∷ ts) q rest h =
        let more = flat_map (λ t. Word keyword.And ∷ spelled t) (map of_term ts) in
        subst Held (sym (append_assoc (Word keyword.Where ∷ spelled (of_term t)) more rest))
        (held_token (Word keyword.Where) (spelled (of_term t) ++ (more ++ rest)) first (term_held t q.0 (more ++ rest) (ands_held plain ts q.1 rest h)))

-- ---- dates

abbrev IsDate : Bytes → Type 0
IsDate text = before.IsShaped (codes "dddd-dd-dd") text

abbrev HasDates : List What → Type 0
HasDates ts = Held Date IsDate refl ts

after_word : (w : What) (ts : List What) → is_word Date w ≡ false → HasDates ts → HasDates (w ∷ ts)
after_word = held_token Date IsDate refl

after_date : (d : Bytes) (ts : List What) → IsDate d → HasDates ts → HasDates (Word Date ∷ Text d ∷ ts)
after_date = held_text Date IsDate refl

dates_held : (a b : Bytes) (rest : List What) → IsDate a → IsDate b → HasDates rest → HasDates (now.dates a b ++ rest)
dates_held a b rest x y h =
    after_word (Word keyword.Period) _ refl (after_word (Symbol Open) _ refl (after_date a (Symbol Comma ∷ Word Date ∷ Text b ∷ Symbol Close ∷ rest) x
    (after_word (Symbol Comma) _ refl (after_date b (Symbol Close ∷ rest) y (after_word (Symbol Close) rest refl h)))))

dated_held : (t : TermForm) → before.IsDated t.1 → (rest : List What) → HasDates rest → HasDates (now.predicate (of_predicate t.1) ++ rest)
dated_held (n, inl (inl (a, b))) x rest h = after_word (Word keyword.Contains) (now.dates a b ++ rest) refl (dates_held a b rest x.0 x.1 h)
dated_held (n, inl (inr d)) x rest h = after_word (Word keyword.Contains) (Word Date ∷ Text d ∷ rest) refl (after_date d rest x h)
dated_held (n, inr (inl (o, inl d))) x rest h = after_word (Symbol _) (Word Date ∷ Text d ∷ rest) refl (after_date d rest x h)
dated_held (n, inr (inl (o, inr (inl t)))) x rest h = after_word (Symbol _) (Text t ∷ rest) refl (after_word (Text t) rest refl h)
dated_held (n, inr (inl (o, inr (inr (None, d))))) x rest h = after_word (Symbol _) (Digits d ∷ rest) refl (after_word (Digits d) rest refl h)
dated_held (n, inr (inl (o, inr (inr (Some u, d))))) x rest h = after_word (Symbol _) _ refl (after_word (Symbol _) (Digits d ∷ rest) refl (after_word (Digits d) rest refl h))
dated_held (n, inr (inr (inl u, (a, b)))) x rest h = after_word _ (now.dates a b ++ rest) refl (dates_held a b rest x.0 x.1 h)
dated_held (n, inr (inr (inr (inl u), (a, b)))) x rest h = after_word _ (now.dates a b ++ rest) refl (dates_held a b rest x.0 x.1 h)
dated_held (n, inr (inr (inr (inr (inl u)), (a, b)))) x rest h = after_word _ (now.dates a b ++ rest) refl (dates_held a b rest x.0 x.1 h)
dated_held (n, inr (inr (inr (inr (inr (inl u))), (a, b)))) x rest h = after_word _ (now.dates a b ++ rest) refl (dates_held a b rest x.0 x.1 h)
dated_held (n, inr (inr (inr (inr (inr (inr (inl u)))), (a, b)))) x rest h = after_word (Word keyword.Immediately) _ refl (after_word _ (now.dates a b ++ rest) refl (dates_held a b rest x.0 x.1 h))
dated_held (n, inr (inr (inr (inr (inr (inr (inr u)))), (a, b)))) x rest h = after_word (Word keyword.Immediately) _ refl (after_word _ (now.dates a b ++ rest) refl (dates_held a b rest x.0 x.1 h))

-- system time has none
undated : (t : Option TimeForm) (rest : List What) → HasDates rest → HasDates (now.time (option_map of_time t) ++ rest)
undated None rest h = h
undated (Some (inl at)) rest h = after_word _ _ refl (after_word _ _ refl (after_word _ _ refl (after_word _ _ refl (after_word _ _ refl (after_word (Text at) rest refl h)))))
undated (Some (inr (inl (a, b)))) rest h =
    after_word _ _ refl (after_word _ _ refl (after_word _ _ refl (after_word _ _ refl (after_word (Text a) _ refl (after_word _ _ refl (after_word _ _ refl (after_word (Text b) rest refl h)))))))
undated (Some (inr (inr (a, b)))) rest h =
    after_word _ _ refl (after_word _ _ refl (after_word _ _ refl (after_word _ _ refl (after_word (Text a) _ refl (after_word _ _ refl (after_word _ _ refl (after_word (Text b) rest refl h)))))))

abbrev AllDated : List TermForm → Type 0
AllDated ts = AllByRecursion (λ t. before.IsDated t.1) ts

dates_now : (f : QueryForm) → AllDated (unwrap_or f.1.1 []) → HasDates (now.query (of_query f))
dates_now (n, (t, ts)) x = after_word _ _ refl (after_word _ _ refl (after_word _ _ refl (after_word (Name n) _ refl (undated t _
    (terms_held Date IsDate refl (λ t. before.IsDated t.1) dated_held refl refl (unwrap_or ts []) x (Symbol Semicolon ∷ []) (after_word (Symbol Semicolon) [] refl (held_none Date IsDate refl)))))))

both_dates : (a b : Bytes) (rest : List What) → HasDates (now.dates a b ++ rest) → IsDate a × IsDate b
both_dates a b rest h = (
  h (Word keyword.Period ∷ Symbol Open ∷ []) (Symbol Comma ∷ Word Date ∷ Text b ∷ Symbol Close ∷ rest) a refl,
  h (Word keyword.Period ∷ Symbol Open ∷ Word Date ∷ Text a ∷ Symbol Comma ∷ []) (Symbol Close ∷ rest) b refl,
)

dated_before : (p : PredicateForm) (rest : List What) → HasDates (now.predicate (of_predicate p) ++ rest) → before.IsDated p
dated_before (inl (inl (a, b))) rest h = both_dates a b rest (held_back Date IsDate refl (Word keyword.Contains ∷ []) (now.dates a b ++ rest) h)
dated_before (inl (inr d)) rest h = h (Word keyword.Contains ∷ []) rest d refl
dated_before (inr (inl (o, inl d))) rest h = h (Symbol _ ∷ []) rest d refl
dated_before (inr (inl (o, inr l))) rest h = tt
dated_before (inr (inr (r, (a, b)))) rest h =
    both_dates a b rest (held_back Date IsDate refl (now.relation (before.relation_of r)) (now.dates a b ++ rest) (subst HasDates (append_assoc (now.relation (before.relation_of r)) (now.dates a b) rest) h))

ands_before : (ts : List TermForm) (rest : List What) → HasDates (flat_map (λ t. Word keyword.And ∷ spelled t) (map of_term ts) ++ rest) → AllDated ts
ands_before [] rest h = tt
ands_before (t ∷ ts) rest h =
    let more = flat_map (λ t. Word keyword.And ∷ spelled t) (map of_term ts) in
    let all : HasDates (Word keyword.And ∷ Name t.0 ∷ (now.predicate (of_predicate t.1) ++ (more ++ rest))) = subst HasDates (append_assoc (Word keyword.And ∷ spelled (of_term t)) more rest) h in
    let own = held_back Date IsDate refl (Word keyword.And ∷ Name t.0 ∷ []) (now.predicate (of_predicate t.1) ++ (more ++ rest)) all in
    (dated_before t.1 (more ++ rest) own, ands_before ts rest (held_back Date IsDate refl (now.predicate (of_predicate t.1)) (more ++ rest) own))

terms_before : (ts : List TermForm) (rest : List What) → HasDates (now.terms (map of_term ts) ++ rest) → AllDated ts
terms_before [] rest h = tt
terms_before (t ∷ ts) rest h =
    let more = flat_map (λ t. Word keyword.And ∷ spelled t) (map of_term ts) in
    let all : HasDates (Word keyword.Where ∷ Name t.0 ∷ (now.predicate (of_predicate t.1) ++ (more ++ rest))) = subst HasDates (append_assoc (Word keyword.Where ∷ spelled (of_term t)) more rest) h in
    let own = held_back Date IsDate refl (Word keyword.Where ∷ Name t.0 ∷ []) (now.predicate (of_predicate t.1) ++ (more ++ rest)) all in
    (dated_before t.1 (more ++ rest) own, ands_before ts rest (held_back Date IsDate refl (now.predicate (of_predicate t.1)) (more ++ rest) own))

dates_before : (f : QueryForm) → HasDates (now.query (of_query f)) → AllDated (unwrap_or f.1.1 [])
dates_before (n, (t, ts)) h =
    let behind = held_back Date IsDate refl (Word keyword.Select ∷ Symbol Star ∷ Word keyword.From ∷ Name n ∷ []) (now.time (option_map of_time t) ++ (now.terms (map of_term (unwrap_or ts [])) ++ Symbol Semicolon ∷ [])) h in
    terms_before (unwrap_or ts []) (Symbol Semicolon ∷ []) (held_back Date IsDate refl (now.time (option_map of_time t)) (now.terms (map of_term (unwrap_or ts [])) ++ Symbol Semicolon ∷ []) behind)

-- ---- instants

abbrev IsInstant : Bytes → Type 0
IsInstant text = before.IsShaped (codes "dddd-dd-dd dd:dd:dd.dddddd") text

abbrev HasInstants : List What → Type 0
HasInstants ts = Held Timestamp IsInstant refl ts

behind_word : (w : What) (ts : List What) → is_word Timestamp w ≡ false → HasInstants ts → HasInstants (w ∷ ts)
behind_word = held_token Timestamp IsInstant refl

behind_instant : (d : Bytes) (ts : List What) → IsInstant d → HasInstants ts → HasInstants (Word Timestamp ∷ Text d ∷ ts)
behind_instant = held_text Timestamp IsInstant refl

no_instants : (a b : Bytes) (rest : List What) → HasInstants rest → HasInstants (now.dates a b ++ rest)
no_instants a b rest h = behind_word _ _ refl (behind_word _ _ refl (behind_word _ _ refl (behind_word (Text a) _ refl (behind_word _ _ refl (behind_word _ _ refl (behind_word (Text b) _ refl (behind_word (Symbol Close) rest refl h)))))))

untimed : (t : TermForm) → Unit {0} → (rest : List What) → HasInstants rest → HasInstants (now.predicate (of_predicate t.1) ++ rest)
untimed (n, inl (inl (a, b))) x rest h = behind_word _ _ refl (no_instants a b rest h)
untimed (n, inl (inr d)) x rest h = behind_word _ _ refl (behind_word _ _ refl (behind_word (Text d) rest refl h))
untimed (n, inr (inl (o, inl d))) x rest h = behind_word (Symbol _) _ refl (behind_word _ _ refl (behind_word (Text d) rest refl h))
untimed (n, inr (inl (o, inr (inl t)))) x rest h = behind_word (Symbol _) _ refl (behind_word (Text t) rest refl h)
untimed (n, inr (inl (o, inr (inr (None, d))))) x rest h = behind_word (Symbol _) _ refl (behind_word (Digits d) rest refl h)
untimed (n, inr (inl (o, inr (inr (Some u, d))))) x rest h = behind_word (Symbol _) _ refl (behind_word (Symbol _) _ refl (behind_word (Digits d) rest refl h))
untimed (n, inr (inr (inl u, (a, b)))) x rest h = behind_word _ _ refl (no_instants a b rest h)
untimed (n, inr (inr (inr (inl u), (a, b)))) x rest h = behind_word _ _ refl (no_instants a b rest h)
untimed (n, inr (inr (inr (inr (inl u)), (a, b)))) x rest h = behind_word _ _ refl (no_instants a b rest h)
untimed (n, inr (inr (inr (inr (inr (inl u))), (a, b)))) x rest h = behind_word _ _ refl (no_instants a b rest h)
untimed (n, inr (inr (inr (inr (inr (inr (inl u)))), (a, b)))) x rest h = behind_word _ _ refl (behind_word _ _ refl (no_instants a b rest h))
untimed (n, inr (inr (inr (inr (inr (inr (inr u)))), (a, b)))) x rest h = behind_word _ _ refl (behind_word _ _ refl (no_instants a b rest h))

any_terms : (ts : List TermForm) → AllByRecursion (λ t. Unit {0}) ts
any_terms [] = tt
any_terms (t ∷ ts) = (tt, any_terms ts)

timed_held : (t : Option TimeForm) → before.IsTimed t → (rest : List What) → HasInstants rest → HasInstants (now.time (option_map of_time t) ++ rest)
timed_held None x rest h = h
timed_held (Some (inl at)) x rest h = behind_word _ _ refl (behind_word _ _ refl (behind_word _ _ refl (behind_word _ _ refl (behind_instant at rest x h))))
timed_held (Some (inr (inl (a, b)))) x rest h = behind_word _ _ refl (behind_word _ _ refl (behind_word _ _ refl (behind_instant a _ x.0 (behind_word _ _ refl (behind_instant b rest x.1 h)))))
timed_held (Some (inr (inr (a, b)))) x rest h = behind_word _ _ refl (behind_word _ _ refl (behind_word _ _ refl (behind_instant a _ x.0 (behind_word _ _ refl (behind_instant b rest x.1 h)))))

instants_now : (f : QueryForm) → before.IsTimed f.1.0 → HasInstants (now.query (of_query f))
instants_now (n, (t, ts)) x = behind_word _ _ refl (behind_word _ _ refl (behind_word _ _ refl (behind_word (Name n) _ refl (timed_held t x _
    (terms_held Timestamp IsInstant refl (λ t. Unit {0}) untimed refl refl (unwrap_or ts []) (any_terms (unwrap_or ts [])) (Symbol Semicolon ∷ []) (behind_word (Symbol Semicolon) [] refl (held_none Timestamp IsInstant refl)))))))

timed_before : (t : Option TimeForm) (rest : List What) → HasInstants (now.time (option_map of_time t) ++ rest) → before.IsTimed t
timed_before None rest h = tt
timed_before (Some (inl at)) rest h = h (Word keyword.For ∷ Word keyword.SystemTime ∷ Word keyword.As ∷ Word keyword.Of ∷ []) rest at refl
timed_before (Some (inr (inl (a, b)))) rest h = (
  h (Word keyword.For ∷ Word keyword.SystemTime ∷ Word keyword.From ∷ []) (Word keyword.To ∷ Word Timestamp ∷ Text b ∷ rest) a refl,
  h (Word keyword.For ∷ Word keyword.SystemTime ∷ Word keyword.From ∷ Word Timestamp ∷ Text a ∷ Word keyword.To ∷ []) rest b refl,
)
timed_before (Some (inr (inr (a, b)))) rest h = (
  h (Word keyword.For ∷ Word keyword.SystemTime ∷ Word keyword.Between ∷ []) (Word keyword.And ∷ Word Timestamp ∷ Text b ∷ rest) a refl,
  h (Word keyword.For ∷ Word keyword.SystemTime ∷ Word keyword.Between ∷ Word Timestamp ∷ Text a ∷ Word keyword.And ∷ []) rest b refl,
)

instants_before : (f : QueryForm) → HasInstants (now.query (of_query f)) → before.IsTimed f.1.0
instants_before (n, (t, ts)) h = timed_before t (now.terms (map of_term (unwrap_or ts [])) ++ Symbol Semicolon ∷ [])
    (held_back Timestamp IsInstant refl (Word keyword.Select ∷ Symbol Star ∷ Word keyword.From ∷ Name n ∷ []) (now.time (option_map of_time t) ++ (now.terms (map of_term (unwrap_or ts [])) ++ Symbol Semicolon ∷ [])) h)

-- ---- queries

query_now : (f : QueryForm) (tokens : List Piece) → before.IsQuery f tokens → now.IsQuery (of_query f) tokens
query_now f tokens x = (x.are ∙ sym (query_same f x.some), dates_now f x.dated, instants_now f x.timed)

query_before : (f : QueryForm) (tokens : List Piece) → f.1.1 ≢ Some [] → now.IsQuery (of_query f) tokens → before.IsQuery f tokens
query_before f tokens some (are, dated, timed) = record { are = are ∙ query_same f some; some = some; timed = instants_before f timed; dated = dates_before f dated }

query_back : (q : Query) (tokens : List Piece) → now.IsQuery q tokens → before.IsQuery (query_form q) tokens
query_back q tokens x = query_before (query_form q) tokens (some_terms (map term_form q.terms)) (subst (λ (p : Query). now.IsQuery p tokens) (sym (query_again q)) x)

-- ---- system time

abbrev between : ℕ → Result ℕ Refusal → Result ℕ Refusal → Result (Option SystemTime) Refusal
between more r s = r >>= λ start. s >>= λ end. refuse_if (not (nat_lt start (end + more))) EmptyPeriod >> Ok (Some (record { first = start; last = end + more - 1 }))

abbrev times : (ℕ → ℕ → Bool) → (ℕ → ℕ) → Result ℕ Refusal → Result ℕ Refusal → Result (Option SystemTime) Refusal
times test last r s = (r >>= λ start. s >>= λ end. refuse_if (not (test start end)) EmptyPeriod >> (let x : Result SystemTime Refusal = Ok (record { first = start; last = last end }) in x)) >>= λ t. Ok (Some t)

checked_so : (b : Bool) (t : SystemTime) → (refuse_if (not b) EmptyPeriod >> (let x : Result (Option SystemTime) Refusal = Ok (Some t) in x)) ≡ ((refuse_if (not b) EmptyPeriod >> (let x : Result SystemTime Refusal = Ok t in x)) >>= λ t. Ok (Some t))
checked_so true t = refl
checked_so false t = refl

between_same : (more : ℕ) (test : ℕ → ℕ → Bool) (last : ℕ → ℕ) → ((start end : ℕ) → nat_lt start (end + more) ≡ test start end) → ((end : ℕ) → end + more - 1 ≡ last end) →
    (r s : Result ℕ Refusal) → between more r s ≡ times test last r s
between_same more test last tests lasts (Ok start) (Ok end) =
    (λ i. refuse_if (not (tests start end i)) EmptyPeriod >> Ok (Some (record { first = start; last = lasts end i })))
    ∙ checked_so (test start end) (record { first = start; last = last end })
between_same more test last tests lasts (Ok start) (Err e) = refl
between_same more test last tests lasts (Err e) s = refl

one_more : (start end : ℕ) → nat_lt start (end + 1) ≡ nat_le start end
one_more start end = let e : end + 1 ≡ suc end = omega arith in ap (λ n. nat_lt start n) e ∙ leb-suc-suc start end

no_more : (start end : ℕ) → nat_lt start (end + 0) ≡ nat_lt start end
no_more start end = let e : end + 0 ≡ end = omega arith in ap (λ n. nat_lt start n) e

own_more : (t : ℕ) → nat_lt t (t + 1) ≡ true
own_more t = lt-ltb t (t + 1) (omega arith)

at_one : (r : Result ℕ Refusal) → between 1 r r ≡ ((r >>= λ t. let x : Result SystemTime Refusal = Ok (record { first = t; last = t }) in x) >>= λ t. Ok (Some t))
at_one (Ok t) = let e : t + 1 - 1 ≡ t = omega arith in λ i. refuse_if (not (own_more t i)) EmptyPeriod >> Ok (Some (record { first = t; last = e i }))
at_one (Err e) = refl

times_same : (t : Option TimeForm) → now.time_in (option_map of_time t) ≡ before.times_in t
times_same None = refl
times_same (Some (inl at)) = at_one (before.instant_named at)
times_same (Some (inr (inl (a, b)))) = between_same 0 nat_lt (λ end. end - 1) no_more (λ end. omega arith) (before.instant_named a) (before.instant_named b)
times_same (Some (inr (inr (a, b)))) = between_same 1 nat_le (λ end. end) one_more (λ end. omega arith) (before.instant_named a) (before.instant_named b)

-- ---- WHERE

days_same : (table : TableShape) (name a b : Bytes) (f : Days → Row → Bool) →
    (portion_in table (Some (name, (a, b))) >>= λ p. Ok (f p)) ≡ before.days_in table name (a, b) f
days_same table name a b f = by (not (same_name name table.period)) (day_named a) (day_named b) where
  by : (c : Bool) (r s : Result ℕ Refusal) →
      ((refuse_if c UnknownColumn >> (r >>= λ start. s >>= λ end. period_from start end)) >>= λ p. let x : Result (Row → Bool) Refusal = Ok (f p) in x)
      ≡ (refuse_if c UnknownColumn >> (r >>= λ start. s >>= λ end. period_from start end >>= λ p. Ok (f p)))
  by true r s = refl
  by false (Ok start) (Ok end) = refl
  by false (Ok start) (Err e) = refl
  by false (Err e) s = refl

day_same : (c : Bool) (r : Result ℕ Refusal) (f : ℕ → Row → Bool) → ((refuse_if c UnknownColumn >> r) >>= λ d. let x : Result (Row → Bool) Refusal = Ok (f d) in x) ≡ (refuse_if c UnknownColumn >> (r >>= λ d. Ok (f d)))
day_same true r f = refl
day_same false r f = refl

test_same : (table : TableShape) (t : TermForm) → now.term_in table (of_term t) ≡ before.term_in table t
test_same table (name, inl (inl (a, b))) = days_same table name a b (λ p row. nat_le row.period.start p.start && nat_le p.end row.period.end)
test_same table (name, inl (inr day)) = day_same (not (same_name name table.period)) (day_named day) _
test_same table (name, inr (inl (o, l))) = refl
test_same table (name, inr (inr (r, (a, b)))) = days_same table name a b (λ p row. relates (before.relation_of r) row.period p)

module _ {A B C : Type 0} (g : A → B) (f : B → Result C Refusal) (h : A → Result C Refusal) (same : (a : A) → f (g a) ≡ h a) where
  each_from : (xs : List A) (done : List C) → fold_ok (λ done x. f x >>= λ y. Ok (done ++ y ∷ [])) done (map g xs) ≡ fold_ok (λ done x. h x >>= λ y. Ok (done ++ y ∷ [])) done xs
  each_from [] done = refl
  each_from (x ∷ xs) done = ap (λ r. (r >>= λ y. Ok (done ++ y ∷ [])) >>= λ next. fold_ok (λ done x. f x >>= λ y. Ok (done ++ y ∷ [])) next (map g xs)) (same x) ∙ by (h x) (λ next. each_from xs next) where
    by : (r : Result C Refusal) → ((next : List C) → fold_ok (λ done x. f x >>= λ y. Ok (done ++ y ∷ [])) next (map g xs) ≡ fold_ok (λ done x. h x >>= λ y. Ok (done ++ y ∷ [])) next xs) →
        ((r >>= λ y. Ok (done ++ y ∷ [])) >>= λ next. fold_ok (λ done x. f x >>= λ y. Ok (done ++ y ∷ [])) next (map g xs)) ≡ ((r >>= λ y. Ok (done ++ y ∷ [])) >>= λ next. fold_ok (λ done x. h x >>= λ y. Ok (done ++ y ∷ [])) next xs)
    by (Ok y) more = more (done ++ y ∷ [])
    by (Err e) more = refl

question_same : (tables : Tables) (f : QueryForm) → now.question_in tables (of_query f) ≡ before.question_in tables f
question_same tables (name, (t, ts)) = λ i. in_table tables name (λ place table. times_same t i >>= λ time. each_from of_term (now.term_in table) (before.term_in table) (test_same table) (unwrap_or ts []) [] i >>= λ passes.
    Ok (record { table = place; time = time; passes = λ row. list_all (λ test. test row) passes }))

-- ---- texts

wrong_as : (A B : List Piece → Type 0) → ((ts : List Piece) → A ts → B ts) → ((ts : List Piece) → B ts → A ts) → (text : List ℕ) (at : ℕ) → IsWrongAt A text at → IsWrongAt B text at
wrong_as A B to from text at w = record {
  spells_nothing = λ s. w.spells_nothing (s.0, s.1, from s.0 s.2);
  tokens = w.tokens;
  are_tokens = w.are_tokens;
  count = w.count;
  at_is = w.at_is;
  goes_on = (w.goes_on.0, to _ w.goes_on.1);
  ends = λ lt g. w.ends lt (g.0, from _ g.1);
}

abbrev AnyBefore : List Piece → Type 0
AnyBefore tokens = (f : QueryForm) × before.IsQuery f tokens

abbrev AnyNow : List Piece → Type 0
AnyNow tokens = (q : Query) × now.IsQuery q tokens

any_now : (tokens : List Piece) → AnyBefore tokens → AnyNow tokens
any_now tokens (f, x) = (of_query f, query_now f tokens x)

any_before : (tokens : List Piece) → AnyNow tokens → AnyBefore tokens
any_before tokens (q, x) = (query_form q, query_back q tokens x)

pub question_now : (tables : Tables) (text : List ℕ) (r : Result Select Refusal) → before.IsQuestion tables text r → now.IsQuestion tables text r
question_now tables text r (before.TooLong long is) = now.TooLong long is
question_now tables text r (before.Spelled f short (tokens, are, x) is) = now.Spelled (of_query f) short (tokens, are, query_now f tokens x) (is ∙ sym (question_same tables f))
question_now tables text r (before.Wrong at short wrong is) = now.Wrong at short (wrong_as AnyBefore AnyNow any_now any_before text at wrong) is

pub question_before : (tables : Tables) (text : List ℕ) (r : Result Select Refusal) → now.IsQuestion tables text r → before.IsQuestion tables text r
question_before tables text r (now.TooLong long is) = before.TooLong long is
question_before tables text r (now.Spelled q short (tokens, are, x) is) =
    before.Spelled (query_form q) short (tokens, are, query_back q tokens x) (is ∙ ap (now.question_in tables) (sym (query_again q)) ∙ question_same tables (query_form q))
question_before tables text r (now.Wrong at short wrong is) = before.Wrong at short (wrong_as AnyNow AnyBefore any_before any_now text at wrong) is
