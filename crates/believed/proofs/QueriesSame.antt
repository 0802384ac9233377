-- A text spells the same query by the grammar that is read and in these words, and goes wrong at the same place.
use Rattle.std.proofs.Common.{◌≡◌, ℕ, zero, suc, ◌+◌, ◌<◌, ◌≤◌, Bool, true, false, cond, Option, Some, None, List, [], ◌∷◌, ◌++◌, length, take, map, refl, sym, ap, ◌∙◌, subst, arith, inl, inr}
use Rattle.std.specs.Prelude.{◌≢◌, ◌==◌, codes, slice_get, unwrap_or, option_map, if◌then◌else◌}
use Rattle.std.specs.Char.{is_ascii_digit}
use Rattle.std.specs.Cmp.Lexicographic.{pointwise}
use Rattle.std.specs.List.{AllByRecursion, flat_map, join_by, take-map}
use Rattle.std.specs.Option.{option_map_or}
use Rattle.std.proofs.Math.Dec.{ltb}
use Rattle.std.proofs.lemmas.Bool.{ltb-true, ltb-false}
use Rattle.std.proofs.lemmas.List.{map-append, take_all}
use Rattle.sqltokens.specs.declared.token.Keyword.TheVariants as keyword
use Rattle.sqltokens.specs.declared.token.Sign.TheVariants.{Open, Close, Comma, Semicolon, Star}
use Rattle.sqltokens.specs.What.{What, Word, Symbol, Name, Digits, Text, Stray, Piece}
use Rattle.sqltokens.specs.Classes.{digits, texts, dates, points, has_shape}
use Rattle.sqltokens.specs.Lexing.{IsTokens}
use Rattle.sqltokens.specs.Syntax.{said, place}
use Rattle.sqltokens.specs.Syntax as grammar
use Rattle.sqltokens.proofs.Texts.{decide}
use Rattle.sqltokens.proofs.Cuts.{tokens_same}
use Rattle.phrase.specs.Grammar.{spell_all, spell_some, FitsSome}
use Rattle.namesyntax.specs.Words.{is_name_text}
use Rattle.namesyntax.specs.Names.{Bytes, names}
use Rattle.sqlsyntax.specs.Shared.{LiteralForm, operator_sign, operators}
use Rattle.sqlsyntax.specs.Shared as shared
use Rattle.sqlsyntax.specs.Queries.{SpanForm, RelationForm, PredicateForm, TermForm, TimeForm, QueryForm}
use Rattle.sqlsyntax.specs.Queries as before
use Rattle.sqlsyntax.specs.Spelling.{literal}
use Rattle.sqlsyntax.proofs.Dated.{IsNamed, tokens_named}
use Rattle.sqlsyntax.proofs.Renamed.{renamed, as_named}
use Rattle.believed.specs.Spelling as words
use Rattle.believed.specs.Queries as now
use Rattle.believed.proofs.LexingSame.{tokens_now, tokens_before, shape_same}

-- ---- tokens

literal_same : (l : LiteralForm) → shared.literal.spell l ≡ literal l
unfolding shared.literal shared.date dates texts digits
literal_same (inl d) = refl
literal_same (inr (inl t)) = refl
literal_same (inr (inr (None, d))) = refl
literal_same (inr (inr (Some u, d))) = refl

predicate_same : (p : PredicateForm) → before.predicate.spell p ≡ now.predicate p
unfolding before.predicate before.span before.relation shared.date dates operators
predicate_same (inl (inl (a, b))) = refl
predicate_same (inl (inr d)) = refl
predicate_same (inr (inl (o, l))) = ap (λ (ts : List What). Symbol (operator_sign o) ∷ ts) (literal_same l)
predicate_same (inr (inr (inl u, (a, b)))) = refl
predicate_same (inr (inr (inr (inl u), (a, b)))) = refl
predicate_same (inr (inr (inr (inr (inl u)), (a, b)))) = refl
predicate_same (inr (inr (inr (inr (inr (inl u))), (a, b)))) = refl
predicate_same (inr (inr (inr (inr (inr (inr (inl u)))), (a, b)))) = refl
predicate_same (inr (inr (inr (inr (inr (inr (inr u)))), (a, b)))) = refl

term_same : (t : TermForm) → before.term.spell t ≡ now.term t
unfolding before.term names
term_same (n, p) = ap (λ (ts : List What). Name n ∷ ts) (predicate_same p)

ands_same : (ts : List TermForm) → spell_all before.another_term.spell ts ≡ flat_map (λ t. Word keyword.And ∷ now.term t) ts
unfolding before.another_term
ands_same [] = refl
ands_same (t ∷ ts) = ap (λ (l : List What). Word keyword.And ∷ (l ++ spell_all before.another_term.spell ts)) (term_same t)
    ∙ ap (λ (l : List What). Word keyword.And ∷ (now.term t ++ l)) (ands_same ts)

terms_same : (ts : Option (List TermForm)) → ts ≢ Some [] → spell_some before.condition ts ≡ now.terms ts
unfolding before.condition before.terms
terms_same None h = refl
terms_same (Some []) h = absurd (h refl)
terms_same (Some (t ∷ ts)) h = ap (λ (l : List What). Word keyword.Where ∷ (l ++ spell_all before.another_term.spell ts)) (term_same t)
    ∙ ap (λ (l : List What). Word keyword.Where ∷ (now.term t ++ l)) (ands_same ts)

time_same : (t : Option TimeForm) → spell_some before.time t ≡ now.time t
unfolding before.time before.point points
time_same None = refl
time_same (Some (inl at)) = refl
time_same (Some (inr (inl (a, b)))) = refl
time_same (Some (inr (inr (a, b)))) = refl

query_same : (q : QueryForm) → q.1.1 ≢ Some [] → before.query.spell q ≡ now.query q
unfolding before.query names
query_same (n, (t, ts)) h =
    ap (λ (l : List What). Word keyword.Select ∷ Symbol Star ∷ Word keyword.From ∷ Name n ∷ (l ++ (spell_some before.condition ts ++ Symbol Semicolon ∷ []))) (time_same t)
    ∙ ap (λ (l : List What). Word keyword.Select ∷ Symbol Star ∷ Word keyword.From ∷ Name n ∷ (now.time t ++ (l ++ Symbol Semicolon ∷ []))) (terms_same ts h)

-- ---- what fits

date_now : (d : Bytes) → has_shape (codes "dddd-dd-dd") d ≡ true → now.IsShaped (codes "dddd-dd-dd") d
date_now d h = shape_same (codes "dddd-dd-dd") d ∙ h

date_before : (d : Bytes) → now.IsShaped (codes "dddd-dd-dd") d → has_shape (codes "dddd-dd-dd") d ≡ true
date_before d h = sym (shape_same (codes "dddd-dd-dd") d) ∙ h

dated_now : (p : PredicateForm) → before.predicate.fits p → now.IsDated p
unfolding before.predicate before.span before.relation shared.date shared.literal dates
dated_now (inl (inl (a, b))) h = (date_now a h.0, date_now b h.1)
dated_now (inl (inr d)) h = date_now d h
dated_now (inr (inl (o, inl d))) h = date_now d h.1
dated_now (inr (inl (o, inr l))) h = tt
dated_now (inr (inr (r, (a, b)))) h = (date_now a h.1.0, date_now b h.1.1)

relation_fits : (r : RelationForm) → before.relation.fits r
unfolding before.relation
relation_fits (inl u) = tt
relation_fits (inr (inl u)) = tt
relation_fits (inr (inr (inl u))) = tt
relation_fits (inr (inr (inr (inl u)))) = tt
relation_fits (inr (inr (inr (inr (inl u))))) = tt
relation_fits (inr (inr (inr (inr (inr u))))) = tt

dated_before : (p : PredicateForm) → now.IsDated p → before.predicate.fits p
unfolding before.predicate before.span shared.date shared.literal dates texts digits operators
dated_before (inl (inl (a, b))) h = (date_before a h.0, date_before b h.1)
dated_before (inl (inr d)) h = date_before d h
dated_before (inr (inl (o, inl d))) h = (tt, date_before d h)
dated_before (inr (inl (o, inr (inl t)))) h = (tt, tt)
dated_before (inr (inl (o, inr (inr (None, d))))) h = (tt, (tt, tt))
dated_before (inr (inl (o, inr (inr (Some u, d))))) h = (tt, (tt, tt))
dated_before (inr (inr (r, (a, b)))) h = (relation_fits r, (date_before a h.0, date_before b h.1))

point_now : (t : Bytes) → has_shape (codes "dddd-dd-dd dd:dd:dd.dddddd") t ≡ true → now.IsShaped (codes "dddd-dd-dd dd:dd:dd.dddddd") t
point_now t h = shape_same (codes "dddd-dd-dd dd:dd:dd.dddddd") t ∙ h

point_before : (t : Bytes) → now.IsShaped (codes "dddd-dd-dd dd:dd:dd.dddddd") t → has_shape (codes "dddd-dd-dd dd:dd:dd.dddddd") t ≡ true
point_before t h = sym (shape_same (codes "dddd-dd-dd dd:dd:dd.dddddd") t) ∙ h

timed_now : (t : Option TimeForm) → FitsSome before.time t → now.IsTimed t
unfolding before.time before.point points
timed_now None h = tt
timed_now (Some (inl at)) h = point_now at h
timed_now (Some (inr (inl (a, b)))) h = (point_now a h.0, point_now b h.1)
timed_now (Some (inr (inr (a, b)))) h = (point_now a h.0, point_now b h.1)

timed_before : (t : Option TimeForm) → now.IsTimed t → FitsSome before.time t
unfolding before.time before.point points
timed_before None h = tt
timed_before (Some (inl at)) h = point_before at h
timed_before (Some (inr (inl (a, b)))) h = (point_before a h.0, point_before b h.1)
timed_before (Some (inr (inr (a, b)))) h = (point_before a h.0, point_before b h.1)

abbrev AllDated : List TermForm → Type 0
AllDated ts = AllByRecursion (λ t. now.IsDated t.1) ts

abbrev AllNamed : List TermForm → Type 0
AllNamed ts = AllByRecursion (λ t. is_name_text t.0 ≡ true) ts

ands_dated : (ts : List TermForm) → AllByRecursion before.another_term.fits ts → AllDated ts
unfolding before.another_term before.term
ands_dated [] h = tt
ands_dated (t ∷ ts) h = (dated_now t.1 h.0.1, ands_dated ts h.1)

ands_fit : (ts : List TermForm) → AllDated ts → AllNamed ts → AllByRecursion before.another_term.fits ts
unfolding before.another_term before.term names
ands_fit [] h n = tt
ands_fit (t ∷ ts) h n = ((n.0, dated_before t.1 h.0), ands_fit ts h.1 n.1)

terms_some : (ts : Option (List TermForm)) → FitsSome before.condition ts → ts ≢ Some []
unfolding before.condition before.terms
terms_some None h e = cc
terms_some (Some []) h e = let never = h.1 in cc
terms_some (Some (t ∷ ts)) h e = cc

terms_dated : (ts : Option (List TermForm)) → FitsSome before.condition ts → AllDated (unwrap_or ts [])
unfolding before.condition before.terms before.term
terms_dated None h = tt
terms_dated (Some []) h = tt
terms_dated (Some (t ∷ ts)) h = (dated_now t.1 h.0.0.1, ands_dated ts h.0.1)

terms_fit : (ts : Option (List TermForm)) → ts ≢ Some [] → AllDated (unwrap_or ts []) → AllNamed (unwrap_or ts []) → FitsSome before.condition ts
unfolding before.condition before.terms before.term names
terms_fit None some h n = tt
terms_fit (Some []) some h n = absurd (some refl)
terms_fit (Some (t ∷ ts)) some h n = (((n.0, dated_before t.1 h.0), ands_fit ts h.1 n.1), refl)

-- ---- names

all_front : {A : Type 0} (P : A → Type 0) (xs ys : List A) → AllByRecursion P (xs ++ ys) → AllByRecursion P xs
all_front P [] ys h = tt
all_front P (x ∷ xs) ys h = (h.0, all_front P xs ys h.1)

all_back : {A : Type 0} (P : A → Type 0) (xs ys : List A) → AllByRecursion P (xs ++ ys) → AllByRecursion P ys
all_back P [] ys h = h
all_back P (x ∷ xs) ys h = all_back P xs ys h.1

ands_named : (ts : List TermForm) → AllByRecursion IsNamed (flat_map (λ t. Word keyword.And ∷ now.term t) ts) → AllNamed ts
ands_named [] h = tt
ands_named ((n, p) ∷ ts) h = (h.1.0, ands_named ts (all_back IsNamed (Word keyword.And ∷ now.term (n, p)) (flat_map (λ t. Word keyword.And ∷ now.term t) ts) h))

terms_named : (ts : Option (List TermForm)) → AllByRecursion IsNamed (now.terms ts) → AllNamed (unwrap_or ts [])
terms_named None h = tt
terms_named (Some []) h = tt
terms_named (Some ((n, p) ∷ ts)) h = (h.1.0, ands_named ts (all_back IsNamed (Word keyword.Where ∷ now.term (n, p)) (flat_map (λ t. Word keyword.And ∷ now.term t) ts) h))

-- ---- queries

parted : (n : Bytes) (t : Option TimeForm) (os : Option (List TermForm)) → before.query.fits (n, (t, os)) → FitsSome before.time t × FitsSome before.condition os
unfolding before.query
parted n t os f = f.1

query_now : (q : QueryForm) (ts : List Piece) → before.query.fits q → said ts ≡ before.query.spell q → now.IsQuery q ts
query_now (n, (t, os)) ts f e =
    let parts : FitsSome before.time t × FitsSome before.condition os = parted n t os f in
    let some = terms_some os parts.1 in
    record { are = e ∙ query_same (n, (t, os)) some; some = some; timed = timed_now t parts.0; dated = terms_dated os parts.1 }

query_fits : (q : QueryForm) → q.1.1 ≢ Some [] → now.IsTimed q.1.0 → AllDated (unwrap_or q.1.1 []) → AllByRecursion IsNamed (now.query q) → before.query.fits q
unfolding before.query names
query_fits (n, (t, os)) some timed dated h =
    let rest = all_back IsNamed (now.time t) (now.terms os ++ Symbol Semicolon ∷ []) h.1.1.1.1 in
    (h.1.1.1.0, (timed_before t timed, terms_fit os some dated (terms_named os (all_front IsNamed (now.terms os) (Symbol Semicolon ∷ []) rest))))

query_before : (q : QueryForm) (ts : List Piece) → now.IsQuery q ts → AllByRecursion IsNamed (said ts) → before.query.fits q × (said ts ≡ before.query.spell q)
query_before q ts x n = (query_fits q x.some x.timed x.dated (subst (AllByRecursion IsNamed) x.are n), x.are ∙ sym (query_same q x.some))

-- ---- names that are none, as others

abbrev a_name : Bytes → Bytes
a_name n = cond (is_name_text n) n (codes "a")

term_renamed : TermForm → TermForm
term_renamed (n, p) = (a_name n, p)

query_renamed : QueryForm → QueryForm
query_renamed (n, (t, ts)) = (a_name n, (t, option_map (map term_renamed) ts))

predicate_is : (p : PredicateForm) → map renamed (now.predicate p) ≡ now.predicate p
predicate_is (inl (inl (a, b))) = refl
predicate_is (inl (inr d)) = refl
predicate_is (inr (inl (o, inl d))) = refl
predicate_is (inr (inl (o, inr (inl t)))) = refl
predicate_is (inr (inl (o, inr (inr (None, d))))) = refl
predicate_is (inr (inl (o, inr (inr (Some u, d))))) = refl
predicate_is (inr (inr (inl u, (a, b)))) = refl
predicate_is (inr (inr (inr (inl u), (a, b)))) = refl
predicate_is (inr (inr (inr (inr (inl u)), (a, b)))) = refl
predicate_is (inr (inr (inr (inr (inr (inl u))), (a, b)))) = refl
predicate_is (inr (inr (inr (inr (inr (inr (inl u)))), (a, b)))) = refl
predicate_is (inr (inr (inr (inr (inr (inr (inr u)))), (a, b)))) = refl

term_is : (t : TermForm) → map renamed (now.term t) ≡ now.term (term_renamed t)
unfolding term_renamed
term_is (n, p) = ap (λ (ts : List What). Name (a_name n) ∷ ts) (predicate_is p)

ands_is : (ts : List TermForm) → map renamed (flat_map (λ t. Word keyword.And ∷ now.term t) ts) ≡ flat_map (λ t. Word keyword.And ∷ now.term t) (map term_renamed ts)
ands_is [] = refl
ands_is (t ∷ ts) = map-append renamed (Word keyword.And ∷ now.term t) (flat_map (λ t. Word keyword.And ∷ now.term t) ts)
    ∙ ap (λ (l : List What). Word keyword.And ∷ (l ++ map renamed (flat_map (λ t. Word keyword.And ∷ now.term t) ts))) (term_is t)
    ∙ ap (λ (l : List What). Word keyword.And ∷ (now.term (term_renamed t) ++ l)) (ands_is ts)

terms_is : (ts : Option (List TermForm)) → map renamed (now.terms ts) ≡ now.terms (option_map (map term_renamed) ts)
terms_is None = refl
terms_is (Some []) = refl
terms_is (Some (t ∷ ts)) = ap (λ (l : List What). Word keyword.Where ∷ l) (map-append renamed (now.term t) (flat_map (λ t. Word keyword.And ∷ now.term t) ts))
    ∙ ap (λ (l : List What). Word keyword.Where ∷ (l ++ map renamed (flat_map (λ t. Word keyword.And ∷ now.term t) ts))) (term_is t)
    ∙ ap (λ (l : List What). Word keyword.Where ∷ (now.term (term_renamed t) ++ l)) (ands_is ts)

time_is : (t : Option TimeForm) → map renamed (now.time t) ≡ now.time t
time_is None = refl
time_is (Some (inl at)) = refl
time_is (Some (inr (inl (a, b)))) = refl
time_is (Some (inr (inr (a, b)))) = refl

query_is : (q : QueryForm) → map renamed (now.query q) ≡ now.query (query_renamed q)
unfolding query_renamed
query_is (n, (t, ts)) =
    ap (λ (l : List What). Word keyword.Select ∷ Symbol Star ∷ Word keyword.From ∷ Name (a_name n) ∷ l)
    (map-append renamed (now.time t) (now.terms ts ++ Symbol Semicolon ∷ [])
    ∙ ap (λ (l : List What). l ++ map renamed (now.terms ts ++ Symbol Semicolon ∷ [])) (time_is t)
    ∙ ap (λ (l : List What). now.time t ++ l) (map-append renamed (now.terms ts) (Symbol Semicolon ∷ []))
    ∙ ap (λ (l : List What). now.time t ++ (l ++ Symbol Semicolon ∷ [])) (terms_is ts))

still_some : (ts : Option (List TermForm)) → ts ≢ Some [] → option_map (map term_renamed) ts ≢ Some []
still_some None h e = cc
still_some (Some []) h e = absurd (h refl)
still_some (Some (t ∷ ts)) h e = cc

still_dated : (ts : List TermForm) → AllDated ts → AllDated (map term_renamed ts)
unfolding term_renamed
still_dated [] h = tt
still_dated ((n, p) ∷ ts) h = (h.0, still_dated ts h.1)

still_all : (ts : Option (List TermForm)) → AllDated (unwrap_or ts []) → AllDated (unwrap_or (option_map (map term_renamed) ts) [])
still_all None h = tt
still_all (Some ts) h = still_dated ts h

a_name_is : (n : Bytes) → is_name_text (a_name n) ≡ true
a_name_is n = by (is_name_text n) refl where
  by : (b : Bool) → is_name_text n ≡ b → is_name_text (cond b n (codes "a")) ≡ true
  by true e = e
  by false e = refl

all_named : (ts : List What) → AllByRecursion IsNamed (map renamed ts)
all_named [] = tt
all_named (w ∷ ts) = (one w, all_named ts) where
  one : (w : What) → IsNamed (renamed w)
  one (Name n) = a_name_is n
  one (Word k) = tt
  one (Symbol s) = tt
  one (Digits d) = tt
  one (Text t) = tt
  one Stray = tt

renamed_some : (q : QueryForm) → q.1.1 ≢ Some [] → (query_renamed q).1.1 ≢ Some []
unfolding query_renamed
renamed_some (n, (t, ts)) h = still_some ts h

renamed_timed : (q : QueryForm) → now.IsTimed q.1.0 → now.IsTimed (query_renamed q).1.0
unfolding query_renamed
renamed_timed (n, (t, ts)) h = h

renamed_dated : (q : QueryForm) → AllDated (unwrap_or q.1.1 []) → AllDated (unwrap_or (query_renamed q).1.1 [])
unfolding query_renamed
renamed_dated (n, (t, ts)) h = still_all ts h

renamed_fits : (q : QueryForm) (ts : List Piece) → now.IsQuery q ts → before.query.fits (query_renamed q)
renamed_fits q ts x = query_fits (query_renamed q) (renamed_some q x.some) (renamed_timed q x.timed) (renamed_dated q x.dated) (subst (AllByRecursion IsNamed) (query_is q) (all_named (now.query q)))

-- ---- texts

abbrev pub Any : List Piece → Type 0
Any tokens = (q : QueryForm) × now.IsQuery q tokens

pub spells_now : (text : List ℕ) (q : QueryForm) → grammar.Spells before.query text q → words.Spells text (now.IsQuery q)
spells_now text q s = (s.tokens, tokens_now text 0 s.tokens s.are_tokens, query_now q s.tokens s.fits s.spelled)

pub spells_before : (text : List ℕ) (q : QueryForm) → words.Spells text (now.IsQuery q) → grammar.Spells before.query text q
spells_before text q (ts, are, x) =
    let tokens = tokens_before text 0 ts are in
    let g = query_before q ts x (tokens_named text 0 ts tokens) in
    record { tokens = ts; are_tokens = tokens; fits = g.0; spelled = g.1 }

abbrev pieces : List What → List Piece
pieces ws = map (λ w. record { what = w; at = 0 }) ws

said_again : (ws : List What) → said (pieces ws) ≡ ws
said_again [] = refl
said_again (w ∷ ws) = ap (λ (l : List What). w ∷ l) (said_again ws)

goes_on : (front : List Piece) → grammar.GoesOn before.query (said front) → words.GoesOn Any front
goes_on front g =
    let same : said (front ++ pieces g.ending) ≡ said front ++ g.ending = map-append (λ (t : Piece). t.what) front (pieces g.ending) ∙ ap (λ (l : List What). said front ++ l) (said_again g.ending) in
    (pieces g.ending, (g.value, query_now g.value (front ++ pieces g.ending) g.fits (same ∙ sym g.spelled)))

-- the names of the ending need not be names
goes_on_named : (front : List Piece) → AllByRecursion IsNamed (said front) → words.GoesOn Any front → grammar.GoesOn before.query (said front)
goes_on_named front n (ending, (q, x)) =
    let same : map renamed (said (front ++ ending)) ≡ said front ++ map renamed (said ending) =
    ap (map renamed) (map-append (λ (t : Piece). t.what) front ending) ∙ map-append renamed (said front) (said ending) ∙ ap (λ (l : List What). l ++ map renamed (said ending)) (as_named (said front) n) in
    record {
      value = query_renamed q;
      ending = map renamed (said ending);
      fits = renamed_fits q (front ++ ending) x;
      spelled = query_same (query_renamed q) (renamed_some q x.some) ∙ sym (query_is q) ∙ ap (map renamed) (sym x.are) ∙ same;
    }

-- ---- where a text goes wrong

place_is : (ts : List Piece) (n end : ℕ) → place ts n end ≡ option_map_or (λ t. t.at) (slice_get ts n) end
place_is [] n end = refl
place_is (t ∷ ts) zero end = refl
place_is (t ∷ ts) (suc n) end = place_is ts n end

place_past : (ts : List Piece) (n end : ℕ) → length ts ≤ n → place ts n end ≡ end
place_past [] n end h = refl
place_past (t ∷ ts) zero end h = absurd (omega arith)
place_past (t ∷ ts) (suc n) end h = place_past ts n end (omega arith)

named : (text : List ℕ) (ts : List Piece) (n : ℕ) → IsTokens text 0 ts → AllByRecursion IsNamed (said (take n ts))
named text ts n h = subst (AllByRecursion IsNamed) (take-map (λ (t : Piece). t.what) n ts) (front_named n (said ts) (tokens_named text 0 ts h)) where
  front_named : (n : ℕ) (ws : List What) → AllByRecursion IsNamed ws → AllByRecursion IsNamed (take n ws)
  front_named zero ws h = tt
  front_named (suc n) [] h = tt
  front_named (suc n) (w ∷ ws) h = (h.0, front_named n ws h.1)

on : (ts : List Piece) (n : ℕ) → grammar.GoesOn before.query (take n (said ts)) → words.GoesOn Any (take n ts)
on ts n g = goes_on (take n ts) (subst (grammar.GoesOn before.query) (take-map (λ (t : Piece). t.what) n ts) g)

on_named : (text : List ℕ) (ts : List Piece) (n : ℕ) → IsTokens text 0 ts → words.GoesOn Any (take n ts) → grammar.GoesOn before.query (take n (said ts))
on_named text ts n h g = subst (grammar.GoesOn before.query) (sym (take-map (λ (t : Piece). t.what) n ts)) (goes_on_named (take n ts) (named text ts n h) g)

pub wrong_now : (text : List ℕ) (at : ℕ) → grammar.IsWrongAt before.query text at → words.IsWrongAt Any text at
wrong_now text at w = record {
  spells_nothing = λ s. let g = spells_before text s.2.0 (s.0, s.1, s.2.1) in
      w.says_nothing s.2.0 g.fits (ap said (tokens_same text 0 w.tokens g.tokens w.are_tokens g.are_tokens) ∙ g.spelled);
  tokens = w.tokens;
  are_tokens = tokens_now text 0 w.tokens w.are_tokens;
  count = w.count;
  at_is = w.at_is ∙ place_is w.tokens w.count (length text);
  goes_on = on w.tokens w.count w.goes_on;
  ends = λ lt g. w.ends lt (on_named text w.tokens (w.count + 1) w.are_tokens g);
}

pub wrong_before : (text : List ℕ) (at : ℕ) → words.IsWrongAt Any text at → grammar.IsWrongAt before.query text at
wrong_before text at w =
    elim (decide (ltb w.count (length w.tokens))) [
      | inl h ↦ let lt : w.count < length w.tokens = ltb-true w.count (length w.tokens) h in record {
        tokens = w.tokens;
        are_tokens = are;
        says_nothing = nothing;
        count = w.count;
        within = omega arith;
        at_is = at_is;
        goes_on = on_named text w.tokens w.count are w.goes_on;
        ends = λ lt g. w.ends lt (on w.tokens (w.count + 1) g);
      }
      | inr h ↦ let le : length w.tokens ≤ w.count = ltb-false w.count (length w.tokens) h in record {
        tokens = w.tokens;
        are_tokens = are;
        says_nothing = nothing;
        count = length w.tokens;
        within = omega arith;
        at_is = at_is ∙ place_past w.tokens w.count (length text) le ∙ sym (place_past w.tokens (length w.tokens) (length text) (omega arith));
        goes_on = on_named text w.tokens (length w.tokens) are (subst (words.GoesOn Any) (take_all w.count w.tokens le ∙ sym (take_all (length w.tokens) w.tokens (omega arith))) w.goes_on);
        ends = λ lt g. absurd (omega arith);
      }
    ] where
      are : IsTokens text 0 w.tokens
      are = tokens_before text 0 w.tokens w.are_tokens

      at_is : at ≡ place w.tokens w.count (length text)
      at_is = w.at_is ∙ sym (place_is w.tokens w.count (length text))

      nothing : (q : QueryForm) → before.query.fits q → said w.tokens ≡ before.query.spell q → ⊥
      nothing q f e = let s = spells_now text q (record { tokens = w.tokens; are_tokens = are; fits = f; spelled = e }) in w.spells_nothing (s.0, s.1, (q, s.2))
