-- What a text spells, and where it goes wrong, by the grammar of transactions and by what the forms are spelled by.
use Rattle.std.proofs.Common.{◌≡◌, ℕ, ◌+◌, ◌<◌, ◌≤◌, List, [], ◌++◌, length, take, refl, sym, ap, subst, ◌∙◌, arith, inl, inr}
use Rattle.std.specs.Prelude.{◌↔◌, ◌≢◌, zero, suc, ◌∷◌, map, slice_get}
use Rattle.std.specs.List.{AllByRecursion, flat_map, take-map}
use Rattle.std.specs.Option.{option_map_or}
use Rattle.std.proofs.Math.Dec.{ltb}
use Rattle.std.proofs.lemmas.Bool.{ltb-true, ltb-false}
use Rattle.std.proofs.lemmas.List.{map-append, take_all}
use Rattle.sqltokens.specs.What.{What, Piece}
use Rattle.sqltokens.specs.Lexing.{IsTokens}
use Rattle.sqltokens.specs.Syntax.{said, place}
use Rattle.sqltokens.specs.Syntax as grammar
use Rattle.sqltokens.proofs.Texts.{decide}
use Rattle.sqltokens.proofs.Cuts.{tokens_same}
use Rattle.sqlsyntax.specs.Transactions.{StatementForm, statements}
use Rattle.sqlsyntax.specs.Spelling.{statement, IsFull, IsSpelling, Spells, GoesOn, IsWrongAt}
use Rattle.sqlsyntax.proofs.Dated.{IsNamed, dated, IsRight, tokens_named}
use Rattle.sqlsyntax.proofs.Spelled.{statements_matches}
use Rattle.sqlsyntax.proofs.Renamed.{renamed, as_named, right_renamed, statement_named, statements_are, some_left, all_full}

-- ---- tokens

spelling : (forms : List StatementForm) (ts : List Piece) → statements.fits forms → said ts ≡ statements.spell forms → IsSpelling forms ts
spelling forms ts f e =
    let full = statements_matches.full forms f in
    (e ∙ statements_matches.same forms full, full.0, full.1, dated (flat_map statement forms) (statements_matches.dated forms f))

spelled : (forms : List StatementForm) (ts : List Piece) → IsSpelling forms ts → AllByRecursion IsNamed (said ts) → statements.fits forms × (said ts ≡ statements.spell forms)
spelled forms ts s n =
    let right : IsRight (flat_map statement forms) = record { dates = s.3; names = subst (AllByRecursion IsNamed) s.0 n } in
    (statements_matches.fits forms (s.1, s.2) right, s.0 ∙ sym (statements_matches.same forms (s.1, s.2)))

-- ---- texts

pub spells : (text : List ℕ) (forms : List StatementForm) → grammar.Spells statements text forms ↔ Spells text forms
spells text forms = (
  (λ s. (s.tokens, s.are_tokens, spelling forms s.tokens s.fits s.spelled)),
  (λ s. let g = spelled forms s.0 s.2 (tokens_named text 0 s.0 s.1) in record { tokens = s.0; are_tokens = s.1; fits = g.0; spelled = g.1 }),
)

-- tokens at some place
abbrev pieces : List What → List Piece
pieces ws = map (λ w. record { what = w; at = 0 }) ws

said_again : (ws : List What) → said (pieces ws) ≡ ws
said_again [] = refl
said_again (w ∷ ws) = ap (λ (l : List What). w ∷ l) (said_again ws)

goes_on : (front : List Piece) → grammar.GoesOn statements (said front) → GoesOn front
goes_on front g =
    let same : said (front ++ pieces g.ending) ≡ said front ++ g.ending = map-append (λ (t : Piece). t.what) front (pieces g.ending) ∙ ap (λ (l : List What). said front ++ l) (said_again g.ending) in
    (g.value, pieces g.ending, spelling g.value (front ++ pieces g.ending) g.fits (same ∙ sym g.spelled))

-- the names of the ending need not be names
goes_on_named : (front : List Piece) → AllByRecursion IsNamed (said front) → GoesOn front → grammar.GoesOn statements (said front)
goes_on_named front n g =
    let forms = map statement_named g.0 in
    let s = g.2 in
    let same : map renamed (said (front ++ g.1)) ≡ said front ++ map renamed (said g.1) =
    ap (map renamed) (map-append (λ (t : Piece). t.what) front g.1) ∙ map-append renamed (said front) (said g.1) ∙ ap (λ (l : List What). l ++ map renamed (said g.1)) (as_named (said front) n) in
    let is : flat_map statement forms ≡ map renamed (flat_map statement g.0) = sym (statements_are g.0) in
    let full : (forms ≢ []) × AllByRecursion IsFull forms = (some_left statement_named g.0 s.1, all_full g.0 s.2) in
    record {
      value = forms;
      ending = map renamed (said g.1);
      fits = statements_matches.fits forms full (subst IsRight (sym is) (right_renamed (flat_map statement g.0) s.3));
      spelled = statements_matches.same forms full ∙ is ∙ ap (map renamed) (sym s.0) ∙ same;
    }

-- ---- where a text goes wrong

place_is : (ts : List Piece) (n end : ℕ) → place ts n end ≡ option_map_or (λ t. t.at) (slice_get ts n) end
place_is [] n end = refl
place_is (t ∷ ts) zero end = refl
place_is (t ∷ ts) (suc n) end = place_is ts n end

place_past : (ts : List Piece) (n end : ℕ) → length ts ≤ n → place ts n end ≡ end
place_past [] n end h = refl
place_past (t ∷ ts) zero end h = absurd (omega arith)
place_past (t ∷ ts) (suc n) end h = place_past ts n end (omega arith)

named : (text : List ℕ) (ts : List Piece) (n : ℕ) → IsTokens text 0 ts → AllByRecursion IsNamed (said (take n ts))
named text ts n h = subst (AllByRecursion IsNamed) (take-map (λ (t : Piece). t.what) n ts) (front_named n (said ts) (tokens_named text 0 ts h)) where
  front_named : (n : ℕ) (ws : List What) → AllByRecursion IsNamed ws → AllByRecursion IsNamed (take n ws)
  front_named zero ws h = tt
  front_named (suc n) [] h = tt
  front_named (suc n) (w ∷ ws) h = (h.0, front_named n ws h.1)

-- the front of the tokens goes on by both
on : (ts : List Piece) (n : ℕ) → grammar.GoesOn statements (take n (said ts)) → GoesOn (take n ts)
on ts n g = goes_on (take n ts) (subst (grammar.GoesOn statements) (take-map (λ (t : Piece). t.what) n ts) g)

on_named : (text : List ℕ) (ts : List Piece) (n : ℕ) → IsTokens text 0 ts → GoesOn (take n ts) → grammar.GoesOn statements (take n (said ts))
on_named text ts n h g = subst (grammar.GoesOn statements) (sym (take-map (λ (t : Piece). t.what) n ts)) (goes_on_named (take n ts) (named text ts n h) g)

to_wrong : (text : List ℕ) (at : ℕ) → grammar.IsWrongAt statements text at → IsWrongAt text at
to_wrong text at w = record {
  spells_nothing = λ forms s. let g = ((spells text forms).1 s) in w.says_nothing forms g.fits (ap said (tokens_same text 0 w.tokens g.tokens w.are_tokens g.are_tokens) ∙ g.spelled);
  tokens = w.tokens;
  are_tokens = w.are_tokens;
  count = w.count;
  at_is = w.at_is ∙ place_is w.tokens w.count (length text);
  goes_on = on w.tokens w.count w.goes_on;
  ends = λ lt g. w.ends lt (on_named text w.tokens (w.count + 1) w.are_tokens g);
}

of_wrong : (text : List ℕ) (at : ℕ) → IsWrongAt text at → grammar.IsWrongAt statements text at
of_wrong text at w =
    elim (decide (ltb w.count (length w.tokens))) [
      | inl h ↦ let lt : w.count < length w.tokens = ltb-true w.count (length w.tokens) h in record {
        tokens = w.tokens;
        are_tokens = w.are_tokens;
        says_nothing = nothing;
        count = w.count;
        within = omega arith;
        at_is = at_is;
        goes_on = on_named text w.tokens w.count w.are_tokens w.goes_on;
        ends = λ lt g. w.ends lt (on w.tokens (w.count + 1) g);
      }
      | inr h ↦ let le : length w.tokens ≤ w.count = ltb-false w.count (length w.tokens) h in record {
        tokens = w.tokens;
        are_tokens = w.are_tokens;
        says_nothing = nothing;
        count = length w.tokens;
        within = omega arith;
        at_is = at_is ∙ place_past w.tokens w.count (length text) le ∙ sym (place_past w.tokens (length w.tokens) (length text) (omega arith));
        goes_on = on_named text w.tokens (length w.tokens) w.are_tokens (subst GoesOn (take_all w.count w.tokens le ∙ sym (take_all (length w.tokens) w.tokens (omega arith))) w.goes_on);
        ends = λ lt g. absurd (omega arith);
      }
    ] where
      at_is : at ≡ place w.tokens w.count (length text)
      at_is = w.at_is ∙ sym (place_is w.tokens w.count (length text))

      nothing : (forms : List StatementForm) → statements.fits forms → said w.tokens ≡ statements.spell forms → ⊥
      nothing forms f e = w.spells_nothing forms ((spells text forms).0 (record { tokens = w.tokens; are_tokens = w.are_tokens; fits = f; spelled = e }))

pub wrong : (text : List ℕ) (at : ℕ) → grammar.IsWrongAt statements text at ↔ IsWrongAt text at
wrong text at = (to_wrong text at, of_wrong text at)
