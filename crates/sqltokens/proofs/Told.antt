-- What the function of a phrase gives is what a text spells, or where it goes wrong.
use Rattle.std.proofs.Common.{◌≡◌, ℕ, ◌+◌, ◌-◌, ◌<◌, ◌≤◌, List, ◌++◌, length, take, drop, Ok, Err, refl, sym, ap, subst, ◌∙◌, append_assoc, arith, inl, inr}
use Rattle.std.proofs.lemmas.List.{take-append-drop, take-take}
use Rattle.std.proofs.Math.Dec.{ltb}
use Rattle.std.proofs.lemmas.Bool.{ltb-true, ltb-false}
use Rattle.sqltokens.specs.declared.token.Token.{Token}
use Rattle.sqltokens.specs.What.{What, Piece, pieces, whats}
use Rattle.sqltokens.specs.Lexing.{IsTokens, tokens_of}
use Rattle.sqltokens.specs.Syntax.{said, Spells, GoesOn, place, IsWrongAt, all_of, at_place, spelled_in, IsTold}
use Rattle.phrase.specs.Grammar.{Phrase}
use Rattle.phrase.proofs.Laws.{Reading, wrong, err_is, IsLawful}
use Rattle.sqltokens.proofs.Texts.{decide}
use Rattle.sqltokens.proofs.Cuts.{tokens_same}
use Rattle.sqltokens.proofs.Whole.{spells, is_read, wrong_at, said_pieces}
use Rattle.sqltokens.proofs.Functions.{are_tokens, tokens_are}

placed_ok : {A : Type 0} (ts : List Piece) (end : ℕ) (r : Reading A) (a : A) → at_place ts end r ≡ Ok a → r ≡ Ok a
placed_ok ts end (Ok x) a e = e
placed_ok ts end (Err left) a e = absurd cc

placed_err : {A : Type 0} (ts : List Piece) (end : ℕ) (r : Reading A) (at : ℕ) → at_place ts end r ≡ Err at → (left : ℕ) × (r ≡ Err left) × (place ts (length ts - left) end ≡ at)
placed_err ts end (Ok x) at e = absurd cc
placed_err {A} ts end (Err left) at e = (left, refl, err_is {A = A} (place ts (length ts - left) end) at e)

-- a front of what goes on goes on
front_goes_on : {A : Type 0} (p : Phrase What A) (ts : List What) (m n : ℕ) → m ≤ n → GoesOn p (take n ts) → GoesOn p (take m ts)
front_goes_on p ts m n le g =
    let parts : take n ts ≡ take m ts ++ drop m (take n ts) = sym (take-append-drop m (take n ts)) ∙ ap (λ (l : List What). l ++ drop m (take n ts)) (take-take m n ts le) in
    record {
      value = g.value;
      ending = drop m (take n ts) ++ g.ending;
      fits = g.fits;
      spelled = g.spelled ∙ ap (λ (l : List What). l ++ g.ending) parts ∙ append_assoc (take m ts) (drop m (take n ts)) g.ending;
    }

-- no count of tokens is less than the one at which the text goes wrong
not_before : {A : Type 0} (p : Phrase What A) (text : List ℕ) (a b : ℕ) (x : IsWrongAt p text a) (y : IsWrongAt p text b) → x.tokens ≡ y.tokens → x.count < y.count → ⊥
not_before p text a b x y same lt =
    let y_within : y.count ≤ length x.tokens = rw same y.within in
    let on : GoesOn p (take y.count (said x.tokens)) = subst (λ (ts : List Piece). GoesOn p (take y.count (said ts))) (sym same) y.goes_on in
    x.ends (omega arith) (front_goes_on p (said x.tokens) (x.count + 1) y.count (omega arith) on)

pub one_place : {A : Type 0} (p : Phrase What A) (text : List ℕ) (a b : ℕ) → IsWrongAt p text a → IsWrongAt p text b → a ≡ b
one_place p text a b x y =
    let same = tokens_same text 0 x.tokens y.tokens x.are_tokens y.are_tokens in
    elim (decide (ltb x.count y.count)) [
      | inl h ↦ absurd (not_before p text a b x y same (ltb-true x.count y.count h))
      | inr h ↦ elim (decide (ltb y.count x.count)) [
        | inl j ↦ absurd (not_before p text b a y x (sym same) (ltb-true y.count x.count j))
        | inr j ↦
            let e : x.count ≡ y.count = (let u : y.count ≤ x.count = ltb-false x.count y.count h in let v : x.count ≤ y.count = ltb-false y.count x.count j in omega arith) in
            x.at_is ∙ ap (λ (n : ℕ). place x.tokens n (length text)) e ∙ ap (λ (ts : List Piece). place ts y.count (length text)) same ∙ sym y.at_is
      ]
    ]

spelled : {A : Type 0} (p : Phrase What A) → IsLawful p → (text : List ℕ) (a : A) → spelled_in p text ≡ Ok a → Spells p text a
unfolding spelled_in
spelled p P text a e = spells p P text (tokens_of text) a (are_tokens text) (placed_ok (tokens_of text) (length text) (all_of p (said (tokens_of text))) a e)

gives_spelled : {A : Type 0} (p : Phrase What A) → IsLawful p → (text : List ℕ) (a : A) → Spells p text a → spelled_in p text ≡ Ok a
unfolding spelled_in
gives_spelled {A} p P text a s = ap (λ (r : Reading A). at_place (tokens_of text) (length text) r) (is_read p P text (tokens_of text) a (are_tokens text) s)

goes_wrong : {A : Type 0} (p : Phrase What A) → IsLawful p → (text : List ℕ) (at : ℕ) → spelled_in p text ≡ Err at → IsWrongAt p text at
unfolding spelled_in
goes_wrong p P text at e =
    let w = placed_err (tokens_of text) (length text) (all_of p (said (tokens_of text))) at e in
    subst (IsWrongAt p text) w.2 (wrong_at p P text (tokens_of text) w.0 (are_tokens text) w.1)

says_nothing : {A : Type 0} (p : Phrase What A) → (text : List ℕ) (at : ℕ) (a : A) → IsWrongAt p text at → Spells p text a → ⊥
says_nothing p text at a w s =
    w.says_nothing a s.fits (ap said (tokens_same text 0 w.tokens s.tokens w.are_tokens s.are_tokens) ∙ s.spelled)

gives_place : {A : Type 0} (p : Phrase What A) → IsLawful p → (text : List ℕ) (at : ℕ) (r : Reading A) → spelled_in p text ≡ r → IsWrongAt p text at → r ≡ Err at
gives_place p P text at (Ok a) e w = absurd (says_nothing p text at a w (spelled p P text a e))
gives_place {A} p P text at (Err b) e w = ap (λ (k : ℕ). wrong {A = A} k) (one_place p text b at (goes_wrong p P text b e) w)

pub is_told : {A : Type 0} (p : Phrase What A) → IsLawful p → IsTold p
is_told p P text = (
  (λ a. ((λ s. gives_spelled p P text a s), (λ e. spelled p P text a e))),
  (λ at. ((λ w. gives_place p P text at (spelled_in p text) refl w), (λ e. goes_wrong p P text at e))),
)

-- what the code's tokens give
pub of_tokens : {A : Type 0} (p : Phrase What A) (text : List ℕ) (ts : List Token) → IsTokens text 0 (pieces ts) → spelled_in p text ≡ at_place (pieces ts) (length text) (all_of p (whats ts))
unfolding spelled_in
of_tokens p text ts are =
    ap (λ (l : List Piece). at_place l (length text) (all_of p (said l))) (sym (tokens_are text (pieces ts) are))
    ∙ ap (λ (l : List What). at_place (pieces ts) (length text) (all_of p l)) (said_pieces ts)
