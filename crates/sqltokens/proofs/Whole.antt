-- A text is read exactly where it says something, and else the place is the first wrong one.
use Rattle.std.proofs.Common.{◌≡◌, ℕ, zero, suc, ◌+◌, ◌-◌, ◌<◌, ◌≤◌, List, [], ◌∷◌, ◌++◌, length, take, get_or, Ok, Err, refl, sym, ap, subst, ◌∙◌, append_assoc, arith, inl, inr}
use Rattle.std.proofs.lemmas.List.{append-nil, length-append, take_at, length-map}
use Rattle.sqltokens.specs.declared.token.Token.{Token}
use Rattle.sqltokens.specs.What.{What, Piece, pieces, what, whats}
use Rattle.sqltokens.specs.Lexing.{IsTokens}
use Rattle.phrase.specs.Grammar.{◌>>=◌, Phrase}
use Rattle.sqltokens.specs.Syntax.{said, Spells, GoesOn, place, IsWrongAt, ended, all_of}
use Rattle.phrase.proofs.Laws.{Reading, done, ok_is, err_is, bind_ok, bind_err, IsLawful}
use Rattle.sqltokens.proofs.Cuts.{tokens_same}

ended_ok : {A : Type 0} (a b : A) (rest : List What) → ended a rest ≡ Ok b → (rest ≡ []) × (a ≡ b)
ended_ok a b [] e = (refl, ok_is a b e)
ended_ok a b (t ∷ ts) e = absurd cc

pub all_found : {A : Type 0} (p : Phrase What A) → IsLawful p → (ts : List What) (a : A) → all_of p ts ≡ Ok a → p.fits a × (ts ≡ p.spell a)
all_found {A} p P ts a e =
    let x = bind_ok (p.read ts) (λ x. ended x.0 x.1) a e in
    let g = P.found ts x.0 x.1 in
    let h = ended_ok x.0.0 a x.0.1 x.2 in
    subst (λ (v : A). p.fits v × (ts ≡ p.spell v)) h.1 (g.fits, g.whole ∙ ap (λ (l : List What). p.spell x.0.0 ++ l) h.0 ∙ append-nil (p.spell x.0.0))

-- the whole spelling is read to its end
read_whole : {A : Type 0} (p : Phrase What A) → IsLawful p → (a : A) → p.fits a → p.read (p.spell a) ≡ Ok (a, [])
read_whole p P a fits = ap p.read (sym (append-nil (p.spell a))) ∙ P.again a [] fits refl

pub all_again : {A : Type 0} (p : Phrase What A) → IsLawful p → (a : A) → p.fits a → all_of p (p.spell a) ≡ Ok a
all_again p P a fits = ap (λ r. r >>= λ x. ended x.0 x.1) (read_whole p P a fits)

-- where the tokens go wrong
pub record Stops {A : Type 0} (p : Phrase What A) (ts : List What) (left : ℕ) : Type 0 where
  pub front : List What
  pub rest : List What
  pub whole : ts ≡ front ++ rest
  pub left_is : left ≡ length rest
  pub goes_on : GoesOn p front
  pub ends : (t : What) (z : List What) → rest ≡ t ∷ z → GoesOn p (front ++ t ∷ []) → ⊥

pub not_both : {A : Type 0} (r : Reading A) (a : A) (n : ℕ) → r ≡ Ok a → r ≡ Err n → ⊥
not_both (Ok x) a n e f = absurd cc
not_both (Err m) a n e f = absurd cc

no_end : {A : Type 0} (x y : A × List What) (t : What) (z : List What) → done x ≡ done y → x.1 ≡ t ∷ z → y.1 ≡ [] → ⊥
no_end {A} x y t z e f g = let k = ap (λ (x : A × List What). x.1) (ok_is x y e) in cc

ended_err : {A : Type 0} (a : A) (rest : List What) (left : ℕ) → ended a rest ≡ Err left → left ≡ length rest
ended_err a [] left e = absurd cc
ended_err {A} a (t ∷ ts) left e = sym (err_is {A = A} (length (t ∷ ts)) left e)

pub all_stops : {A : Type 0} (p : Phrase What A) → IsLawful p → (ts : List What) (left : ℕ) → all_of p ts ≡ Err left → Stops p ts left
all_stops {A} p P ts left e = elim (bind_err (p.read ts) (λ x. ended x.0 x.1) left e) [
  | inl h ↦
      let g = P.fault ts left h in
      record {
        front = g.front;
        rest = g.rest;
        whole = g.whole;
        left_is = g.left_is;
        goes_on = record { value = g.value; ending = g.ending; fits = g.fits; spelled = g.begins };
        ends = λ t z n w.
            let full : p.spell w.value ≡ g.front ++ t ∷ w.ending = w.spelled ∙ append_assoc g.front (t ∷ []) w.ending in
            not_both (p.read (p.spell w.value)) (w.value, []) (length (t ∷ w.ending)) (read_whole p P w.value w.fits) (ap p.read full ∙ g.local t z w.ending n);
      }
  | inr s ↦
      let g = P.found ts s.0 s.1 in
      record {
        front = p.spell s.0.0;
        rest = s.0.1;
        whole = g.whole;
        left_is = ended_err s.0.0 s.0.1 left s.2;
        goes_on = record { value = s.0.0; ending = []; fits = g.fits; spelled = sym (append-nil (p.spell s.0.0)) };
        ends = λ t z n w.
            let full : p.spell w.value ≡ p.spell s.0.0 ++ t ∷ w.ending = w.spelled ∙ append_assoc (p.spell s.0.0) (t ∷ []) w.ending in
            no_end (s.0.0, t ∷ w.ending) (w.value, []) t w.ending (sym (g.local t z w.ending n) ∙ sym (ap p.read full) ∙ read_whole p P w.value w.fits) refl refl;
      }
]

nonempty_front : (rest : List What) → 0 < length rest → (t : What) × (z : List What) × (rest ≡ t ∷ z)
nonempty_front [] lt = absurd (omega arith)
nonempty_front (t ∷ z) lt = (t, z, refl)

-- the place of the first token that is left
pub wrong_at : {A : Type 0} (p : Phrase What A) → IsLawful p → (text : List ℕ) (ts : List Piece) (left : ℕ) → IsTokens text 0 ts → all_of p (said ts) ≡ Err left → IsWrongAt p text (place ts (length ts - left) (length text))
wrong_at {A} p P text ts left are e =
    let s = all_stops p P (said ts) left e in
    let total : length ts ≡ length s.front + left = sym (length-map ts (λ (t : Piece). t.what)) ∙ ap length s.whole ∙ omega (arith, length-append s.front s.rest, s.left_is) in
    let count-is : length s.front ≡ length ts - left = omega arith in
    let front-is : s.front ≡ take (length ts - left) (said ts) = sym (take_at s.front s.rest (length ts - left) count-is) ∙ ap (take (length ts - left)) (sym s.whole) in
    record {
      tokens = ts;
      are_tokens = are;
      says_nothing = λ a fits spelled. not_both (all_of p (said ts)) a left (ap (all_of p) spelled ∙ all_again p P a fits) e;
      count = length ts - left;
      within = omega arith;
      at_is = refl;
      goes_on = subst (GoesOn p) front-is s.goes_on;
      ends = λ lt more.
          let f = nonempty_front s.rest (omega (arith, s.left_is)) in
          let parts : said ts ≡ (s.front ++ f.0 ∷ []) ++ f.1 = s.whole ∙ ap (λ (l : List What). s.front ++ l) f.2 ∙ sym (append_assoc s.front (f.0 ∷ []) f.1) in
          let len : length (s.front ++ f.0 ∷ []) ≡ length ts - left + 1 = omega (arith, length-append s.front (f.0 ∷ [])) in
          let one : take (length ts - left + 1) (said ts) ≡ s.front ++ f.0 ∷ [] = ap (take (length ts - left + 1)) parts ∙ take_at (s.front ++ f.0 ∷ []) f.1 (length ts - left + 1) len in
          s.ends f.0 f.1 f.2 (subst (GoesOn p) one more);
    }

-- what is read is said
pub spells : {A : Type 0} (p : Phrase What A) → IsLawful p → (text : List ℕ) (ts : List Piece) (a : A) → IsTokens text 0 ts → all_of p (said ts) ≡ Ok a → Spells p text a
spells p P text ts a are e = let h = all_found p P (said ts) a e in record { tokens = ts; are_tokens = are; fits = h.0; spelled = h.1 }

-- what is said is read
pub is_read : {A : Type 0} (p : Phrase What A) → IsLawful p → (text : List ℕ) (ts : List Piece) (a : A) → IsTokens text 0 ts → Spells p text a → all_of p (said ts) ≡ Ok a
is_read p P text ts a are s = ap (λ (l : List Piece). all_of p (said l)) (tokens_same text 0 ts s.tokens are s.are_tokens) ∙ ap (all_of p) s.spelled ∙ all_again p P a s.fits

-- ---- tokens of the code

pub said_pieces : (ts : List Token) → said (pieces ts) ≡ whats ts
said_pieces [] = refl
said_pieces (t ∷ ts) = ap (λ (l : List What). what t ∷ l) (said_pieces ts)

pub place_in : (ts : List Token) (n end : ℕ) (t d : Token) → n < length ts → t ≡ get_or ts n d → t.at ≡ place (pieces ts) n end
place_in [] n end t d lt e = absurd (omega arith)
place_in (u ∷ ts) zero end t d lt e = ap (λ (v : Token). v.at) e
place_in (u ∷ ts) (suc n) end t d lt e = place_in ts n end t d (omega arith) e

pub place_past : (ts : List Token) (n end : ℕ) → length ts ≤ n → end ≡ place (pieces ts) n end
place_past [] n end le = refl
place_past (u ∷ ts) zero end le = absurd (omega arith)
place_past (u ∷ ts) (suc n) end le = place_past ts n end (omega arith)

pub left_within : {A : Type 0} (p : Phrase What A) → IsLawful p → (ts : List Token) (left : ℕ) → all_of p (whats ts) ≡ Err left → left ≤ length ts
left_within p P ts left e =
    let s = all_stops p P (whats ts) left e in
    omega (arith, s.left_is, ap length s.whole, length-append s.front s.rest, length-map ts what)
