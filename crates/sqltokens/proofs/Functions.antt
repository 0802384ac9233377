-- The tokens that the functions give are those that a text has.
use Rattle.std.proofs.Common.{◌≡◌, ℕ, zero, suc, ◌+◌, ◌<◌, ◌≤◌, false, List, [], ◌∷◌, length, take, drop, get_or, Option, Some, None, refl, sym, ap, subst, ◌∙◌, arith, inl, inr}
use Rattle.std.specs.Prelude.{slice_index}
use Rattle.std.proofs.lemmas.List.{length-drop, drop-drop, get_or-drop}
use Rattle.std.proofs.lemmas.Bool.{cases_eq}
use Rattle.sqltokens.specs.What.{What, Stray, Piece}
use Rattle.sqltokens.specs.Lexing.{is_blank, token_of, IsLongest, BeginsNone, IsTokens, longest_within, tokens_within, tokens_of}
use Rattle.sqltokens.proofs.Texts.{decide}
use Rattle.phrase.proofs.Laws.{if_true, if_false}
use Rattle.sqltokens.proofs.Cuts.{over_blank, token_first, stray_first, no_more_tokens, tokens_same}

-- what a bounded search finds
pub data Search (bytes : List ℕ) (n : ℕ) (o : Option (ℕ × What)) : Type 0 where
  Finds : (m : ℕ) (w : What) → o ≡ Some (m, w) → 0 < m → m ≤ n → token_of (take m bytes) ≡ Some w → ((k : ℕ) → m < k → k ≤ n → token_of (take k bytes) ≡ None) → Search bytes n o
  Misses : o ≡ None → ((k : ℕ) → k ≤ n → token_of (take k bytes) ≡ None) → Search bytes n o

nothing_empty : token_of [] ≡ None
unfolding token_of
nothing_empty = refl

none_at : (bytes : List ℕ) (k : ℕ) → k ≤ 0 → token_of (take k bytes) ≡ None
none_at bytes zero le = nothing_empty
none_at bytes (suc k) le = absurd (omega arith)

last_none : (bytes : List ℕ) (n k : ℕ) → token_of (take (suc n) bytes) ≡ None → n < k → k ≤ suc n → token_of (take k bytes) ≡ None
last_none bytes n k e lo hi = let same : suc n ≡ k = omega arith in subst (λ (i : ℕ). token_of (take i bytes) ≡ None) same e

one_more : (bytes : List ℕ) (n : ℕ) (o : Option (ℕ × What)) → token_of (take (suc n) bytes) ≡ None → Search bytes n o → Search bytes (suc n) o
one_more bytes n o e (Finds m w is lo hi token rest) = Finds m w is lo (omega arith) token (λ k low le. elim (cases_eq k (suc n)) [
  | inl same ↦ last_none bytes n k e (omega arith) le
  | inr apart ↦ rest k low (omega arith)
])
one_more bytes n o e (Misses is rest) = Misses is (λ k le. elim (cases_eq k (suc n)) [
  | inl same ↦ last_none bytes n k e (omega arith) le
  | inr apart ↦ rest k (omega arith)
])

longer : (bytes : List ℕ) (n : ℕ) (o : Option What) → token_of (take (suc n) bytes) ≡ o → Search bytes n (longest_within n bytes) → Search bytes (suc n) (elim o [ Some w ↦ Some (suc n, w) | None ↦ longest_within n bytes ])
longer bytes n (Some w) e rest = Finds (suc n) w refl (omega arith) (omega arith) e (λ k lo hi. absurd (omega arith))
longer bytes n None e rest = one_more bytes n (longest_within n bytes) e rest

pub searched : (bytes : List ℕ) (n : ℕ) → Search bytes n (longest_within n bytes)
unfolding longest_within
searched bytes zero = Misses refl (none_at bytes)
searched bytes (suc n) = longer bytes n (token_of (take (suc n) bytes)) refl (searched bytes n)

some_is : {A : Type 0} (x y : A) → Some x ≡ Some y → x ≡ y
some_is x y e = cc

byte_at : (text : List ℕ) (at b : ℕ) (bs : List ℕ) → b ∷ bs ≡ drop at text → get_or text at 0 ≡ b
byte_at text at b bs e =
    let here : at ≡ at + 0 = omega arith in
    ap (λ (i : ℕ). get_or text i 0) here ∙ sym (get_or-drop at text 0 0) ∙ ap (λ (l : List ℕ). get_or l 0 0) (sym e)

after_byte : (text : List ℕ) (at b : ℕ) (bs : List ℕ) → b ∷ bs ≡ drop at text → bs ≡ drop (at + 1) text
after_byte text at b bs e = ap (drop 1) e ∙ drop-drop 1 at text

-- the rest of the tokens behind the one that the search finds
with_first : (text : List ℕ) (at b : ℕ) (bs : List ℕ) (o : Option (ℕ × What)) (rest : ℕ → List Piece) → b ∷ bs ≡ drop at text → at < length text → is_blank (slice_index text at) ≡ false → at + length (b ∷ bs) ≡ length text → Search (b ∷ bs) (length (b ∷ bs)) o
    → ((m : ℕ) → 0 < m → m ≤ length (b ∷ bs) → IsTokens text (at + m) (rest m))
    → IsTokens text at (elim o [ Some (m, what) ↦ record { what = what; at = at } ∷ rest m | None ↦ record { what = Stray; at = at } ∷ [] ])
with_first text at b bs None rest e lt blank len (Finds m w is lo hi token longest) others = absurd cc
with_first text at b bs None rest e lt blank len (Misses is none) others = stray_first text at lt blank (subst BeginsNone e none)
with_first text at b bs (Some (m, w)) rest e lt blank len (Misses is none) others = absurd cc
with_first text at b bs (Some (m, w)) rest e lt blank len (Finds k v is lo hi token longest) others =
    let pair = some_is (m, w) (k, v) is in
    let p : m ≡ k = ap (λ (x : ℕ × What). x.0) pair in
    let q : w ≡ v = ap (λ (x : ℕ × What). x.1) pair in
    let l : IsLongest (b ∷ bs) m w = rw (p, q) (record { within = hi; is = token; longest = longest }) in
    token_first text at m w (rest m) lt blank (subst (λ (r : List ℕ). IsLongest r m w) e l) (others m (rw p lo) (rw p hi))

are_within : (n at : ℕ) (text rest : List ℕ) → rest ≡ drop at text → length rest ≤ n → at + length rest ≡ length text → IsTokens text at (tokens_within n at rest)
unfolding tokens_within
are_within zero at text rest e le len = no_more_tokens text at (omega arith)
are_within (suc n) at text [] e le len = no_more_tokens text at (omega arith)
are_within (suc n) at text (b ∷ bs) e le len = elim (decide (is_blank b)) [
  | inl h ↦ subst (IsTokens text at) (sym (if_true (is_blank b) (tokens_within n (at + 1) bs) _ h))
      (over_blank text at _ (ap is_blank (byte_at text at b bs e) ∙ h) (are_within n (at + 1) text bs (after_byte text at b bs e) (omega arith) (omega arith)))
  | inr h ↦ subst (IsTokens text at) (sym (if_false (is_blank b) (tokens_within n (at + 1) bs) _ h))
      (with_first text at b bs (longest_within (length (b ∷ bs)) (b ∷ bs)) (λ m. tokens_within n (at + m) (drop m (b ∷ bs))) e (omega arith) (ap is_blank (byte_at text at b bs e) ∙ h) len (searched (b ∷ bs) (length (b ∷ bs)))
      (λ m lo hi. are_within n (at + m) text (drop m (b ∷ bs)) (ap (drop m) e ∙ drop-drop m at text) (omega (arith, length-drop m (b ∷ bs))) (omega (arith, length-drop m (b ∷ bs)))))
]

pub are_tokens : (text : List ℕ) → IsTokens text 0 (tokens_of text)
are_tokens text = are_within (length text) 0 text text refl (omega arith) (omega arith)

pub tokens_are : (text : List ℕ) (ts : List Piece) → IsTokens text 0 ts → ts ≡ tokens_of text
tokens_are text ts h = tokens_same text 0 ts (tokens_of text) h (are_tokens text)
