-- What is cut off the front is the longest token.
use Rattle.std.proofs.Common.{◌≡◌, ℕ, zero, suc, ◌+◌, ◌-◌, ◌<◌, ◌≤◌, Bool, true, false, ltb, List, [], ◌∷◌, length, take, drop, get_or, Some, None, refl, sym, ap, subst, ◌∙◌, arith, inl, inr}
use Rattle.std.specs.Prelude.{◌&&◌, ◌⊎◌}
use Rattle.std.specs.Char.{is_ascii_digit, is_ascii_alphabetic}
use Rattle.std.specs.List.{list_all}
use Rattle.std.specs.Option.{option_map}
use Rattle.std.proofs.lemmas.List.{length-take-le, take-take}
use Rattle.std.proofs.lemmas.Bool.{ne_eqb, le-leb, lt-leb, ltb-true, ltb-false}
use Rattle.sqltokens.specs.declared.token.Sign.{Sign}
use Rattle.sqltokens.specs.What.{Symbol, Digits, Text}
use Rattle.sqltokens.specs.Lexing.{is_word_byte, word_what, closes, sign_of, one_sign, two_sign, token_of, IsLongest, BeginsNone, longest_text, IsOther}
use Rattle.sqltokens.proofs.Texts.{decide, is_most, closing}

pub all_true : (p : ℕ → Bool) (bs : List ℕ) (n : ℕ) → n ≤ length bs → ((k : ℕ) → k < n → p (get_or bs k 0) ≡ true) → list_all p (take n bs) ≡ true
all_true p bs zero le each = refl
all_true p [] (suc n) le each = absurd (omega arith)
all_true p (b ∷ bs) (suc n) le each = rw (each 0 (omega arith)) (all_true p bs n (omega arith) (λ k lt. each (suc k) (omega arith)))

and_false : (a : Bool) → (a && false) ≡ false
and_false true = refl
and_false false = refl

all_false : (p : ℕ → Bool) (bs : List ℕ) (n k : ℕ) → n ≤ length bs → k < n → p (get_or bs k 0) ≡ false → list_all p (take n bs) ≡ false
all_false p bs zero k le lt e = absurd (omega arith)
all_false p [] (suc n) k le lt e = absurd (omega arith)
all_false p (b ∷ bs) (suc n) zero le lt e = rw e refl
all_false p (b ∷ bs) (suc n) (suc k) le lt e = ap (λ (a : Bool). p b && a) (all_false p bs n k (omega arith) (omega arith) e) ∙ and_false (p b)

-- ---- words

word_is : (b : ℕ) (bs : List ℕ) → is_ascii_alphabetic b ≡ true → list_all is_word_byte bs ≡ true → length bs ≤ 31 → token_of (b ∷ bs) ≡ Some (word_what (b ∷ bs))
unfolding token_of
word_is b bs alpha all le = rw (alpha, all, le-leb (length bs) 31 le) refl

word_not : (b : ℕ) (bs : List ℕ) → is_ascii_alphabetic b ≡ true → (list_all is_word_byte bs ≡ false) ⊎ (31 < length bs) → token_of (b ∷ bs) ≡ None
unfolding token_of
word_not b bs alpha (inl h) = rw (alpha, h) refl
word_not b bs alpha (inr h) = rw (alpha, lt-leb (length bs) 31 h, and_false (list_all is_word_byte bs)) refl

word_none : (b : ℕ) (bs : List ℕ) (n m : ℕ) → is_ascii_alphabetic b ≡ true → (n < 32 → n < length (b ∷ bs) → is_word_byte (get_or (b ∷ bs) n 0) ≡ false) → 1 ≤ n → n ≤ 32 → n < m → m ≤ length (b ∷ bs) → token_of (take m (b ∷ bs)) ≡ None
word_none b bs n zero alpha ends lo hi lt le = absurd (omega arith)
word_none b bs zero (suc m) alpha ends lo hi lt le = absurd (omega arith)
word_none b bs (suc n) (suc m) alpha ends lo hi lt le =
    let len : length (take m bs) ≡ m = length-take-le m bs (omega arith) in
    elim (decide (ltb n 31)) [
      | inl h ↦ word_not b (take m bs) alpha (inl (all_false is_word_byte bs m n (omega arith) (omega arith) (ends (let k : n < 31 = ltb-true n 31 h in omega arith) (omega arith))))
      | inr h ↦ word_not b (take m bs) alpha (inr (let k : 31 ≤ n = ltb-false n 31 h in omega arith))
    ]

pub word_longest : (bs : List ℕ) (n : ℕ) → 0 < length bs → is_ascii_alphabetic (get_or bs 0 0) ≡ true → (1 ≤ n) × (n ≤ length bs) × (n ≤ 32) → ((k : ℕ) → 1 ≤ k → k < n → is_word_byte (get_or bs k 0) ≡ true) → (n < 32 → n < length bs → is_word_byte (get_or bs n 0) ≡ false) → IsLongest bs n (word_what (take n bs))
word_longest [] n some alpha within each ends = absurd (omega arith)
word_longest (b ∷ bs) zero some alpha within each ends = absurd (omega arith)
word_longest (b ∷ bs) (suc n) some alpha within each ends = record {
  within = within.1;
  is = word_is b (take n bs) alpha (all_true is_word_byte bs n (omega arith) (λ k lt. each (suc k) (omega arith) (omega arith))) (omega (arith, length-take-le n bs (omega arith)));
  longest = λ m lt le. word_none b bs (suc n) m alpha ends within.0 within.2 lt le;
}

-- ---- digits

digits_is : (b : ℕ) (bs : List ℕ) → is_ascii_alphabetic b ≡ false → is_ascii_digit b ≡ true → list_all is_ascii_digit bs ≡ true → token_of (b ∷ bs) ≡ Some (Digits (b ∷ bs))
unfolding token_of
digits_is b bs alpha d all = rw (alpha, d, all) refl

digits_not : (b : ℕ) (bs : List ℕ) → is_ascii_alphabetic b ≡ false → is_ascii_digit b ≡ true → list_all is_ascii_digit bs ≡ false → token_of (b ∷ bs) ≡ None
unfolding token_of
digits_not b bs alpha d all = rw (alpha, d, all) refl

digits_none : (b : ℕ) (bs : List ℕ) (n m : ℕ) → is_ascii_alphabetic b ≡ false → is_ascii_digit b ≡ true → (n < length (b ∷ bs) → is_ascii_digit (get_or (b ∷ bs) n 0) ≡ false) → 1 ≤ n → n < m → m ≤ length (b ∷ bs) → token_of (take m (b ∷ bs)) ≡ None
digits_none b bs n zero alpha d ends lo lt le = absurd (omega arith)
digits_none b bs zero (suc m) alpha d ends lo lt le = absurd (omega arith)
digits_none b bs (suc n) (suc m) alpha d ends lo lt le = digits_not b (take m bs) alpha d (all_false is_ascii_digit bs m n (omega arith) (omega arith) (ends (omega arith)))

pub digits_longest : (bs : List ℕ) (n : ℕ) → 0 < length bs → is_ascii_alphabetic (get_or bs 0 0) ≡ false → is_ascii_digit (get_or bs 0 0) ≡ true → (1 ≤ n) × (n ≤ length bs) → ((k : ℕ) → 1 ≤ k → k < n → is_ascii_digit (get_or bs k 0) ≡ true) → (n < length bs → is_ascii_digit (get_or bs n 0) ≡ false) → IsLongest bs n (Digits (take n bs))
digits_longest [] n some alpha d within each ends = absurd (omega arith)
digits_longest (b ∷ bs) zero some alpha d within each ends = absurd (omega arith)
digits_longest (b ∷ bs) (suc n) some alpha d within each ends = record {
  within = within.1;
  is = digits_is b (take n bs) alpha d (all_true is_ascii_digit bs n (omega arith) (λ k lt. each (suc k) (omega arith) (omega arith)));
  longest = λ m lt le. digits_none b bs (suc n) m alpha d ends within.0 lt le;
}

-- ---- texts

text_is : (bs : List ℕ) → closes bs ≡ true → token_of (39 ∷ bs) ≡ Some (Text (take (length bs - 1) bs))
unfolding token_of
text_is bs e = rw e refl

text_not : (bs : List ℕ) → closes bs ≡ false → token_of (39 ∷ bs) ≡ None
unfolding token_of
text_not bs e = rw e refl

-- more bytes than the longest text close none
no_more : (bs : List ℕ) (m : ℕ) → m ≤ length bs → longest_text bs < m → closes (take m bs) ≡ false
no_more bs m le lt = elim (decide (closes (take m bs))) [
  | inl h ↦ absurd (omega (arith, is_most bs m le h))
  | inr h ↦ h
]

text_none : (bs : List ℕ) (m : ℕ) → longest_text bs + 1 < m → m ≤ length (39 ∷ bs) → token_of (take m (39 ∷ bs)) ≡ None
text_none bs zero lt le = absurd (omega arith)
text_none bs (suc m) lt le = text_not (take m bs) (no_more bs m (omega arith) (omega arith))

none_front : token_of [] ≡ None
unfolding token_of
none_front = refl

quote_alone : token_of (39 ∷ []) ≡ None
unfolding token_of closes
quote_alone = refl

text_longest_at : (bs : List ℕ) (n : ℕ) → longest_text bs ≡ n → 0 < n → IsLongest (39 ∷ bs) (n + 1) (Text (take (n - 1) bs))
text_longest_at bs n e lt =
    let k = closing bs n e lt in
    let len : length (take n bs) ≡ n = length-take-le n bs k.0 in
    let one : n + 1 ≡ suc n = omega arith in
    let inner : take (length (take n bs) - 1) (take n bs) ≡ take (n - 1) bs = ap (λ (i : ℕ). take (i - 1) (take n bs)) len ∙ take-take (n - 1) n bs (omega arith) in
    rw one (record {
      within = omega (arith, k.0);
      is = text_is (take n bs) k.1 ∙ ap (λ (l : List ℕ). Some (Text l)) inner;
      longest = λ m lt le. text_none bs m (omega (arith, e)) le;
    })

pub text_longest : (bytes : List ℕ) (n : ℕ) → 0 < length bytes → get_or bytes 0 0 ≡ 39 → longest_text (drop 1 bytes) ≡ n → 0 < n → IsLongest bytes (n + 1) (Text (take (n - 1) (drop 1 bytes)))
text_longest [] n some q e lt = absurd (omega arith)
text_longest (b ∷ bs) n some q e lt = subst (λ (c : ℕ). IsLongest (c ∷ bs) (n + 1) (Text (take (n - 1) bs))) (sym q) (text_longest_at bs n e lt)

no_text_at : (bs : List ℕ) → longest_text bs ≡ 0 → (m : ℕ) → m ≤ length (39 ∷ bs) → token_of (take m (39 ∷ bs)) ≡ None
no_text_at bs e zero le = none_front
no_text_at bs e (suc zero) le = quote_alone
no_text_at bs e (suc (suc m)) le = text_not (take (suc m) bs) (no_more bs (suc m) (omega arith) (omega (arith, e)))

pub no_text : (bytes : List ℕ) → 0 < length bytes → get_or bytes 0 0 ≡ 39 → longest_text (drop 1 bytes) ≡ 0 → BeginsNone bytes
no_text [] some q e = absurd (omega arith)
no_text (b ∷ bs) some q e = subst (λ (c : ℕ). BeginsNone (c ∷ bs)) (sym q) (no_text_at bs e)

-- ---- signs

sign_token : (b : ℕ) (bs : List ℕ) → IsOther b → token_of (b ∷ bs) ≡ option_map Symbol (sign_of (b ∷ bs))
unfolding token_of
sign_token b bs o = rw (o.letter, o.digit, ne_eqb b 39 o.quote) refl

pub two_longest : (bytes : List ℕ) (b c : ℕ) (bs : List ℕ) (s : Sign) → bytes ≡ b ∷ c ∷ bs → IsOther b → two_sign b c ≡ Some s → IsLongest bytes 2 (Symbol s)
two_longest bytes b c bs s parts o e = subst (λ (l : List ℕ). IsLongest l 2 (Symbol s)) (sym parts) (record {
  within = omega arith;
  is = sign_token b (c ∷ []) o ∙ ap (option_map Symbol) e;
  longest = more b c bs o;
}) where
  more : (b c : ℕ) (bs : List ℕ) → IsOther b → (m : ℕ) → 2 < m → m ≤ length (b ∷ c ∷ bs) → token_of (take m (b ∷ c ∷ bs)) ≡ None
  more b c bs o zero lt le = absurd (omega arith)
  more b c bs o (suc zero) lt le = absurd (omega arith)
  more b c bs o (suc (suc zero)) lt le = absurd (omega arith)
  more b c [] o (suc (suc (suc m))) lt le = absurd (omega arith)
  more b c (d ∷ ds) o (suc (suc (suc m))) lt le = sign_token b (c ∷ d ∷ take m ds) o

-- no sign has two bytes here
abbrev pub NoPair : ℕ → List ℕ → Type 0
NoPair b [] = Unit {0}
NoPair b (c ∷ bs) = two_sign b c ≡ None

longer : (b : ℕ) (bs : List ℕ) → IsOther b → NoPair b bs → (m : ℕ) → 1 < m → m ≤ length (b ∷ bs) → token_of (take m (b ∷ bs)) ≡ None
longer b bs o unpaired zero lt le = absurd (omega arith)
longer b bs o unpaired (suc zero) lt le = absurd (omega arith)
longer b [] o unpaired (suc (suc m)) lt le = absurd (omega arith)
longer b (c ∷ bs) o unpaired (suc (suc zero)) lt le = sign_token b (c ∷ []) o ∙ ap (option_map Symbol) unpaired
longer b (c ∷ []) o unpaired (suc (suc (suc m))) lt le = absurd (omega arith)
longer b (c ∷ d ∷ ds) o unpaired (suc (suc (suc m))) lt le = sign_token b (c ∷ d ∷ take m ds) o

pub one_longest : (bytes : List ℕ) (b : ℕ) (bs : List ℕ) (s : Sign) → bytes ≡ b ∷ bs → IsOther b → NoPair b bs → one_sign b ≡ Some s → IsLongest bytes 1 (Symbol s)
one_longest bytes b bs s parts o unpaired e = subst (λ (l : List ℕ). IsLongest l 1 (Symbol s)) (sym parts) (record {
  within = omega arith;
  is = sign_token b [] o ∙ ap (option_map Symbol) e;
  longest = longer b bs o unpaired;
})

no_sign_at : (b : ℕ) (bs : List ℕ) → IsOther b → NoPair b bs → one_sign b ≡ None → (m : ℕ) → m ≤ length (b ∷ bs) → token_of (take m (b ∷ bs)) ≡ None
no_sign_at b bs o unpaired e zero le = none_front
no_sign_at b bs o unpaired e (suc zero) le = sign_token b [] o ∙ ap (option_map Symbol) e
no_sign_at b bs o unpaired e (suc (suc m)) le = longer b bs o unpaired (suc (suc m)) (omega arith) le

pub no_sign : (bytes : List ℕ) (b : ℕ) (bs : List ℕ) → bytes ≡ b ∷ bs → IsOther b → NoPair b bs → one_sign b ≡ None → BeginsNone bytes
no_sign bytes b bs parts o unpaired e = subst BeginsNone (sym parts) (no_sign_at b bs o unpaired e)

pub two_at_front : (bytes : List ℕ) (s : Sign) → 1 < length bytes → IsOther (get_or bytes 0 0) → two_sign (get_or bytes 0 0) (get_or bytes 1 0) ≡ Some s → IsLongest bytes 2 (Symbol s)
two_at_front [] s lt o e = absurd (omega arith)
two_at_front (b ∷ []) s lt o e = absurd (omega arith)
two_at_front (b ∷ c ∷ bs) s lt o e = two_longest (b ∷ c ∷ bs) b c bs s refl o e

pair_free : (b : ℕ) (bs : List ℕ) → (1 < length (b ∷ bs) → two_sign b (get_or (b ∷ bs) 1 0) ≡ None) → NoPair b bs
pair_free b [] h = tt
pair_free b (c ∷ bs) h = h (omega arith)

pub one_at_front : (bytes : List ℕ) (s : Sign) → 0 < length bytes → IsOther (get_or bytes 0 0) → (1 < length bytes → two_sign (get_or bytes 0 0) (get_or bytes 1 0) ≡ None) → one_sign (get_or bytes 0 0) ≡ Some s → IsLongest bytes 1 (Symbol s)
one_at_front [] s lt o h e = absurd (omega arith)
one_at_front (b ∷ bs) s lt o h e = one_longest (b ∷ bs) b bs s refl o (pair_free b bs h) e

pub none_at_front : (bytes : List ℕ) → 0 < length bytes → IsOther (get_or bytes 0 0) → (1 < length bytes → two_sign (get_or bytes 0 0) (get_or bytes 1 0) ≡ None) → one_sign (get_or bytes 0 0) ≡ None → BeginsNone bytes
none_at_front [] lt o h e = absurd (omega arith)
none_at_front (b ∷ bs) lt o h e = no_sign (b ∷ bs) b bs refl o (pair_free b bs h) e
