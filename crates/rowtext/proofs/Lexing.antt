-- The tokens of lines are the tokens that were written.
use Rattle.std.proofs.Common.{◌≡◌, ◌≢◌, ℕ, zero, suc, ◌+◌, ◌-◌, ◌<◌, ◌≤◌, Bool, true, false, List, [], ◌∷◌, ◌++◌, length, flat_map, take, drop, get_or, cond, eqb, ltb, Option, Some, None, refl, sym, ap, subst, ◌∙◌, append_assoc, arith, inl, inr}
use Rattle.std.specs.Prelude.{◌&&◌, ◌⊎◌, nat_le}
use Rattle.std.specs.Char.{is_ascii_digit, is_ascii_alphabetic}
use Rattle.std.specs.List.{list_all, AllByRecursion}
use Rattle.std.specs.Option.{option_map}
use Rattle.std.proofs.lemmas.Bool.{ne_eqb, eq-eqb, eqb-true, leb-true, ltb-true, ltb-false}
use Rattle.std.proofs.lemmas.List.{length-append, length-drop}
use Rattle.sqltokens.specs.declared.token.Sign.{Sign}
use Rattle.sqltokens.specs.declared.token.Sign.TheVariants as sign
use Rattle.sqltokens.specs.What.{What, Word as Keyed, Symbol, Name, Digits, Text, Stray}
use Rattle.sqltokens.specs.Lexing.{is_blank, is_printable, is_word_byte, word_what, closes, sign_of, one_sign, two_sign, token_of, IsLongest, IsOther, longest_text, above, longest_within, tokens_within, tokens_of}
use Rattle.sqltokens.specs.Syntax.{said}
use Rattle.sqltokens.proofs.Texts.{decide, and_parts}
use Rattle.sqltokens.proofs.Functions.{Search, Finds, Misses, searched}
use Rattle.sqltokens.proofs.Lexemes.{word_longest, digits_longest, text_longest, two_at_front, one_at_front}
use Rattle.phrase.proofs.Laws.{if_true, if_false}
use Rattle.rowtext.specs.Spacing.{Before, Start, Sign as AfterSign, Word, behind, follows, space, token_text, line}
use Rattle.rowtext.specs.Again.{IsWritten, lines}

-- ---- bytes in a row

pub take_all : (xs rest : List ℕ) → take (length xs) (xs ++ rest) ≡ xs
take_all [] rest = refl
take_all (x ∷ xs) rest = ap (λ l. x ∷ l) (take_all xs rest)

drop_all : (xs rest : List ℕ) → drop (length xs) (xs ++ rest) ≡ rest
drop_all [] rest = refl
drop_all (x ∷ xs) rest = drop_all xs rest

behind_is : (xs rest : List ℕ) → get_or (xs ++ rest) (length xs) 0 ≡ get_or rest 0 0
behind_is [] rest = refl
behind_is (x ∷ xs) rest = behind_is xs rest

each_within : (p : ℕ → Bool) (xs rest : List ℕ) → list_all p xs ≡ true → (k : ℕ) → k < length xs → p (get_or (xs ++ rest) k 0) ≡ true
each_within p [] rest e k lt = absurd (omega arith)
each_within p (x ∷ xs) rest e zero lt = (and_parts (p x) (list_all p xs) e).0
each_within p (x ∷ xs) rest e (suc k) lt = each_within p xs rest (and_parts (p x) (list_all p xs) e).1 k (omega arith)

-- ---- what may stand behind a token

-- a byte with which no token goes on
record IsApart (b : ℕ) : Type 0 where
  word : is_word_byte b ≡ false
  digit : is_ascii_digit b ≡ false
  quote : b ≢ 39
  pair : (a : ℕ) → two_sign a b ≡ None

abbrev IsEnd : List ℕ → Type 0
IsEnd [] = Unit {0}
IsEnd (b ∷ bs) = IsApart b

end_first : (rest : List ℕ) → IsEnd rest → 0 < length rest → IsApart (get_or rest 0 0)
end_first [] e lt = absurd (omega arith)
end_first (b ∷ bs) e lt = e

and_false : (a : Bool) → (a && false) ≡ false
and_false true = refl
and_false false = refl

no_pair : (a b : ℕ) → b ≢ 62 → b ≢ 61 → two_sign a b ≡ None
unfolding two_sign
no_pair a b n m = rw (ne_eqb b 62 n, ne_eqb b 61 m, and_false (eqb a 60), and_false (eqb a 62)) refl

apart_blank : IsApart 32
apart_blank = record { word = refl; digit = refl; quote = λ e. absurd (omega (arith, e)); pair = λ a. no_pair a 32 (λ e. absurd (omega (arith, e))) (λ e. absurd (omega (arith, e))) }

apart_line : IsApart 10
apart_line = record { word = refl; digit = refl; quote = λ e. absurd (omega (arith, e)); pair = λ a. no_pair a 10 (λ e. absurd (omega (arith, e))) (λ e. absurd (omega (arith, e))) }

apart_comma : IsApart 44
apart_comma = record { word = refl; digit = refl; quote = λ e. absurd (omega (arith, e)); pair = λ a. no_pair a 44 (λ e. absurd (omega (arith, e))) (λ e. absurd (omega (arith, e))) }

apart_semicolon : IsApart 59
apart_semicolon = record { word = refl; digit = refl; quote = λ e. absurd (omega (arith, e)); pair = λ a. no_pair a 59 (λ e. absurd (omega (arith, e))) (λ e. absurd (omega (arith, e))) }

apart_close : IsApart 41
apart_close = record { word = refl; digit = refl; quote = λ e. absurd (omega (arith, e)); pair = λ a. no_pair a 41 (λ e. absurd (omega (arith, e))) (λ e. absurd (omega (arith, e))) }

-- ---- a token that stands apart is the longest

some_is : {A : Type 0} (x y : A) → Some x ≡ Some y → x ≡ y
some_is x y e = cc

pub word_parts : (b : ℕ) (bs : List ℕ) (t : What) → is_ascii_alphabetic b ≡ true → token_of (b ∷ bs) ≡ Some t
    → (list_all is_word_byte bs ≡ true) × (length bs ≤ 31) × (word_what (b ∷ bs) ≡ t)
unfolding token_of
word_parts b bs t alpha e = go (decide (list_all is_word_byte bs && nat_le (length bs) 31)) where
  go : ((list_all is_word_byte bs && nat_le (length bs) 31) ≡ true) ⊎ ((list_all is_word_byte bs && nat_le (length bs) 31) ≡ false)
      → (list_all is_word_byte bs ≡ true) × (length bs ≤ 31) × (word_what (b ∷ bs) ≡ t)
  go (inl h) =
      let both = and_parts (list_all is_word_byte bs) (nat_le (length bs) 31) h in
      (both.0, leb-true (length bs) 31 both.1, some_is (word_what (b ∷ bs)) t (rw (alpha, h) at e))
  go (inr h) = let none = rw (alpha, h) at e in absurd cc

pub digits_parts : (b : ℕ) (bs : List ℕ) (t : What) → is_ascii_alphabetic b ≡ false → is_ascii_digit b ≡ true → token_of (b ∷ bs) ≡ Some t
    → (list_all is_ascii_digit bs ≡ true) × (Digits (b ∷ bs) ≡ t)
unfolding token_of
digits_parts b bs t alpha digit e = go (decide (list_all is_ascii_digit bs)) where
  go : (list_all is_ascii_digit bs ≡ true) ⊎ (list_all is_ascii_digit bs ≡ false) → (list_all is_ascii_digit bs ≡ true) × (Digits (b ∷ bs) ≡ t)
  go (inl h) = (h, some_is (Digits (b ∷ bs)) t (rw (alpha, digit, h) at e))
  go (inr h) = let none = rw (alpha, digit, h) at e in absurd cc

pub text_parts : (bs : List ℕ) (t : What) → token_of (39 ∷ bs) ≡ Some t → (closes bs ≡ true) × (Text (take (length bs - 1) bs) ≡ t)
unfolding token_of
text_parts bs t e = go (decide (closes bs)) where
  go : (closes bs ≡ true) ⊎ (closes bs ≡ false) → (closes bs ≡ true) × (Text (take (length bs - 1) bs) ≡ t)
  go (inl h) = (h, some_is (Text (take (length bs - 1) bs)) t (rw h at e))
  go (inr h) = let none = rw h at e in absurd cc

pub sign_parts : (b : ℕ) (bs : List ℕ) → is_ascii_alphabetic b ≡ false → is_ascii_digit b ≡ false → b ≢ 39 → token_of (b ∷ bs) ≡ option_map Symbol (sign_of (b ∷ bs))
unfolding token_of
sign_parts b bs alpha digit quote = rw (alpha, digit, ne_eqb b 39 quote) refl

longest_word : (b : ℕ) (bs rest : List ℕ) (t : What) → is_ascii_alphabetic b ≡ true → token_of (b ∷ bs) ≡ Some t → IsEnd rest
    → IsLongest ((b ∷ bs) ++ rest) (length (b ∷ bs)) t
longest_word b bs rest t alpha e end =
    let parts = word_parts b bs t alpha e in
    let all : List ℕ = (b ∷ bs) ++ rest in
    let len : length all ≡ length (b ∷ bs) + length rest = length-append (b ∷ bs) rest in
    let is : word_what (take (length (b ∷ bs)) all) ≡ t = ap word_what (take_all (b ∷ bs) rest) ∙ parts.2 in
    subst (λ w. IsLongest all (length (b ∷ bs)) w) is
    (word_longest all (length (b ∷ bs)) (omega arith) alpha (omega arith, omega (arith, len), omega (arith, parts.1))
    (λ k lo lt. later k lo lt)
    (λ lt within. ap is_word_byte (behind_is (b ∷ bs) rest) ∙ (end_first rest end (omega (arith, len))).word)) where
      later : (k : ℕ) → 1 ≤ k → k < length (b ∷ bs) → is_word_byte (get_or ((b ∷ bs) ++ rest) k 0) ≡ true
      later zero lo lt = absurd (omega arith)
      later (suc k) lo lt = each_within is_word_byte bs rest (word_parts b bs t alpha e).0 k (omega arith)

longest_digits : (b : ℕ) (bs rest : List ℕ) (t : What) → is_ascii_alphabetic b ≡ false → is_ascii_digit b ≡ true → token_of (b ∷ bs) ≡ Some t → IsEnd rest
    → IsLongest ((b ∷ bs) ++ rest) (length (b ∷ bs)) t
longest_digits b bs rest t alpha digit e end =
    let parts = digits_parts b bs t alpha digit e in
    let all : List ℕ = (b ∷ bs) ++ rest in
    let len : length all ≡ length (b ∷ bs) + length rest = length-append (b ∷ bs) rest in
    let is : Digits (take (length (b ∷ bs)) all) ≡ t = ap Digits (take_all (b ∷ bs) rest) ∙ parts.1 in
    subst (λ w. IsLongest all (length (b ∷ bs)) w) is
    (digits_longest all (length (b ∷ bs)) (omega arith) alpha digit (omega arith, omega (arith, len))
    (λ k lo lt. later k lo lt)
    (λ within. ap is_ascii_digit (behind_is (b ∷ bs) rest) ∙ (end_first rest end (omega (arith, len))).digit)) where
      later : (k : ℕ) → 1 ≤ k → k < length (b ∷ bs) → is_ascii_digit (get_or ((b ∷ bs) ++ rest) k 0) ≡ true
      later zero lo lt = absurd (omega arith)
      later (suc k) lo lt = each_within is_ascii_digit bs rest (digits_parts b bs t alpha digit e).0 k (omega arith)

-- a text that closes, with no quote behind it, is the longest
above_is : (more none n : ℕ) → 0 < n → above more none n ≡ more + n
above_is more none zero lt = absurd (omega arith)
above_is more none (suc n) lt = refl

closes_longer : (cs : List ℕ) → closes cs ≡ true → 0 < length cs
unfolding closes
closes_longer [] e = absurd cc
closes_longer (c ∷ cs) e = omega arith

last_quote : (rest : List ℕ) → IsEnd rest → longest_text (39 ∷ rest) ≡ 1
unfolding longest_text
last_quote [] end = refl
last_quote (r ∷ rest) end = rw (ne_eqb r 39 end.quote) refl

whole_text : (cs rest : List ℕ) → closes cs ≡ true → IsEnd rest → longest_text (cs ++ rest) ≡ length cs
unfolding closes longest_text
whole_text [] rest e end = absurd cc
whole_text (b ∷ []) rest e end = subst (λ q. longest_text (q ∷ rest) ≡ 1) (sym (eqb-true b 39 e)) (last_quote rest end)
whole_text (b ∷ c ∷ cs) rest e end = elim (decide (eqb b 39)) [
  | inl h ↦
      let both = and_parts (eqb c 39) (closes cs) (sym (if_true (eqb b 39) (eqb c 39 && closes cs) (is_printable b && closes (c ∷ cs)) h) ∙ e) in
      let lt = closes_longer cs both.1 in
      if_true (eqb b 39) (cond (eqb c 39) (above 2 1 (longest_text (cs ++ rest))) 1) (cond (is_printable b) (above 1 0 (longest_text (c ∷ cs ++ rest))) 0) h
      ∙ if_true (eqb c 39) (above 2 1 (longest_text (cs ++ rest))) 1 both.0
      ∙ ap (above 2 1) (whole_text cs rest both.1 end)
      ∙ above_is 2 1 (length cs) lt
      ∙ omega arith
  | inr h ↦
      let both = and_parts (is_printable b) (closes (c ∷ cs)) (sym (if_false (eqb b 39) (eqb c 39 && closes cs) (is_printable b && closes (c ∷ cs)) h) ∙ e) in
      if_false (eqb b 39) (cond (eqb c 39) (above 2 1 (longest_text (cs ++ rest))) 1) (cond (is_printable b) (above 1 0 (longest_text (c ∷ cs ++ rest))) 0) h
      ∙ if_true (is_printable b) (above 1 0 (longest_text (c ∷ cs ++ rest))) 0 both.0
      ∙ ap (above 1 0) (whole_text (c ∷ cs) rest both.1 end)
      ∙ above_is 1 0 (length (c ∷ cs)) (omega arith)
      ∙ omega arith
]

take_within : (n : ℕ) (xs rest : List ℕ) → n ≤ length xs → take n (xs ++ rest) ≡ take n xs
take_within zero xs rest le = refl
take_within (suc n) [] rest le = absurd (omega arith)
take_within (suc n) (x ∷ xs) rest le = ap (λ l. x ∷ l) (take_within n xs rest (omega arith))

longest_quoted : (bs rest : List ℕ) (t : What) → token_of (39 ∷ bs) ≡ Some t → IsEnd rest → IsLongest ((39 ∷ bs) ++ rest) (length (39 ∷ bs)) t
longest_quoted bs rest t e end =
    let parts = text_parts bs t e in
    let lt = closes_longer bs parts.0 in
    let found = text_longest (39 ∷ bs ++ rest) (length bs) (omega arith) refl (whole_text bs rest parts.0 end) lt in
    let one : length bs + 1 ≡ length (39 ∷ bs) = omega arith in
    let is : Text (take (length bs - 1) (bs ++ rest)) ≡ t = ap Text (take_within (length bs - 1) bs rest (omega arith)) ∙ parts.1 in
    subst (λ w. IsLongest (39 ∷ bs ++ rest) (length (39 ∷ bs)) w) is (subst (λ n. IsLongest (39 ∷ bs ++ rest) n (Text (take (length bs - 1) (bs ++ rest)))) one found)

pub symbol_is : (o : Option Sign) (t : What) → option_map Symbol o ≡ Some t → (s : Sign) × (o ≡ Some s) × (t ≡ Symbol s)
symbol_is None t e = absurd cc
symbol_is (Some s) t e = (s, refl, sym (some_is (Symbol s) t e))

-- a sign alone, where no sign of two bytes begins
longest_one : (b : ℕ) (rest : List ℕ) (s : Sign) → IsOther b → one_sign b ≡ Some s → (1 < length (b ∷ rest) → two_sign b (get_or (b ∷ rest) 1 0) ≡ None) → IsLongest (b ∷ rest) 1 (Symbol s)
longest_one b rest s other e pair = one_at_front (b ∷ rest) s (omega arith) other pair e

longest_sign : (b : ℕ) (bs rest : List ℕ) (t : What) → IsOther b → token_of (b ∷ bs) ≡ Some t → IsEnd rest → IsLongest ((b ∷ bs) ++ rest) (length (b ∷ bs)) t
longest_sign b [] rest t other e end =
    let m = symbol_is (one_sign b) t (sym (sign_parts b [] other.letter other.digit other.quote) ∙ e) in
    subst (λ w. IsLongest (b ∷ rest) 1 w) (sym m.2) (longest_one b rest m.0 other m.1 (λ lt. (end_first rest end (omega arith)).pair b))
longest_sign b (c ∷ []) rest t other e end =
    let m = symbol_is (two_sign b c) t (sym (sign_parts b (c ∷ []) other.letter other.digit other.quote) ∙ e) in
    subst (λ w. IsLongest (b ∷ c ∷ rest) 2 w) (sym m.2) (two_at_front (b ∷ c ∷ rest) m.0 (omega arith) other m.1)
longest_sign b (c ∷ d ∷ bs) rest t other e end = let none = sym (sign_parts b (c ∷ d ∷ bs) other.letter other.digit other.quote) ∙ e in absurd cc

pub no_token : token_of [] ≡ None
unfolding token_of
no_token = refl

-- the token at the front, with something behind it that does not go on with it
longest_token : (w rest : List ℕ) (t : What) → token_of w ≡ Some t → IsEnd rest → IsLongest (w ++ rest) (length w) t
longest_token [] rest t e end = let none = sym no_token ∙ e in absurd cc
longest_token (b ∷ bs) rest t e end = elim (decide (is_ascii_alphabetic b)) [
  | inl letter ↦ longest_word b bs rest t letter e end
  | inr no_letter ↦ elim (decide (is_ascii_digit b)) [
    | inl digit ↦ longest_digits b bs rest t no_letter digit e end
    | inr no_digit ↦ elim (decide (eqb b 39)) [
      | inl quote ↦
          let is = eqb-true b 39 quote in
          subst (λ q. IsLongest ((q ∷ bs) ++ rest) (length (q ∷ bs)) t) (sym is) (longest_quoted bs rest t (subst (λ q. token_of (q ∷ bs) ≡ Some t) is e) end)
      | inr other ↦ longest_sign b bs rest t (record { letter = no_letter; digit = no_digit; quote = λ same. let yes = eq-eqb b 39 same in absurd cc }) e end
    ]
  ]
]

-- ---- the first byte of a token is no blank

no_sign : (b : ℕ) (bs : List ℕ) → is_ascii_alphabetic b ≡ false → is_ascii_digit b ≡ false → b ≢ 39 → one_sign b ≡ None → ((c : ℕ) → two_sign b c ≡ None) → token_of (b ∷ bs) ≡ None
no_sign b [] letter digit quote one two = sign_parts b [] letter digit quote ∙ ap (option_map Symbol) one
no_sign b (c ∷ []) letter digit quote one two = sign_parts b (c ∷ []) letter digit quote ∙ ap (option_map Symbol) (two c)
no_sign b (c ∷ d ∷ bs) letter digit quote one two = sign_parts b (c ∷ d ∷ bs) letter digit quote

token_not_32 : (bs : List ℕ) → token_of (32 ∷ bs) ≡ None
unfolding one_sign two_sign
token_not_32 bs = no_sign 32 bs refl refl (λ e. absurd (omega (arith, e))) refl (λ c. refl)

token_not_9 : (bs : List ℕ) → token_of (9 ∷ bs) ≡ None
unfolding one_sign two_sign
token_not_9 bs = no_sign 9 bs refl refl (λ e. absurd (omega (arith, e))) refl (λ c. refl)

token_not_10 : (bs : List ℕ) → token_of (10 ∷ bs) ≡ None
unfolding one_sign two_sign
token_not_10 bs = no_sign 10 bs refl refl (λ e. absurd (omega (arith, e))) refl (λ c. refl)

token_not_13 : (bs : List ℕ) → token_of (13 ∷ bs) ≡ None
unfolding one_sign two_sign
token_not_13 bs = no_sign 13 bs refl refl (λ e. absurd (omega (arith, e))) refl (λ c. refl)

both_none : (b n : ℕ) (bs : List ℕ) (t : What) → eqb b n ≡ true → token_of (n ∷ bs) ≡ None → token_of (b ∷ bs) ≡ Some t → ⊥
both_none b n bs t same none e = let there = subst (λ q. token_of (q ∷ bs) ≡ Some t) (eqb-true b n same) e in absurd cc

not_blank : (b : ℕ) (bs : List ℕ) (t : What) → token_of (b ∷ bs) ≡ Some t → is_blank b ≡ false
not_blank b bs t e = elim (decide (eqb b 32)) [
  | inl h ↦ absurd (both_none b 32 bs t h (token_not_32 bs) e)
  | inr h ↦ elim (decide (eqb b 9)) [
    | inl i ↦ absurd (both_none b 9 bs t i (token_not_9 bs) e)
    | inr i ↦ elim (decide (eqb b 10)) [
      | inl j ↦ absurd (both_none b 10 bs t j (token_not_10 bs) e)
      | inr j ↦ elim (decide (eqb b 13)) [
        | inl k ↦ absurd (both_none b 13 bs t k (token_not_13 bs) e)
        | inr k ↦ rw (h, i, j, k) refl
      ]
    ]
  ]
]

-- ---- the tokens that bytes say, wherever they stand

abbrev Says : List ℕ → List What → Type 0
Says bytes ts = (n at : ℕ) → length bytes ≤ n → said (tokens_within n at bytes) ≡ ts

says_nothing : Says [] []
unfolding tokens_within
says_nothing zero at le = refl
says_nothing (suc n) at le = refl

says_blank : (b : ℕ) (bs : List ℕ) (ts : List What) → is_blank b ≡ true → Says bs ts → Says (b ∷ bs) ts
unfolding tokens_within
says_blank b bs ts e rest zero at le = absurd (omega arith)
says_blank b bs ts e rest (suc n) at le = rw e (rest n (at + 1) (omega arith))

found_within : (bytes : List ℕ) (m : ℕ) (w : What) → IsLongest bytes m w → (n : ℕ) → m ≤ n → n ≤ length bytes → longest_within n bytes ≡ Some (m, w)
found_within bytes m w l n le within = go (longest_within n bytes) (searched bytes n) where
  go : (o : Option (ℕ × What)) → Search bytes n o → o ≡ Some (m, w)
  go o (Finds k v is lo hi token longest) = elim (decide (ltb m k)) [
    | inl h ↦ let e = l.longest k (ltb-true m k h) (omega arith) in absurd cc
    | inr h ↦ elim (decide (ltb k m)) [
      | inl j ↦ let e = longest m (ltb-true k m j) le in let f = l.is in absurd cc
      | inr j ↦
          let same : k ≡ m = (let p : k ≤ m = ltb-false m k h in let q : m ≤ k = ltb-false k m j in omega arith) in
          let what : v ≡ w = some_is v w (sym token ∙ ap (λ i. token_of (take i bytes)) same ∙ l.is) in
          is ∙ ap (λ i. Some (i, v)) same ∙ ap (λ x. Some (m, x)) what
    ]
  ]
  go o (Misses is none) = let e = none m le in let f = l.is in absurd cc

says_token : (b : ℕ) (bs : List ℕ) (m : ℕ) (w : What) (ts : List What) → is_blank b ≡ false → IsLongest (b ∷ bs) m w → 0 < m → Says (drop m (b ∷ bs)) ts → Says (b ∷ bs) (w ∷ ts)
unfolding tokens_within
says_token b bs m w ts e l lo rest zero at le = absurd (omega arith)
says_token b bs m w ts e l lo rest (suc n) at le =
    rw (e, found_within (b ∷ bs) m w l (length (b ∷ bs)) l.within (omega arith)) (ap (λ u. w ∷ u) (rest n (at + m) (omega (arith, length-drop m (b ∷ bs)))))

says_written : (w rest : List ℕ) (t : What) (ts : List What) → token_of w ≡ Some t → IsEnd rest → Says rest ts → Says (w ++ rest) (t ∷ ts)
says_written [] rest t ts e end says = let none = sym no_token ∙ e in absurd cc
says_written (b ∷ bs) rest t ts e end says =
    says_token b (bs ++ rest) (length (b ∷ bs)) t ts (not_blank b bs t e) (longest_token (b ∷ bs) rest t e end) (omega arith)
    (subst (λ r. Says r ts) (sym (drop_all (b ∷ bs) rest)) says)

says_open : (rest : List ℕ) (ts : List What) → Says rest ts → Says (40 ∷ rest) (Symbol sign.Open ∷ ts)
unfolding one_sign two_sign
says_open rest ts says =
    says_token 40 rest 1 (Symbol sign.Open) ts refl
    (longest_one 40 rest sign.Open (record { letter = refl; digit = refl; quote = λ e. absurd (omega (arith, e)) }) refl (λ lt. refl)) (omega arith) says

says_minus : (rest : List ℕ) (ts : List What) → Says rest ts → Says (45 ∷ rest) (Symbol sign.Minus ∷ ts)
unfolding one_sign two_sign
says_minus rest ts says =
    says_token 45 rest 1 (Symbol sign.Minus) ts refl
    (longest_one 45 rest sign.Minus (record { letter = refl; digit = refl; quote = λ e. absurd (omega (arith, e)) }) refl (λ lt. refl)) (omega arith) says

-- ---- lines

end_sign : (ts : List What) (more : List ℕ) → IsEnd more → IsEnd (line AfterSign ts ++ more)
end_sign [] more end = end
end_sign (Symbol sign.Open ∷ ts) more end = apart_blank
end_sign (Symbol sign.Close ∷ ts) more end = apart_close
end_sign (Symbol sign.Comma ∷ ts) more end = apart_comma
end_sign (Symbol sign.Semicolon ∷ ts) more end = apart_semicolon
end_sign (Symbol sign.Star ∷ ts) more end = apart_blank
end_sign (Symbol sign.Equal ∷ ts) more end = apart_blank
end_sign (Symbol sign.NotEqual ∷ ts) more end = apart_blank
end_sign (Symbol sign.Less ∷ ts) more end = apart_blank
end_sign (Symbol sign.LessEqual ∷ ts) more end = apart_blank
end_sign (Symbol sign.Greater ∷ ts) more end = apart_blank
end_sign (Symbol sign.GreaterEqual ∷ ts) more end = apart_blank
end_sign (Symbol sign.Plus ∷ ts) more end = apart_blank
end_sign (Symbol sign.Minus ∷ ts) more end = apart_blank
end_sign (Keyed k ∷ ts) more end = apart_blank
end_sign (Name n ∷ ts) more end = apart_blank
end_sign (Digits d ∷ ts) more end = apart_blank
end_sign (Text t ∷ ts) more end = apart_blank
end_sign (Stray ∷ ts) more end = apart_blank

end_word : (ts : List What) (more : List ℕ) → IsEnd more → IsEnd (line Word ts ++ more)
end_word [] more end = end
end_word (Symbol sign.Open ∷ ts) more end = apart_blank
end_word (Symbol sign.Close ∷ ts) more end = apart_close
end_word (Symbol sign.Comma ∷ ts) more end = apart_comma
end_word (Symbol sign.Semicolon ∷ ts) more end = apart_semicolon
end_word (Symbol sign.Star ∷ ts) more end = apart_blank
end_word (Symbol sign.Equal ∷ ts) more end = apart_blank
end_word (Symbol sign.NotEqual ∷ ts) more end = apart_blank
end_word (Symbol sign.Less ∷ ts) more end = apart_blank
end_word (Symbol sign.LessEqual ∷ ts) more end = apart_blank
end_word (Symbol sign.Greater ∷ ts) more end = apart_blank
end_word (Symbol sign.GreaterEqual ∷ ts) more end = apart_blank
end_word (Symbol sign.Plus ∷ ts) more end = apart_blank
end_word (Symbol sign.Minus ∷ ts) more end = apart_blank
end_word (Keyed k ∷ ts) more end = apart_blank
end_word (Name n ∷ ts) more end = apart_blank
end_word (Digits d ∷ ts) more end = apart_blank
end_word (Text t ∷ ts) more end = apart_blank
end_word (Stray ∷ ts) more end = apart_blank

-- a token and what follows it on the line
first_says : (before : Before) (t : What) (ts us : List What) (more : List ℕ) → IsWritten t → IsEnd more
    → Says (line (behind before t) ts ++ more) us → Says (token_text t ++ (line (behind before t) ts ++ more)) (t ∷ us)
first_says before (Symbol sign.Open) ts us more e end says = says_open (line Start ts ++ more) us says
first_says before (Symbol sign.Minus) ts us more e end says = says_minus (line (behind before (Symbol sign.Minus)) ts ++ more) us says
first_says before (Symbol sign.Close) ts us more e end says = says_written (token_text (Symbol sign.Close)) (line AfterSign ts ++ more) (Symbol sign.Close) us e (end_sign ts more end) says
first_says before (Symbol sign.Comma) ts us more e end says = says_written (token_text (Symbol sign.Comma)) (line AfterSign ts ++ more) (Symbol sign.Comma) us e (end_sign ts more end) says
first_says before (Symbol sign.Semicolon) ts us more e end says = says_written (token_text (Symbol sign.Semicolon)) (line AfterSign ts ++ more) (Symbol sign.Semicolon) us e (end_sign ts more end) says
first_says before (Symbol sign.Star) ts us more e end says = says_written (token_text (Symbol sign.Star)) (line AfterSign ts ++ more) (Symbol sign.Star) us e (end_sign ts more end) says
first_says before (Symbol sign.Equal) ts us more e end says = says_written (token_text (Symbol sign.Equal)) (line AfterSign ts ++ more) (Symbol sign.Equal) us e (end_sign ts more end) says
first_says before (Symbol sign.NotEqual) ts us more e end says = says_written (token_text (Symbol sign.NotEqual)) (line AfterSign ts ++ more) (Symbol sign.NotEqual) us e (end_sign ts more end) says
first_says before (Symbol sign.Less) ts us more e end says = says_written (token_text (Symbol sign.Less)) (line AfterSign ts ++ more) (Symbol sign.Less) us e (end_sign ts more end) says
first_says before (Symbol sign.LessEqual) ts us more e end says = says_written (token_text (Symbol sign.LessEqual)) (line AfterSign ts ++ more) (Symbol sign.LessEqual) us e (end_sign ts more end) says
first_says before (Symbol sign.Greater) ts us more e end says = says_written (token_text (Symbol sign.Greater)) (line AfterSign ts ++ more) (Symbol sign.Greater) us e (end_sign ts more end) says
first_says before (Symbol sign.GreaterEqual) ts us more e end says = says_written (token_text (Symbol sign.GreaterEqual)) (line AfterSign ts ++ more) (Symbol sign.GreaterEqual) us e (end_sign ts more end) says
first_says before (Symbol sign.Plus) ts us more e end says = says_written (token_text (Symbol sign.Plus)) (line AfterSign ts ++ more) (Symbol sign.Plus) us e (end_sign ts more end) says
first_says before (Keyed k) ts us more e end says = says_written (token_text (Keyed k)) (line Word ts ++ more) (Keyed k) us e (end_word ts more end) says
first_says before (Name n) ts us more e end says = says_written n (line Word ts ++ more) (Name n) us e (end_word ts more end) says
first_says before (Digits d) ts us more e end says = says_written d (line Word ts ++ more) (Digits d) us e (end_word ts more end) says
first_says before (Text t) ts us more e end says = says_written (token_text (Text t)) (line Word ts ++ more) (Text t) us e (end_word ts more end) says
first_says before Stray ts us more e end says = let none = sym no_token ∙ e in absurd cc

space_says : (before : Before) (t : What) (bytes : List ℕ) (ts : List What) → Says bytes ts → Says (space before t ++ bytes) ts
space_says Start t bytes ts says = says
space_says AfterSign t bytes ts says = elim (decide (follows t)) [
  | inl h ↦ rw h says
  | inr h ↦ rw h (says_blank 32 bytes ts refl says)
]
space_says Word t bytes ts says = elim (decide (follows t)) [
  | inl h ↦ rw h says
  | inr h ↦ rw h (says_blank 32 bytes ts refl says)
]

line_says : (before : Before) (ts us : List What) (more : List ℕ) → AllByRecursion IsWritten ts → IsEnd more → Says more us → Says (line before ts ++ more) (ts ++ us)
line_says before [] us more all end says = says
line_says before (t ∷ ts) us more all end says =
    let next : List ℕ = line (behind before t) ts in
    let parts : ((space before t ++ token_text t) ++ next) ++ more ≡ space before t ++ (token_text t ++ (next ++ more)) =
    append_assoc (space before t ++ token_text t) next more ∙ append_assoc (space before t) (token_text t) (next ++ more) in
    subst (λ l. Says l (t ∷ (ts ++ us))) (sym parts)
    (space_says before t (token_text t ++ (next ++ more)) (t ∷ (ts ++ us))
    (first_says before t ts (ts ++ us) more all.0 end (line_says (behind before t) ts us more all.1 end says)))

lines_say : (list : List (List What)) → AllByRecursion (AllByRecursion IsWritten) list → Says (lines list) (flat_map (λ ts. ts) list)
lines_say [] all = says_nothing
lines_say (ts ∷ list) all =
    subst (λ l. Says l (ts ++ flat_map (λ us. us) list)) (sym (append_assoc (line Start ts) (10 ∷ []) (lines list)))
    (line_says Start ts (flat_map (λ us. us) list) (10 ∷ lines list) all.0 apart_line (says_blank 10 (lines list) (flat_map (λ us. us) list) refl (lines_say list all.1)))

pub lines_are_said : (list : List (List What)) → AllByRecursion (AllByRecursion IsWritten) list → said (tokens_of (lines list)) ≡ flat_map (λ ts. ts) list
lines_are_said list all = lines_say list all (length (lines list)) 0 (omega arith)
