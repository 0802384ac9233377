-- Tokens in which each text behind DATE is a date, and each name is one.
use Rattle.std.proofs.Common.{◌≡◌, ℕ, suc, ◌+◌, ◌-◌, append-nil, true, false, Bool, List, [], ◌∷◌, ◌++◌, length, take, drop, eqb, Option, Some, None, refl, sym, ap, subst, ◌∙◌, append_assoc, arith, inl, inr}
use Rattle.std.specs.Prelude.{◌||◌, ◌&&◌, codes, nat_le}
use Rattle.std.specs.Char.{is_ascii_digit, is_ascii_alphabetic}
use Rattle.std.specs.List.{AllByRecursion, flat_map, join_by, list_all, list_any}
use Rattle.std.specs.Option.{option_map}
use Rattle.std.proofs.lemmas.Bool.Decides.{nat_tests}
use Rattle.sqltokens.specs.declared.token.Keyword.{Keyword}
use Rattle.sqltokens.specs.declared.token.Keyword.TheVariants.{Date}
use Rattle.sqltokens.specs.declared.token.Sign.{Sign}
use Rattle.sqltokens.specs.What.{What, Word, Symbol, Name, Digits, Text, Piece, is_word}
use Rattle.sqltokens.specs.Classes.{has_shape}
use Rattle.sqltokens.specs.Lexing.{word_or_name, keyword_of, word_what, is_word_byte, closes, sign_of, token_of, IsTokens}
use Rattle.sqltokens.specs.Syntax.{said}
use Rattle.phrase.proofs.Laws.{chosen}
use Rattle.sqltokens.proofs.Texts.{and_parts}
use Rattle.namesyntax.specs.Words.{is_name_text}
use Rattle.namesyntax.specs.Names.{Bytes}

abbrev pub Dated : List What → Type 0
Dated tokens = (before after : List What) (date : List ℕ) → tokens ≡ before ++ Word Date ∷ Text date ∷ after → has_shape (codes "dddd-dd-dd") date ≡ true

abbrev pub IsNamed : What → Type 0
IsNamed (Name n) = is_name_text n ≡ true
IsNamed w = Unit {0}

-- ---- what stands in front of dated tokens

pub record Adds (xs : List What) : Type 0 where
  pub adds : (rest : List What) → Dated rest → Dated (xs ++ rest)

dated_token : (w : What) (ts : List What) → is_word Date w ≡ false → Dated ts → Dated (w ∷ ts)
dated_token w ts plain h [] a t e = let is : w ≡ Word Date = cc in let yes = ap (is_word Date) is in absurd (let x : true ≡ false = sym yes ∙ plain in cc)
dated_token w ts plain h (x ∷ b) a t e = h b a t cc

dated_date : (d : Bytes) (ts : List What) → has_shape (codes "dddd-dd-dd") d ≡ true → Dated ts → Dated (Word Date ∷ Text d ∷ ts)
dated_date d ts shape h [] a t e = let is : d ≡ t = cc in subst (λ (v : Bytes). has_shape (codes "dddd-dd-dd") v ≡ true) is shape
dated_date d ts shape h (x ∷ b) a t e = dated_token (Text d) ts refl h b a t cc

dated_none : Dated []
dated_none [] a t e = absurd cc
dated_none (x ∷ b) a t e = absurd cc

pub adds_none : Adds []
adds_none = record { adds = λ rest r. r }

pub adds_both : (xs ys : List What) → Adds xs → Adds ys → Adds (xs ++ ys)
adds_both xs ys X Y = record { adds = λ rest r. subst Dated (sym (append_assoc xs ys rest)) (X.adds (ys ++ rest) (Y.adds rest r)) }

pub adds_date : (d : Bytes) → has_shape (codes "dddd-dd-dd") d ≡ true → Adds (Word Date ∷ Text d ∷ [])
adds_date d shape = record { adds = λ rest r. dated_date d rest shape r }

-- tokens without DATE
pub adds_plain : (xs : List What) → list_any (is_word Date) xs ≡ false → Adds xs
adds_plain [] plain = adds_none
adds_plain (w ∷ ws) plain = record { adds = λ rest r. dated_token w (ws ++ rest) (first (is_word Date w) _ plain) ((adds_plain ws (others (is_word Date w) _ plain)).adds rest r) } where
  first : (a b : Bool) → (a || b) ≡ false → a ≡ false
  first true b e = absurd cc
  first false b e = refl

  others : (a b : Bool) → (a || b) ≡ false → b ≡ false
  others true b e = absurd cc
  others false b e = e

pub adds_all : {A : Type 0} (f : A → List What) (xs : List A) → AllByRecursion (λ x. Adds (f x)) xs → Adds (flat_map f xs)
adds_all f [] h = adds_none
adds_all f (x ∷ xs) h = adds_both (f x) (flat_map f xs) h.0 (adds_all f xs h.1)

behind : {A : Type 0} (f : A → List What) (sep : List What) → Adds sep → (xs : List A) → AllByRecursion (λ x. Adds (f x)) xs → AllByRecursion (λ x. Adds (sep ++ f x)) xs
behind f sep S [] h = tt
behind f sep S (x ∷ xs) h = (adds_both sep (f x) S h.0, behind f sep S xs h.1)

pub adds_join : {A : Type 0} (f : A → List What) (sep : List What) → list_any (is_word Date) sep ≡ false → (xs : List A) → AllByRecursion (λ x. Adds (f x)) xs → Adds (join_by f sep xs)
adds_join f sep plain [] h = adds_none
adds_join f sep plain (x ∷ xs) h = adds_both (f x) (flat_map (λ y. sep ++ f y) xs) h.0 (adds_all (λ y. sep ++ f y) xs (behind f sep (adds_plain sep plain) xs h.1))

pub dated : (xs : List What) → Adds xs → Dated xs
dated xs X = subst Dated (append-nil xs) (X.adds [] dated_none)

-- ---- parts of dated tokens whose names are names

pub record IsRight (tokens : List What) : Type 0 where
  pub dates : Dated tokens
  pub names : AllByRecursion IsNamed tokens

all_front : {A : Type 0} (P : A → Type 0) (xs ys : List A) → AllByRecursion P (xs ++ ys) → AllByRecursion P xs
all_front P [] ys h = tt
all_front P (x ∷ xs) ys h = (h.0, all_front P xs ys h.1)

all_back : {A : Type 0} (P : A → Type 0) (xs ys : List A) → AllByRecursion P (xs ++ ys) → AllByRecursion P ys
all_back P [] ys h = h
all_back P (x ∷ xs) ys h = all_back P xs ys h.1

pub right_front : (xs ys : List What) → IsRight (xs ++ ys) → IsRight xs
right_front xs ys r = record {
  dates = λ b a t e. r.dates b (a ++ ys) t (ap (λ (l : List What). l ++ ys) e ∙ append_assoc b (Word Date ∷ Text t ∷ a) ys);
  names = all_front IsNamed xs ys r.names;
}

pub dated_back : (xs ys : List What) → Dated (xs ++ ys) → Dated ys
dated_back xs ys h b a t e = h (xs ++ b) a t (ap (λ (l : List What). xs ++ l) e ∙ sym (append_assoc xs b (Word Date ∷ Text t ∷ a)))

pub right_back : (xs ys : List What) → IsRight (xs ++ ys) → IsRight ys
right_back xs ys r = record { dates = dated_back xs ys r.dates; names = all_back IsNamed xs ys r.names }

pub right_date : (d : Bytes) (ts : List What) → IsRight (Word Date ∷ Text d ∷ ts) → has_shape (codes "dddd-dd-dd") d ≡ true
right_date d ts r = r.dates [] ts d refl

pub right_name : (n : Bytes) (ts : List What) → IsRight (Name n ∷ ts) → is_name_text n ≡ true
right_name n ts r = r.names.0

pub right_all : {A : Type 0} (f : A → List What) (P : A → Type 0) → ((x : A) → IsRight (f x) → P x) → (xs : List A) → IsRight (flat_map f xs) → AllByRecursion P xs
right_all f P p [] r = tt
right_all f P p (x ∷ xs) r = (p x (right_front (f x) (flat_map f xs) r), right_all f P p xs (right_back (f x) (flat_map f xs) r))

pub right_join : {A : Type 0} (f : A → List What) (sep : List What) (P : A → Type 0) → ((x : A) → IsRight (f x) → P x) → (xs : List A) → IsRight (join_by f sep xs) → AllByRecursion P xs
right_join f sep P p [] r = tt
right_join f sep P p (x ∷ xs) r = (p x (right_front (f x) (flat_map (λ y. sep ++ f y) xs) r), right_all (λ y. sep ++ f y) P (λ y s. p y (right_back sep (f y) s)) xs (right_back (f x) (flat_map (λ y. sep ++ f y) xs) r))

-- ---- the names of a text

letter_goes_on : (b : ℕ) → is_ascii_alphabetic b ≡ true → is_word_byte b ≡ true
letter_goes_on b e = grind (arith, nat_tests)

-- a word of at most 32 bytes
word_named : (b : ℕ) (bs : List ℕ) → is_ascii_alphabetic b ≡ true → (list_all is_word_byte bs && nat_le (length bs) 31) ≡ true → is_name_text (b ∷ bs) ≡ true
word_named b bs letter e =
    let parts = and_parts (list_all is_word_byte bs) (nat_le (length bs) 31) e in
    let low : nat_le (length (b ∷ bs)) 32 ≡ true = shorter (length bs) parts.1 in
    all_three (is_ascii_alphabetic b) (is_word_byte b) (list_all is_word_byte bs) (nat_le (length (b ∷ bs)) 32) letter (letter_goes_on b letter) parts.0 low where
      shorter : (n : ℕ) → nat_le n 31 ≡ true → nat_le (suc n) 32 ≡ true
      shorter n e = grind (arith, nat_tests)

      all_three : (p q r s : Bool) → p ≡ true → q ≡ true → r ≡ true → s ≡ true → (p && (q && r) && s) ≡ true
      all_three p q r s P Q R S = rw (P, Q, R, S) refl

of_word : (b : ℕ) (bs : List ℕ) (o : Option Keyword) (t : What) → is_name_text (b ∷ bs) ≡ true → word_or_name o (b ∷ bs) ≡ t → IsNamed t
of_word b bs (Some k) t h e = subst IsNamed e tt
of_word b bs None t h e = subst IsNamed e h

of_sign : (o : Option Sign) (t : What) → option_map Symbol o ≡ Some t → IsNamed t
of_sign None t e = absurd cc
of_sign (Some s) t e = let is : Symbol s ≡ t = cc in subst IsNamed is tt

is_some : (u t : What) → Some u ≡ Some t → u ≡ t
is_some u t e = cc

token_named : (bytes : List ℕ) (t : What) → token_of bytes ≡ Some t → IsNamed t
unfolding token_of
token_named [] t e = absurd cc
token_named (b ∷ bs) t e = elim (chosen (is_ascii_alphabetic b) _ _ (Some t) e) [
  | inl w ↦ elim (chosen (list_all is_word_byte bs && nat_le (length bs) 31) (Some (word_what (b ∷ bs))) None (Some t) w.1) [
    | inl v ↦ of_word b bs (keyword_of (b ∷ bs)) t (word_named b bs w.0 v.0) (is_some (word_what (b ∷ bs)) t v.1)
    | inr v ↦ absurd (let x = v.1 in cc)
  ]
  | inr w ↦ elim (chosen (is_ascii_digit b) _ _ (Some t) w.1) [
    | inl d ↦ elim (chosen (list_all is_ascii_digit bs) (Some (Digits (b ∷ bs))) None (Some t) d.1) [
      | inl v ↦ subst IsNamed (is_some (Digits (b ∷ bs)) t v.1) tt
      | inr v ↦ absurd (let x = v.1 in cc)
    ]
    | inr d ↦ elim (chosen (eqb b 39) _ _ (Some t) d.1) [
      | inl q ↦ elim (chosen (closes bs) (Some (Text (take (length bs - 1) bs))) None (Some t) q.1) [
        | inl v ↦ subst IsNamed (is_some (Text (take (length bs - 1) bs)) t v.1) tt
        | inr v ↦ absurd (let x = v.1 in cc)
      ]
      | inr q ↦ of_sign (sign_of (b ∷ bs)) t q.1
    ]
  ]
]

pub tokens_named : (text : List ℕ) (from : ℕ) (ts : List Piece) → IsTokens text from ts → AllByRecursion IsNamed (said ts)
tokens_named text from [] h = tt
tokens_named text from (t ∷ ts) h = elim h.1 [
  | inl found ↦ (token_named (take found.0 (drop t.at text)) t.what found.1.is, tokens_named text (t.at + found.0) ts found.2)
  | inr none ↦ (subst IsNamed (sym none.1) tt, subst (λ (us : List Piece). AllByRecursion IsNamed (said us)) (sym none.2) tt)
]
