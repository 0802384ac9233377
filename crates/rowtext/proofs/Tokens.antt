-- The tokens of a text are written as they stand there, but for keywords, whose case may change.
use Rattle.std.proofs.Common.{◌≡◌, ℕ, ◌+◌, ◌-◌, true, false, List, [], ◌∷◌, ◌++◌, length, take, drop, eqb, Option, Some, None, refl, sym, ap, subst, ◌∙◌, arith, inl, inr}
use Rattle.std.specs.Prelude.{◌⊎◌}
use Rattle.std.specs.Char.{is_ascii_digit, is_ascii_alphabetic}
use Rattle.std.specs.List.{AllByRecursion}
use Rattle.std.proofs.lemmas.Bool.{eqb-true}
use borrow.Author.Tests.{eqb-false}
use Rattle.std.proofs.lemmas.List.{length-append}
use Rattle.sqltokens.specs.declared.token.Keyword.{Keyword}
use Rattle.sqltokens.specs.declared.token.Keyword.TheVariants as keyword
use Rattle.sqltokens.specs.declared.token.Sign.{Sign as SignToken}
use Rattle.sqltokens.specs.declared.token.Sign.TheVariants as sign
use Rattle.sqltokens.specs.What.{What, Piece, Word as Keyed, Symbol, Name, Digits, Text, Stray}
use Rattle.sqltokens.specs.Lexing.{word_or_name, keyword_of, word_what, is_printable, closes, sign_of, one_sign, two_sign, token_of, IsTokens}
use Rattle.sqltokens.specs.Syntax.{said}
use Rattle.rowtext.specs.Again.{IsWritten}
use Rattle.rowtext.proofs.Steps.{decided, both_true}
use Rattle.rowtext.proofs.Lexing.{word_parts, digits_parts, text_parts, sign_parts, symbol_is, no_token, take_all}

pub keyword_written : (k : Keyword) → IsWritten (Keyed k)
unfolding token_of keyword_of
keyword_written keyword.Always = refl
keyword_written keyword.And = refl
keyword_written keyword.As = refl
keyword_written keyword.Between = refl
keyword_written keyword.Contains = refl
keyword_written keyword.Create = refl
keyword_written keyword.Date = refl
keyword_written keyword.Delete = refl
keyword_written keyword.End = refl
keyword_written keyword.Equals = refl
keyword_written keyword.For = refl
keyword_written keyword.Foreign = refl
keyword_written keyword.From = refl
keyword_written keyword.Generated = refl
keyword_written keyword.Immediately = refl
keyword_written keyword.Insert = refl
keyword_written keyword.Integer = refl
keyword_written keyword.Into = refl
keyword_written keyword.Key = refl
keyword_written keyword.Of = refl
keyword_written keyword.Overlaps = refl
keyword_written keyword.Period = refl
keyword_written keyword.Portion = refl
keyword_written keyword.Precedes = refl
keyword_written keyword.Primary = refl
keyword_written keyword.References = refl
keyword_written keyword.Row = refl
keyword_written keyword.Select = refl
keyword_written keyword.Set = refl
keyword_written keyword.Start = refl
keyword_written keyword.Succeeds = refl
keyword_written keyword.System = refl
keyword_written keyword.SystemTime = refl
keyword_written keyword.Table = refl
keyword_written keyword.Timestamp = refl
keyword_written keyword.To = refl
keyword_written keyword.Update = refl
keyword_written keyword.Values = refl
keyword_written keyword.Varchar = refl
keyword_written keyword.Versioning = refl
keyword_written keyword.Where = refl
keyword_written keyword.With = refl
keyword_written keyword.Without = refl

pub sign_written : (s : SignToken) → IsWritten (Symbol s)
unfolding token_of one_sign two_sign
sign_written sign.Open = refl
sign_written sign.Close = refl
sign_written sign.Comma = refl
sign_written sign.Semicolon = refl
sign_written sign.Star = refl
sign_written sign.Equal = refl
sign_written sign.NotEqual = refl
sign_written sign.Less = refl
sign_written sign.LessEqual = refl
sign_written sign.Greater = refl
sign_written sign.GreaterEqual = refl
sign_written sign.Plus = refl
sign_written sign.Minus = refl

-- ---- texts

-- a text's bytes end in its last quote
ends_at : (bs : List ℕ) → closes bs ≡ true → (front : List ℕ) × (front ++ 39 ∷ [] ≡ bs)
unfolding closes
ends_at [] e = absurd cc
ends_at (b ∷ []) e = ([], ap (λ (c : ℕ). c ∷ []) (sym (eqb-true b 39 e)))
ends_at (b ∷ c ∷ bs) e = by (decided (eqb b 39)) (ends_at bs) (ends_at (c ∷ bs)) where
  by : (eqb b 39 ≡ true) ⊎ (eqb b 39 ≡ false) → (closes bs ≡ true → (front : List ℕ) × (front ++ 39 ∷ [] ≡ bs)) → (closes (c ∷ bs) ≡ true → (front : List ℕ) × (front ++ 39 ∷ [] ≡ c ∷ bs))
      → (front : List ℕ) × (front ++ 39 ∷ [] ≡ b ∷ c ∷ bs)
  by (inl h) two one = let rest = two (both_true (eqb c 39) (closes bs) (rw h at e)).1 in (b ∷ c ∷ rest.0, ap (λ (l : List ℕ). b ∷ c ∷ l) rest.1)
  by (inr h) two one = let rest = one (both_true (is_printable b) (closes (c ∷ bs)) (rw h at e)).1 in (b ∷ rest.0, ap (λ (l : List ℕ). b ∷ l) rest.1)

take_front : (front : List ℕ) → take (length (front ++ 39 ∷ []) - 1) (front ++ 39 ∷ []) ≡ front
take_front front =
    let long : length (front ++ 39 ∷ []) - 1 ≡ length front = omega (arith, length-append front (39 ∷ [])) in
    ap (λ (n : ℕ). take n (front ++ 39 ∷ [])) long ∙ take_all front (39 ∷ [])

last_quote : (bs : List ℕ) → closes bs ≡ true → take (length bs - 1) bs ++ 39 ∷ [] ≡ bs
last_quote bs e =
    let end = ends_at bs e in
    subst (λ (l : List ℕ). take (length l - 1) l ++ 39 ∷ [] ≡ l) end.1 (ap (λ (l : List ℕ). l ++ 39 ∷ []) (take_front end.0))

-- ---- tokens

of_word : (b : ℕ) (bs : List ℕ) (o : Option Keyword) (t : What) → keyword_of (b ∷ bs) ≡ o → word_what (b ∷ bs) ≡ t → token_of (b ∷ bs) ≡ Some t → IsWritten t
of_word b bs (Some k) t found is e =
    let what : Keyed k ≡ t = ap (λ (o : Option Keyword). word_or_name o (b ∷ bs)) (sym found) ∙ is in
    subst IsWritten what (keyword_written k)
of_word b bs None t found is e =
    let what : Name (b ∷ bs) ≡ t = ap (λ (o : Option Keyword). word_or_name o (b ∷ bs)) (sym found) ∙ is in
    subst IsWritten what (subst (λ (w : What). token_of (b ∷ bs) ≡ Some w) (sym what) e)

of_text : (bs : List ℕ) (t : What) → token_of (39 ∷ bs) ≡ Some t → IsWritten t
of_text bs t e =
    let parts = text_parts bs t e in
    let whole = last_quote bs parts.0 in
    subst IsWritten parts.1 (subst (λ (l : List ℕ). token_of (39 ∷ l) ≡ Some (Text (take (length bs - 1) bs))) (sym whole) (subst (λ (w : What). token_of (39 ∷ bs) ≡ Some w) (sym parts.1) e))

of_digits : (b : ℕ) (bs : List ℕ) (t : What) → Digits (b ∷ bs) ≡ t → token_of (b ∷ bs) ≡ Some t → IsWritten t
of_digits b bs t what e = subst IsWritten what (subst (λ (w : What). token_of (b ∷ bs) ≡ Some w) (sym what) e)

-- what some bytes are as one token is a token that is written
pub token_again : (bytes : List ℕ) (t : What) → token_of bytes ≡ Some t → IsWritten t
token_again [] t e = let none = sym no_token ∙ e in absurd cc
token_again (b ∷ bs) t e = elim (decided (is_ascii_alphabetic b)) [
  | inl letter ↦ of_word b bs (keyword_of (b ∷ bs)) t refl (word_parts b bs t letter e).2 e
  | inr no_letter ↦ elim (decided (is_ascii_digit b)) [
    | inl digit ↦ of_digits b bs t (digits_parts b bs t no_letter digit e).1 e
    | inr no_digit ↦ elim (decided (eqb b 39)) [
      | inl quote ↦ of_text bs t (subst (λ (q : ℕ). token_of (q ∷ bs) ≡ Some t) (eqb-true b 39 quote) e)
      | inr other ↦
          let m = symbol_is (sign_of (b ∷ bs)) t (sym (sign_parts b bs no_letter no_digit (eqb-false b 39 other)) ∙ e) in
          subst IsWritten (sym m.2) (sign_written m.0)
    ]
  ]
]

-- ---- the tokens of a text

abbrev pub last_of : What → List What → What
last_of t [] = t
last_of t (u ∷ us) = last_of u us

pub last_behind : (t : What) (us : List What) (v : What) → last_of t (us ++ v ∷ []) ≡ v
last_behind t [] v = refl
last_behind t (u ∷ us) v = last_behind u us v

-- a byte that begins no token could only be the last
said_written : (text : List ℕ) (from : ℕ) (ts : List Piece) → IsTokens text from ts → last_of (Symbol sign.Semicolon) (said ts) ≡ Symbol sign.Semicolon → AllByRecursion IsWritten (said ts)
said_written text from [] h e = tt
said_written text from (t ∷ ts) h e = elim h.1 [
  | inl found ↦ (token_again (take found.0 (drop t.at text)) t.what found.1.is, said_written text (t.at + found.0) ts found.2 (rest ts e))
  | inr none ↦ absurd (stray none.1 (subst (λ (us : List Piece). last_of t.what (said us) ≡ Symbol sign.Semicolon) none.2 e))
] where
  rest : (us : List Piece) → last_of t.what (said us) ≡ Symbol sign.Semicolon → last_of (Symbol sign.Semicolon) (said us) ≡ Symbol sign.Semicolon
  rest [] f = refl
  rest (u ∷ us) f = f

  stray : t.what ≡ Stray → t.what ≡ Symbol sign.Semicolon → ⊥
  stray f g = let never = sym f ∙ g in cc

pub tokens_written : (text : List ℕ) (ts : List Piece) (front : List What) → IsTokens text 0 ts → said ts ≡ front ++ Symbol sign.Semicolon ∷ [] → AllByRecursion IsWritten (said ts)
tokens_written text ts front h e = said_written text 0 ts h (ap (last_of (Symbol sign.Semicolon)) e ∙ last_behind (Symbol sign.Semicolon) front (Symbol sign.Semicolon))
