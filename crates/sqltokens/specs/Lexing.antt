-- The tokens of a text.
use Rattle.std.specs.Prelude.{◌≡◌, ◌≢◌, ℕ, zero, suc, ◌+◌, ◌-◌, ◌<◌, ◌≤◌, Bool, true, false, ◌||◌, ◌&&◌, if◌then◌else◌, ◌==◌, nat_le, List, [], ◌∷◌, length, map, take, drop, slice_index, Option, Some, None, ◌⊎◌}
use Rattle.std.specs.Char.{is_ascii_digit, is_ascii_alphabetic, is_ascii_alphanumeric}
use Rattle.std.specs.List.{list_all}
use Rattle.std.specs.Option.{option_map}
use Rattle.std.specs.Str.{str_eq_ignore_ascii_case}
use Rattle.sqltokens.specs.declared.token.Keyword.{Keyword}
use Rattle.sqltokens.specs.declared.token.Sign.{Sign}
use Rattle.sqltokens.specs.declared.token.Sign.TheVariants.{Open, Close, Comma, Semicolon, Star, Equal, NotEqual, Less, LessEqual, Greater, GreaterEqual, Plus, Minus}
use Rattle.sqltokens.specs.declared.token.TheConstants.{KEYWORDS}
use Rattle.sqltokens.specs.What.{What, Word, Symbol, Name, Digits, Text, Stray, Piece}

abbrev pub is_blank : ℕ → Bool
is_blank b = b == 32 || b == 9 || b == 10 || b == 13

abbrev pub is_word_byte : ℕ → Bool
is_word_byte b = is_ascii_alphanumeric b || b == 95

abbrev pub is_printable : ℕ → Bool
is_printable b = nat_le 32 b && nat_le b 126

-- ---- words

abbrev pub keyword_in : List (List ℕ × Keyword) → List ℕ → Option Keyword
keyword_in [] word = None
keyword_in (k ∷ ks) word = if str_eq_ignore_ascii_case k.0 word then Some k.1 else keyword_in ks word

unfoldable pub keyword_of : List ℕ → Option Keyword
keyword_of word = keyword_in (map (λ k. (k.0.now, k.1)) KEYWORDS) word

abbrev pub word_or_name : Option Keyword → List ℕ → What
word_or_name (Some k) word = Word k
word_or_name None word = Name word

abbrev pub word_what : List ℕ → What
word_what word = word_or_name (keyword_of word) word

-- ---- texts

-- the bytes behind a text's first quote: printable, each quote doubled, and the last quote
unfoldable pub closes : List ℕ → Bool
closes [] = false
closes (b ∷ []) = b == 39
closes (b ∷ c ∷ bs) = if b == 39 then c == 39 && closes bs else is_printable b && closes (c ∷ bs)

-- ---- signs

unfoldable pub one_sign : ℕ → Option Sign
one_sign b =
    if b == 40 then Some Open else if b == 41 then Some Close else if b == 44 then Some Comma else if b == 59 then Some Semicolon else if b == 42 then Some Star
    else if b == 61 then Some Equal else if b == 60 then Some Less else if b == 62 then Some Greater else if b == 43 then Some Plus else if b == 45 then Some Minus else None

unfoldable pub two_sign : ℕ → ℕ → Option Sign
two_sign b c =
    if b == 60 && c == 62 then Some NotEqual else if b == 60 && c == 61 then Some LessEqual else if b == 62 && c == 61 then Some GreaterEqual else None

abbrev pub sign_of : List ℕ → Option Sign
sign_of [] = None
sign_of (b ∷ []) = one_sign b
sign_of (b ∷ c ∷ []) = two_sign b c
sign_of (b ∷ c ∷ d ∷ bs) = None

-- begins no word, no digits and no text
pub record IsOther (b : ℕ) : Type 0 where
  pub letter : is_ascii_alphabetic b ≡ false
  pub digit : is_ascii_digit b ≡ false
  pub quote : b ≢ 39

-- ---- tokens

-- what these bytes are, all of them, as one token
unfoldable pub token_of : List ℕ → Option What
token_of [] = None
token_of (b ∷ bs) =
    if is_ascii_alphabetic b then (if list_all is_word_byte bs && nat_le (length bs) 31 then Some (word_what (b ∷ bs)) else None)
    else if is_ascii_digit b then (if list_all is_ascii_digit bs then Some (Digits (b ∷ bs)) else None)
    else if b == 39 then (if closes bs then Some (Text (take (length bs - 1) bs)) else None)
    else option_map Symbol (sign_of (b ∷ bs))

-- the first n bytes are this token, and no more bytes are one
pub record IsLongest (bytes : List ℕ) (n : ℕ) (what : What) : Type 0 where
  pub within : n ≤ length bytes
  pub is : token_of (take n bytes) ≡ Some what
  pub longest : (m : ℕ) → n < m → m ≤ length bytes → token_of (take m bytes) ≡ None

-- no token is at the front
abbrev pub BeginsNone : List ℕ → Type 0
BeginsNone bytes = (m : ℕ) → m ≤ length bytes → token_of (take m bytes) ≡ None

abbrev pub AreBlank : List ℕ → ℕ → ℕ → Type 0
AreBlank text from to = (k : ℕ) → from ≤ k → k < to → is_blank (slice_index text k) ≡ true

-- the next token is at the first byte that is not blank
pub record IsNext (text : List ℕ) (from at : ℕ) : Type 0 where
  pub within : (from ≤ at) × (at < length text)
  pub blank : AreBlank text from at
  pub begins : is_blank (slice_index text at) ≡ false

-- from the place on the text has these tokens, where the first byte that begins none is the last
abbrev pub IsTokens : List ℕ → ℕ → List Piece → Type 0
IsTokens text from [] = AreBlank text from (length text)
IsTokens text from (t ∷ ts) = IsNext text from t.at × (((n : ℕ) × IsLongest (drop t.at text) n t.what × IsTokens text (t.at + n) ts) ⊎ (BeginsNone (drop t.at text) × (t.what ≡ Stray) × (ts ≡ [])))

-- ---- the same as a function

-- the longest token at the front that has at most n bytes, and how many it has
unfoldable pub longest_within : ℕ → List ℕ → Option (ℕ × What)
longest_within zero bytes = None
longest_within (suc n) bytes = elim (token_of (take (suc n) bytes)) [ Some what ↦ Some (suc n, what) | None ↦ longest_within n bytes ]

-- the tokens of these bytes, which stand at a place of a text, where n of them are looked at
unfoldable pub tokens_within : ℕ → ℕ → List ℕ → List Piece
tokens_within zero at bytes = []
tokens_within (suc n) at [] = []
tokens_within (suc n) at (b ∷ bs) =
    if is_blank b then tokens_within n (at + 1) bs
    else elim (longest_within (length (b ∷ bs)) (b ∷ bs)) [
      | Some (m, what) ↦ record { what = what; at = at } ∷ tokens_within n (at + m) (drop m (b ∷ bs))
      | None ↦ record { what = Stray; at = at } ∷ []
    ]

-- the tokens of a text
abbrev pub tokens_of : List ℕ → List Piece
tokens_of text = tokens_within (length text) 0 text

-- ---- how the longest text is found

abbrev pub above : ℕ → ℕ → ℕ → ℕ
above more none zero = none
above more none (suc n) = more + suc n

-- how many of the bytes behind a quote end the longest text, 0 where there is none
unfoldable pub longest_text : List ℕ → ℕ
longest_text [] = 0
longest_text (b ∷ []) = if b == 39 then 1 else 0
longest_text (b ∷ c ∷ bs) = if b == 39 then (if c == 39 then above 2 1 (longest_text bs) else 1) else if is_printable b then above 1 0 (longest_text (c ∷ bs)) else 0
