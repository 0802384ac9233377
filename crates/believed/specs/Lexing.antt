-- The tokens of a text.
use Rattle.std.specs.Prelude.{◌≡◌, ℕ, ◌+◌, ◌-◌, ◌<◌, ◌≤◌, true, ◌&&◌, if◌then◌else◌, ◌==◌, nat_le, List, [], ◌∷◌, length, take, drop, find, Option, Some, None, ◌⊎◌, codes, bytes_eq, option_map}
use Rattle.std.specs.Char.{is_ascii_digit, is_ascii_alphabetic}
use Rattle.std.specs.List.{list_all, prefix_len}
use Rattle.std.specs.Option.{option_map_or}
use Rattle.std.specs.Str.{str_eq_ignore_ascii_case}
use Rattle.sqltokens.specs.declared.token.Sign.{Sign}
use Rattle.sqltokens.specs.declared.token.Sign.TheVariants.{Open, Close, Comma, Semicolon, Star, Equal, NotEqual, Less, LessEqual, Greater, GreaterEqual, Plus, Minus}
use Rattle.sqltokens.specs.declared.token.TheConstants.{KEYWORDS}
use Rattle.sqltokens.specs.What.{What, Word, Symbol, Name, Digits, Text, Stray, Piece}
use Rattle.sqltokens.specs.Lexing.{is_blank, is_word_byte, closes}

-- the signs, each as it is written
abbrev pub signs : List (List ℕ × Sign)
signs = (codes "(", Open) ∷ (codes ")", Close) ∷ (codes ",", Comma) ∷ (codes ";", Semicolon) ∷ (codes "*", Star) ∷ (codes "=", Equal) ∷ (codes "<", Less)
    ∷ (codes ">", Greater) ∷ (codes "+", Plus) ∷ (codes "-", Minus) ∷ (codes "<>", NotEqual) ∷ (codes "<=", LessEqual) ∷ (codes ">=", GreaterEqual) ∷ []

-- a word is a keyword, whatever the case of its letters, or else a name
abbrev pub word_what : List ℕ → What
word_what word = option_map_or (λ k. Word k.1) (find (λ k. str_eq_ignore_ascii_case k.0.now word) KEYWORDS) (Name word)

-- what these bytes are, all of them, as one token
unfoldable pub token_of : List ℕ → Option What
token_of [] = None
token_of (b ∷ bs) =
    if is_ascii_alphabetic b then (if list_all is_word_byte bs && nat_le (length bs) 31 then Some (word_what (b ∷ bs)) else None)
    else if is_ascii_digit b then (if list_all is_ascii_digit bs then Some (Digits (b ∷ bs)) else None)
    else if b == 39 then (if closes bs then Some (Text (take (length bs - 1) bs)) else None)
    else option_map (λ s. Symbol s.1) (find (λ s. bytes_eq (b ∷ bs) s.0) signs)

-- the first n bytes are this token, and no more bytes are one
abbrev pub IsLongest : List ℕ → ℕ → What → Type 0
IsLongest bytes n what = (n ≤ length bytes) × (token_of (take n bytes) ≡ Some what) × ((m : ℕ) → n < m → m ≤ length bytes → token_of (take m bytes) ≡ None)

-- From the place on the text has these tokens, each behind the blanks there. The first byte that begins none is the last.
abbrev pub IsTokens : List ℕ → ℕ → List Piece → Type 0
IsTokens text from [] = list_all is_blank (drop from text) ≡ true
IsTokens text from (t ∷ ts) = (t.at ≡ from + prefix_len is_blank (drop from text)) × (t.at < length text)
    × (((n : ℕ) × IsLongest (drop t.at text) n t.what × IsTokens text (t.at + n) ts)
    ⊎ (((m : ℕ) → m ≤ length (drop t.at text) → token_of (take m (drop t.at text)) ≡ None) × (t.what ≡ Stray) × (ts ≡ [])))
