-- How tokens are written on a line: with one space between them, save where a sign stands close to its neighbour.
use Rattle.std.specs.Prelude.{ℕ, Bool, true, false, if◌then◌else◌, List, [], ◌∷◌, ◌++◌, find, codes}
use Rattle.std.specs.Option.{option_map_or}
use denote.Enum.Bare.{sameb}
use Rattle.sqltokens.specs.contracts.token.Keyword as keywords
use Rattle.sqltokens.specs.declared.token.Keyword.{Keyword}
use Rattle.sqltokens.specs.declared.token.Sign.{Sign as SignToken}
use Rattle.sqltokens.specs.declared.token.Sign.TheVariants as sign
use Rattle.sqltokens.specs.declared.token.TheConstants.{KEYWORDS}
use Rattle.sqltokens.specs.What.{What, Word as Keyed, Symbol, Name, Digits, Text, Stray}

-- ---- tokens

-- a keyword in upper case
abbrev pub word_text : Keyword → List ℕ
word_text word = option_map_or (λ k. k.0.now) (find (λ k. sameb keywords.the_type k.1 word) KEYWORDS) []

abbrev pub sign_text : SignToken → List ℕ
sign_text sign.Open = codes "("
sign_text sign.Close = codes ")"
sign_text sign.Comma = codes ","
sign_text sign.Semicolon = codes ";"
sign_text sign.Star = codes "*"
sign_text sign.Equal = codes "="
sign_text sign.NotEqual = codes "<>"
sign_text sign.Less = codes "<"
sign_text sign.LessEqual = codes "<="
sign_text sign.Greater = codes ">"
sign_text sign.GreaterEqual = codes ">="
sign_text sign.Plus = codes "+"
sign_text sign.Minus = codes "-"

-- the bytes of a token: of a text what stands between its quotes, which are 39
abbrev pub token_text : What → List ℕ
token_text (Keyed k) = word_text k
token_text (Symbol s) = sign_text s
token_text (Name n) = n
token_text (Digits d) = d
token_text (Text t) = 39 ∷ t ++ 39 ∷ []
token_text Stray = []

-- ---- spaces

-- what stands before a token: nothing to be kept apart from, which is so at the start, behind "(" and behind the minus
-- of a number; or another sign; or a word, a name, digits or a text
pub data Before : Type 0 where
  Start : Before
  Sign : Before
  Word : Before

-- a minus behind a sign is that of a number
abbrev pub behind_minus : Before → Before
behind_minus Start = Start
behind_minus Sign = Start
behind_minus Word = Sign

abbrev pub behind_sign : Before → SignToken → Before
behind_sign before sign.Open = Start
behind_sign before sign.Minus = behind_minus before
behind_sign before s = Sign

abbrev pub behind : Before → What → Before
behind before (Symbol s) = behind_sign before s
behind before what = Word

-- these follow what stands before them at once
abbrev pub follows : What → Bool
follows (Symbol sign.Comma) = true
follows (Symbol sign.Semicolon) = true
follows (Symbol sign.Close) = true
follows what = false

abbrev pub space : Before → What → List ℕ
space Start what = []
space Sign what = if follows what then [] else codes " "
space Word what = if follows what then [] else codes " "

-- the tokens with the spaces before them
abbrev pub line : Before → List What → List ℕ
line before [] = []
line before (t ∷ ts) = space before t ++ token_text t ++ line (behind before t) ts
