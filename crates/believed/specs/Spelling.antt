-- Which statements a text spells, and where it goes wrong.
use Rattle.std.specs.Prelude.{◌≡◌, ◌≢◌, ℕ, ◌+◌, ◌<◌, ◌==◌, true, if◌then◌else◌, List, [], ◌∷◌, ◌++◌, length, map, take, slice_get, codes}
use Rattle.std.specs.List.{AllByRecursion, flat_map}
use Rattle.std.specs.Option.{option_map_or}
use Rattle.std.specs.Char.{is_ascii_digit}
use Rattle.std.specs.Cmp.Lexicographic.{pointwise}
use Rattle.sqltokens.specs.declared.token.Keyword.TheVariants.{Date}
use Rattle.sqltokens.specs.What.{What, Word, Text, Piece}
use Rattle.sqlsyntax.specs.Transactions.{StatementForm}
use Rattle.sqlsyntax.specs.Spelling.{statement, IsFull}
use Rattle.believed.specs.Lexing.{IsTokens}

-- the tokens of one statement or more, where each text behind DATE has the shape of a date: a digit at each d (code 100), else the very byte
abbrev pub IsSpelling : List StatementForm → List Piece → Type 0
IsSpelling forms tokens = (map (λ t. t.what) tokens ≡ flat_map statement forms) × (forms ≢ []) × AllByRecursion IsFull forms
    × ((before after : List What) (date : List ℕ) → flat_map statement forms ≡ before ++ Word Date ∷ Text date ∷ after →
    pointwise (λ d b. if d == 100 then is_ascii_digit b else d == b) (codes "dddd-dd-dd") date ≡ true)

-- the text has tokens that are such
abbrev pub Spells : List ℕ → (List Piece → Type 0) → Type 0
Spells text Are = (tokens : List Piece) × IsTokens text 0 tokens × Are tokens

-- some that are such begin with these tokens
abbrev pub GoesOn : (List Piece → Type 0) → List Piece → Type 0
GoesOn Are front = (ending : List Piece) × Are (front ++ ending)

-- the text has none that are such, and this is the first place at which that shows: none go on after the token there, or the text
-- ends there
pub record IsWrongAt (Are : List Piece → Type 0) (text : List ℕ) (at : ℕ) : Type 0 where
  pub spells_nothing : Spells text Are → ⊥
  pub tokens : List Piece
  pub are_tokens : IsTokens text 0 tokens
  pub count : ℕ
  pub at_is : at ≡ option_map_or (λ t. t.at) (slice_get tokens count) (length text)
  pub goes_on : GoesOn Are (take count tokens)
  pub ends : count < length tokens → GoesOn Are (take (count + 1) tokens) → ⊥
