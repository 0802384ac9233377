-- Which texts say what, and where a text goes wrong.
use Rattle.std.specs.Prelude.{◌≡◌, ◌↔◌, ℕ, zero, suc, ◌+◌, ◌-◌, ◌<◌, ◌≤◌, List, [], ◌∷◌, ◌++◌, length, map, take, Result, Ok, Err}
use Rattle.sqltokens.specs.What.{What, Piece}
use Rattle.sqltokens.specs.Lexing.{IsTokens, tokens_of}
use Rattle.phrase.specs.Grammar.{◌>>=◌, Phrase}

abbrev pub said : List Piece → List What
said ts = map (λ t. t.what) ts

-- the tokens of the text are the spelling of the value
pub record Spells {A : Type 0} (p : Phrase What A) (text : List ℕ) (a : A) : Type 0 where
  pub tokens : List Piece
  pub are_tokens : IsTokens text 0 tokens
  pub fits : p.fits a
  pub spelled : said tokens ≡ p.spell a

-- some spelling goes on from these tokens
pub record GoesOn {A : Type 0} (p : Phrase What A) (front : List What) : Type 0 where
  pub value : A
  pub ending : List What
  pub fits : p.fits value
  pub spelled : p.spell value ≡ front ++ ending

-- where the token with this number begins, or the end of the text
abbrev pub place : List Piece → ℕ → ℕ → ℕ
place [] n end = end
place (t ∷ ts) zero end = t.at
place (t ∷ ts) (suc n) end = place ts n end

-- the text says nothing, and this is the first place at which that shows: no spelling goes on after the token there, or the text ends there
pub record IsWrongAt {A : Type 0} (p : Phrase What A) (text : List ℕ) (at : ℕ) : Type 0 where
  pub tokens : List Piece
  pub are_tokens : IsTokens text 0 tokens
  pub says_nothing : (a : A) → p.fits a → said tokens ≡ p.spell a → ⊥
  pub count : ℕ
  pub within : count ≤ length tokens
  pub at_is : at ≡ place tokens count (length text)
  pub goes_on : GoesOn p (take count (said tokens))
  pub ends : count < length tokens → GoesOn p (take (count + 1) (said tokens)) → ⊥

-- ---- reading all of the tokens

abbrev pub ended : {A : Type 0} → A → List What → Result A ℕ
ended a [] = Ok a
ended a (t ∷ ts) = Err (length (t ∷ ts))

abbrev pub all_of : {A : Type 0} → Phrase What A → List What → Result A ℕ
all_of p ts = p.read ts >>= λ x. ended x.0 x.1

-- ---- the same as a function

-- the place of the token from which on so many are left
abbrev pub at_place : {A : Type 0} → List Piece → ℕ → Result A ℕ → Result A ℕ
at_place ts end (Ok a) = Ok a
at_place ts end (Err left) = Err (place ts (length ts - left) end)

-- the value that the text spells, or the place of its syntax error
unfoldable pub spelled_in : {A : Type 0} → Phrase What A → List ℕ → Result A ℕ
spelled_in p text = at_place (tokens_of text) (length text) (all_of p (said (tokens_of text)))

-- the function gives a value just where the text spells it, and a place just where the text goes wrong there
abbrev pub IsTold : {A : Type 0} → Phrase What A → Type 0
IsTold {A} p = (text : List ℕ) → ((a : A) → Spells p text a ↔ (spelled_in p text ≡ Ok a)) × ((at : ℕ) → IsWrongAt p text at ↔ (spelled_in p text ≡ Err at))
