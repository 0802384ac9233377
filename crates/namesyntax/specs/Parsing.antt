-- What is returned of a text: what it spells, or its refusal.
use Rattle.std.specs.Prelude.{◌≡◌, ◌⊎◌, ℕ, ◌-◌, ◌≤◌, List, length, Result, Ok, Err}
use Rattle.fault.specs.declared.refusal.Refusal.{Refusal}
use Rattle.fault.specs.declared.refusal.Refusal.TheVariants.{Syntax, NoMemory}
use Rattle.phrase.specs.declared.fault.ReadError.{ReadError}
use Rattle.phrase.specs.declared.fault.ReadError.TheVariants as errors
use Rattle.phrase.specs.Grammar.{Phrase}
use Rattle.sqltokens.specs.What.{What, Piece}
use Rattle.sqltokens.specs.Syntax.{place, spelled_in}

abbrev pub or_syntax : {A : Type 0} → Result A ℕ → Result A Refusal
or_syntax (Ok form) = Ok form
or_syntax (Err at) = Err (Syntax at)

-- what the text spells, or the place of the first token after which no text of the grammar goes on
abbrev pub parsed : {A : Type 0} → Phrase What A → List ℕ → Result A Refusal
parsed p text = or_syntax (spelled_in p text)

-- what a function returned, seen by view, is the answer, unless memory ran out
abbrev pub GivesInMemory : {X Y : Type 0} → (X → Y) → Result X Refusal → Result Y Refusal → Type 0
GivesInMemory view (Ok x) answer = answer ≡ Ok (view x)
GivesInMemory view (Err r) answer = (r ≡ NoMemory) ⊎ (answer ≡ Err r)

-- ---- the refusal of tokens that spell nothing

-- no more tokens are left than there are
abbrev pub IsWithin : ReadError → ℕ → Type 0
IsWithin errors.Memory count = Unit {0}
IsWithin (errors.Wrong left) count = left ≤ count

-- the place of the token from which on so many are left, or the end of the text
abbrev pub refusal_of : ReadError → List Piece → ℕ → Refusal
refusal_of errors.Memory tokens end = NoMemory
refusal_of (errors.Wrong left) tokens end = Syntax (place tokens (length tokens - left) end)
