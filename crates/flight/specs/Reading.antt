-- What a reader tells of a text.
use Rattle.std.specs.Prelude.{◌≡◌, ◌≢◌, ℕ, ◌<◌, List, ◌++◌, length, get_or, ◌⊎◌}
use Rattle.fault.specs.declared.refusal.Refusal.{Refusal}
use Rattle.fault.specs.declared.refusal.Refusal.TheVariants.{NoMemory, BadFlight}

module _ {A : Type 0} (Is : A → Type 0) (spell : A → List ℕ → List ℕ) (text : List ℕ) where
  -- the text spells this value, and then the rest
  abbrev pub Spells : A → List ℕ → Type 0
  Spells v rest = Is v × (text ≡ spell v rest)

  -- and it spells none in another way
  abbrev pub SpellsOnly : A → List ℕ → Type 0
  SpellsOnly v rest = (w : A) (other : List ℕ) → Is w → text ≡ spell w other → (w ≡ v) × (other ≡ rest)

  -- it spells none, or memory ran out
  abbrev pub IsUnread : Refusal → Type 0
  IsUnread r = (r ≡ NoMemory) ⊎ ((r ≡ BadFlight) × ((w : A) (other : List ℕ) → Is w → text ≢ spell w other))

-- of values before what fits behind them
module _ {A : Type 0} (Is : A → Type 0) (spell : A → List ℕ → List ℕ) (Fits : List ℕ → Type 0) (text : List ℕ) where
  abbrev pub SpellsOnlyTo : A → List ℕ → Type 0
  SpellsOnlyTo v rest = (w : A) (other : List ℕ) → Is w → Fits other → text ≡ spell w other → (w ≡ v) × (other ≡ rest)

  abbrev pub IsUnreadTo : Refusal → Type 0
  IsUnreadTo r = (r ≡ NoMemory) ⊎ ((r ≡ BadFlight) × ((w : A) (other : List ℕ) → Is w → Fits other → text ≢ spell w other))

-- the text does not begin with this word
abbrev pub IsNotBegun : List ℕ → List ℕ → Type 0
IsNotBegun word text = (rest : List ℕ) → text ≢ word ++ rest

-- the word is followed by this alone
abbrev pub IsAfter : List ℕ → List ℕ → List ℕ → Type 0
IsAfter word text rest = (text ≡ word ++ rest) × ((other : List ℕ) → text ≡ word ++ other → other ≡ rest)

-- this byte is none of the word's
abbrev pub Lacks : ℕ → List ℕ → Type 0
Lacks byte word = (i : ℕ) → i < length word → get_or word i 0 ≢ byte
