-- What a text is that is typed into an open store.
use Rattle.std.specs.Prelude.{◌≡◌, ◌⊎◌, ◌≤◌, ◌<◌, ◌^◌, ℕ, List, [], ◌∷◌, ◌++◌, Some, None, codes, decimal, map, ⊤}
use Rattle.std.specs.Char.{to_ascii_lowercase}
use Rattle.storecommands.specs.declared.text.Kind.{Kind}
use Rattle.storecommands.specs.declared.text.Kind.TheVariants.{Own, Question}

-- a letter, a digit or an underscore
abbrev pub IsNamePart : ℕ → Type 0
IsNamePart c = ((97 ≤ c) × (c ≤ 122)) ⊎ ((65 ≤ c) × (c ≤ 90)) ⊎ ((48 ≤ c) × (c ≤ 57)) ⊎ (c ≡ 95)

-- no name goes on here
abbrev pub EndsName : List ℕ → Type 0
EndsName [] = ⊤
EndsName (c ∷ rest) = ¬ IsNamePart c

-- it begins with the word SELECT, in capital or small letters
abbrev pub IsQuestion : List ℕ → Type 0
IsQuestion text = (word rest : List ℕ) × (text ≡ word ++ rest) × (map to_ascii_lowercase word ≡ codes "select") × EndsName rest

-- it begins with @
abbrev pub NamesMember : List ℕ → Type 0
NamesMember text = (rest : List ℕ) × (text ≡ codes "@" ++ rest)

-- what a text is, and its words
abbrev pub IsReadAs : List ℕ → Kind → List ℕ → Type 0
IsReadAs text Own words = (words ≡ text) × ¬ NamesMember text × ¬ IsQuestion text
IsReadAs text (Question None) words = (words ≡ text) × ¬ NamesMember text × IsQuestion text
IsReadAs text (Question (Some member)) words = (text ≡ codes "@" ++ (decimal member ++ 32 ∷ words)) × (member < 2 ^ 64) × IsQuestion words
