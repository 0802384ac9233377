-- Beginnings of flights.
use Rattle.std.specs.Prelude.{◌≡◌, ◌≢◌, ℕ, ◌≤◌, List, [], ◌∷◌, ◌++◌, length, take, ⊤}
use Rattle.sha2.specs.Sha256.{sha256}
use Rattle.flight.specs.Contents.{FlightContents}
use Rattle.beginnings.specs.Stems.{said, stem_of}
use Rattle.beginnings.specs.declared.beginning.Beginning.{Beginning}
use Rattle.beginnings.specs.declared.beginning.Found.{Found}
use Rattle.beginnings.specs.declared.beginning.Found.TheVariants.{Begins, Differs, Less}

-- that of all that a flight has: how many bytes stay, how many answers there are, and the digest of both
abbrev pub beginning_of : FlightContents → Beginning
beginning_of f = record { bytes = length (stem_of f); answers = length f.answers; digest = sha256 (stem_of f ++ said f.answers) }

-- a flight has as many bytes and answers
abbrev pub IsAsLong : FlightContents → Beginning → Type 0
IsAsLong f b = (b.bytes ≤ length (stem_of f)) × (b.answers ≤ length f.answers)

-- the digest of the first so many
abbrev pub digest_in : FlightContents → Beginning → List ℕ
digest_in f b = sha256 (take b.bytes (stem_of f) ++ said (take b.answers f.answers))

-- it has as many, and the first ones have the digest
abbrev pub HasBeginning : FlightContents → Beginning → Type 0
HasBeginning f b = IsAsLong f b × (digest_in f b ≡ b.digest)

-- what a flight is beside what was kept
abbrev pub IsFound : FlightContents → Beginning → Found → Type 0
IsFound f b Begins = HasBeginning f b
IsFound f b Differs = IsAsLong f b × (digest_in f b ≢ b.digest)
IsFound f b Less = ¬ (IsAsLong f b)

-- one by one
abbrev pub AreFound : List FlightContents → List Beginning → List Found → Type 0
AreFound [] [] [] = ⊤
AreFound [] [] (x ∷ found) = ⊥
AreFound [] (b ∷ seen) found = ⊥
AreFound (f ∷ flights) [] found = ⊥
AreFound (f ∷ flights) (b ∷ seen) [] = ⊥
AreFound (f ∷ flights) (b ∷ seen) (x ∷ found) = IsFound f b x × AreFound flights seen found
