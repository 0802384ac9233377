-- How flights grow.
use Rattle.std.specs.Prelude.{◌≡◌, ◌≢◌, ◌⊎◌, ℕ, List, [], ◌∷◌, ◌++◌, length, take}
use Rattle.sha2.specs.Sha256.{sha256}
use Rattle.model.specs.Lists.{IsBeginning}
use Rattle.flight.specs.Contents.{FlightContents, LifeContents}
use Rattle.flight.specs.declared.life.Ending.TheVariants.{Up}
use Rattle.beginnings.specs.Stems.{said, stem_of}

-- what stays of the second one begins with what stays of the first, and its answers with those of the first
abbrev pub GoesOn : FlightContents → FlightContents → Type 0
GoesOn f g = IsBeginning (stem_of f) (stem_of g) × IsBeginning f.answers g.answers

-- a life is the same, or was up, began the same, and has the same first steps
abbrev pub IsLonger : LifeContents → LifeContents → Type 0
IsLonger l m = (l ≡ m) ⊎ ((l.ending ≡ Up) × (l.opening ≡ m.opening) × IsBeginning l.steps m.steps)

-- The same file in its heads; all lives but the last are the same, the last one may be longer, and more lives and answers may follow.
pub record IsGrown (f g : FlightContents) : Type 0 where
  pub version : f.version ≡ g.version
  pub node : f.node ≡ g.node
  pub members : f.members ≡ g.members
  pub schema : f.schema ≡ g.schema
  pub front : List LifeContents
  pub last : LifeContents
  pub longer : LifeContents
  pub later : List LifeContents
  pub lives : f.lives ≡ front ++ last ∷ []
  pub led : g.lives ≡ front ++ longer ∷ later
  pub goes_on : IsLonger last longer
  pub answers : IsBeginning f.answers g.answers

-- the second one has the bytes that stay of the first, and its answers as they stand in the file
abbrev pub IsSeenAgain : FlightContents → FlightContents → Type 0
IsSeenAgain f g = (take (length (stem_of f)) (stem_of g) ≡ stem_of f) × (said (take (length f.answers) g.answers) ≡ said f.answers)

-- two different texts have the same digest
abbrev pub Collide : Type 0
Collide = (one : List ℕ) × (other : List ℕ) × (one ≢ other) × (sha256 one ≡ sha256 other)
