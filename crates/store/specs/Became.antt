-- Lists whose elements become others.
use Rattle.std.specs.Prelude.{◌≡◌, ℕ, Some, List, length, slice_get, slice_set}

-- as many as these, and each stands so to the one in its place
pub record EachBecame {A B : Type 0} (turn : A → B → Type 0) (old : List A) (new : List B) : Type 0 where
  pub count : length new ≡ length old
  pub each : (i : ℕ) (before : A) (after : B) → slice_get old i ≡ Some before → slice_get new i ≡ Some after → turn before after

-- one of these became another one, which stands so to it
pub record Became {A : Type 0} (turn : A → A → Type 0) (at : ℕ) (old new : List A) : Type 0 where
  pub before : A
  pub after : A
  pub there : slice_get old at ≡ Some before
  pub now : new ≡ slice_set old at after
  pub turned : turn before after
