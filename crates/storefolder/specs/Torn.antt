-- What is left of a block whose write was cut short. Room is written ahead as zeros, and `slice_index` is 0 behind the end.
use Rattle.std.specs.Prelude.{◌≡◌, ◌≢◌, ℕ, ◌<◌, List, [], ◌++◌, length, slice_index, ◌⊎◌, decimal}
use Rattle.flight.specs.Ranges.{IsNumber}
use Rattle.flight.specs.Reading.{Lacks}
use Rattle.journal.specs.Blocks.{IsBody, framed_text, block_text}

-- ---- what a write leaves

abbrev pub AreZeros : List ℕ → Type 0
AreZeros bytes = (i : ℕ) → slice_index bytes i ≡ 0

-- the beginning of a block, with zeros behind it
abbrev pub IsCutBlock : List ℕ → Type 0
IsCutBlock left = (before : ℕ) × (body front back zeros : List ℕ) × IsNumber before × IsBody body × (front ++ back ≡ block_text before body []) × (back ≢ []) × AreZeros zeros
    × (left ≡ front ++ zeros)

-- each byte is as it was written or zero still, and one of the block's is zero
pub record IsLeftOf (block others left : List ℕ) : Type 0 where
  pub parts : (i : ℕ) → (slice_index left i ≡ slice_index (block ++ others) i) ⊎ (slice_index left i ≡ 0)
  pub lack : (i : ℕ) × (i < length block) × (slice_index left i ≡ 0)

-- parts of a block, and of others that were written behind it
abbrev pub IsLeftOfBlock : List ℕ → Type 0
IsLeftOfBlock left = (before : ℕ) × (body others : List ℕ) × IsNumber before × IsBody body × IsLeftOf (block_text before body []) others left

-- ---- what no write leaves

-- a block that is all there, whatever its sum and what follows, with no zero in it
abbrev pub IsFullBlock : List ℕ → Type 0
IsFullBlock left = (sum : ℕ) × (body rest : List ℕ) × IsNumber sum × IsNumber (length body) × Lacks 0 body × (left ≡ framed_text sum body rest)

-- ---- what is taken for torn

-- nothing yet, or a number
abbrev pub BeginsNumber : List ℕ → Type 0
BeginsNumber word = (word ≡ []) ⊎ ((number : ℕ) × IsNumber number × (word ≡ decimal number))

-- a block begins so, whatever its sum, and more of it follows
abbrev pub BeginsBlock : List ℕ → Type 0
BeginsBlock front = (sum : ℕ) × (body back : List ℕ) × IsNumber sum × IsNumber (length body) × (front ++ back ≡ framed_text sum body []) × (back ≢ [])

-- a block begins so, and then there is a zero or nothing
abbrev pub IsTorn : List ℕ → Type 0
IsTorn left = (front rest : List ℕ) × BeginsBlock front × (slice_index rest 0 ≡ 0) × (left ≡ front ++ rest)
