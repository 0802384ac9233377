-- Blocks, of which a journal is made.
use Rattle.std.specs.Prelude.{◌≡◌, ◌≢◌, ℕ, ◌*◌, ◌<◌, ◌%◌, ◌^◌, List, [], ◌∷◌, ◌++◌, length, fold, bit_xor, All}
use Rattle.std.specs.Str.{IsUtf8}
use Rattle.flight.specs.Spelling.{spaced, ended, each_text}
use Rattle.flight.specs.Ranges.{IsNumber}
use Rattle.journal.specs.declared.line.Line.{Line}
use Rattle.journal.specs.declared.line.Line.TheVariants.{Opens}
use Rattle.journal.specs.Spelling.{line_text}
use Rattle.journal.specs.Ranges.{IsLine}

-- the sum with one byte more: FNV-1a of 64 bits
abbrev pub sum_with : ℕ → ℕ → ℕ
sum_with sum byte = (bit_xor sum byte * 1099511628211) % 2 ^ 64

abbrev pub sum_after : ℕ → List ℕ → ℕ
sum_after before bytes = fold sum_with before bytes

-- what a block can have: text, and not none
abbrev pub IsBody : List ℕ → Type 0
IsBody body = IsUtf8 body × (0 < length body) × IsNumber (length body)

-- a length, a sum, and what they are of
abbrev pub framed_text : ℕ → List ℕ → List ℕ → List ℕ
framed_text sum body rest = spaced (length body) (ended sum (body ++ rest))

-- a block with these bytes after one that has this sum
abbrev pub block_text : ℕ → List ℕ → List ℕ → List ℕ
block_text before body rest = framed_text (sum_after before body) body rest

-- a block with these lines
abbrev pub lines_block : ℕ → List Line → List ℕ → List ℕ
lines_block before lines rest = block_text before (each_text line_text lines []) rest

-- no block stands at the beginning of the text
abbrev pub HasNoBlock : ℕ → List ℕ → Type 0
HasNoBlock before text = (body rest : List ℕ) → IsBody body → text ≢ block_text before body rest

-- blocks one after the other, and the sum of the last one
abbrev pub blocks_text : ℕ → List (List ℕ) → List ℕ → List ℕ
blocks_text before [] rest = rest
blocks_text before (body ∷ bodies) rest = block_text before body (blocks_text (sum_after before body) bodies rest)

abbrev pub last_sum : ℕ → List (List ℕ) → ℕ
last_sum before bodies = fold sum_after before bodies

-- these blocks stand at the beginning of the text, and behind them, where rest is, stands no further one
abbrev pub AreWholeBlocks : ℕ → List ℕ → List (List ℕ) → ℕ → List ℕ → Type 0
AreWholeBlocks before text bodies sum rest = All IsBody bodies × (text ≡ blocks_text before bodies rest) × (sum ≡ last_sum before bodies) × HasNoBlock sum rest

-- a block of which the end is missing is none
abbrev pub TornIsNone : Type 0
TornIsNone = (before : ℕ) (body front back : List ℕ) → IsNumber before → IsBody body → front ++ back ≡ block_text before body [] → back ≢ [] → HasNoBlock before front

-- whole blocks end in one place
abbrev pub EndsOnce : Type 0
EndsOnce = (before : ℕ) (text : List ℕ) (some others : List (List ℕ)) (sum total : ℕ) (rest left : List ℕ) → IsNumber before → AreWholeBlocks before text some sum rest
    → AreWholeBlocks before text others total left → (some ≡ others) × (sum ≡ total) × (rest ≡ left)

-- the first block of a journal: its first line opens it, and names the sum of the block before
abbrev pub IsFirst : ℕ → List ℕ → Type 0
IsFirst before body = (journal marks : ℕ) × (more : List ℕ) × IsLine (Opens journal before marks) × (body ≡ line_text (Opens journal before marks) more)
