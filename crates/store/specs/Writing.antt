-- What is written to a journal.
use Rattle.std.specs.Prelude.{◌≡◌, ◌≢◌, ℕ, Option, Some, None, List, [], ◌++◌}
use Rattle.std.specs.Io.KnownBytes.{append_known}
use Rattle.journal.specs.Blocks.{block_text, sum_after}
use Rattle.journal.specs.declared.line.Line.{Line}
use Rattle.journal.specs.Spelling.{line_text}
use Rattle.flight.specs.Spelling.{each_text}

-- what is held grows by a beginning of these bytes
abbrev pub AppendsPart : Option (List ℕ) → Option (List ℕ) → List ℕ → Type 0
AppendsPart old new bytes = (front back : List ℕ) × (bytes ≡ front ++ back) × (new ≡ append_known old front)

-- the lines of a buffer are written as one block, after the block of this sum; of no lines nothing is written
abbrev pub IsWritten : Option (List ℕ) → Option (List ℕ) → ℕ → List ℕ → Type 0
IsWritten old new sum bytes = (bytes ≡ [] → new ≡ old) × (bytes ≢ [] → new ≡ append_known old (block_text sum bytes []))

-- the sum of the last block is so, once these lines are written
abbrev pub IsSummed : ℕ → ℕ → List ℕ → Type 0
IsSummed old new bytes = (bytes ≡ [] → new ≡ old) × (bytes ≢ [] → new ≡ sum_after old bytes)

-- lines, and nothing behind them
abbrev pub lines_text : List Line → List ℕ
lines_text lines = each_text line_text lines []

-- a line behind those of a buffer
abbrev pub with_line : List ℕ → Line → List ℕ
with_line buffer line = buffer ++ line_text line []

-- what is held, where that is known, ends with a block of which this is the last line
abbrev pub IsLastWritten : Option (List ℕ) → Line → Type 0
IsLastWritten None line = Unit {0}
IsLastWritten (Some held) line = (old : List ℕ) × (sum : ℕ) × (before : List ℕ) × (held ≡ old ++ block_text sum (with_line before line) [])
