-- How the lines of a journal are heard.
use Rattle.std.specs.Prelude.{◌≡◌, ◌≢◌, ◌+◌, ℕ, Option, Some, None, List, [], ◌∷◌, map, length}
use Rattle.std.specs.List.{flat_map}
use Rattle.flight.specs.Spelling.{each_text}
use Rattle.journal.specs.declared.line.Line.{Line}
use Rattle.journal.specs.Spelling.{line_text}
use Rattle.journal.specs.Blocks.{IsBody, IsFirst, HasNoBlock, AreWholeBlocks, block_text}
use Rattle.store.specs.declared.telling.End.{End}

-- a block with these lines
abbrev pub body_of : List Line → List ℕ
body_of lines = each_text line_text lines []

-- the first block of this text goes on from that sum: the one that is given or, where none is, the one that its first line names
abbrev pub GoesOn : Option ℕ → ℕ → List ℕ → Type 0
GoesOn (Some given) before text = before ≡ given
GoesOn None before text = (body rest : List ℕ) × IsFirst before body × (text ≡ block_text before body rest)

-- the text has no first block
abbrev pub HasNoFirst : Option ℕ → List ℕ → Type 0
HasNoFirst (Some given) text = HasNoBlock given text
HasNoFirst None text = (before : ℕ) (body rest : List ℕ) → IsBody body → IsFirst before body → text ≢ block_text before body rest

module _ {H : Type 0} (hears : H → Line → H → Type 0) where
  -- these lines are heard, one after the other
  abbrev pub AreHeard : H → List Line → H → Type 0
  AreHeard old [] new = new ≡ old
  AreHeard old (line ∷ lines) new = (mid : H) × hears old line mid × AreHeard mid lines new

  -- the lines of each block of the text are heard, the last block has this sum, and what follows is no block
  abbrev pub IsToldTo : ℕ → List ℕ → H → H → ℕ → List ℕ → Type 0
  IsToldTo before text old new sum rest = (blocks : List (List Line)) × AreWholeBlocks before text (map body_of blocks) sum rest × AreHeard old (flat_map (λ (lines : List Line). lines) blocks) new

  -- what is told of a text, and where its whole blocks end
  abbrev pub IsTold : Option ℕ → List ℕ → H → H → Option End → Type 0
  IsTold given text old new None = HasNoFirst given text × (new ≡ old)
  IsTold given text old new (Some end) = (before : ℕ) × (rest : List ℕ) × GoesOn given before text × IsToldTo before text old new end.sum rest × (length text ≡ end.at + length rest)
