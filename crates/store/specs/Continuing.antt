-- How a journal goes on.
use Rattle.std.specs.Prelude.{◌≡◌, ◌≢◌, ℕ, ℤ, Option, Some, None, List, [], ◌∷◌, ◌++◌, All, IsSome, string_bytes}
use Rattle.std.specs.Io.KnownBytes.{append_known}
use Rattle.journal.specs.declared.line.Line.{Line}
use Rattle.flight.specs.declared.outcome.Outcome.{Outcome}
use Rattle.journal.specs.Blocks.{block_text, blocks_text, last_sum}
use Rattle.store.specs.declared.scribe.Scribe.{Scribe}
use Rattle.store.specs.Journals.{IsOpened}
use Rattle.store.specs.Lines.{Lines, lines_in, no_lines, one_block, waiting}
use Rattle.store.specs.Recording.{IsQuiet, IsSilent, NobodySays, last_reading}
use Rattle.store.specs.Writing.{lines_text}

-- the bodies of blocks with these lines, the first one behind what a buffer had
abbrev pub bodies_of : List ℕ → List (List Line) → List (List ℕ)
bodies_of buffer [] = []
bodies_of buffer (group ∷ groups) = (buffer ++ lines_text group) ∷ bodies_of [] groups

-- what the buffer has once these are written and the rest came
abbrev pub left_of : List ℕ → List (List Line) → List Line → List ℕ
left_of buffer [] rest = buffer ++ lines_text rest
left_of buffer (group ∷ groups) rest = left_of [] groups rest

module _ {J : Type 0} where
  -- Lines came to a journal: each group went whole to the device, in one block with the sum of the one before it; the first block begins with
  -- what was in the buffer, and no block is empty. The rest is still in the buffer or, after an error, a beginning of its block at most is on
  -- the device.
  pub record Continues (contents : J → Option (List ℕ)) (s t : Scribe J) (lines : Lines) : Type 0 where
    pub front : List ℕ
    pub back : List ℕ
    pub filled : All (λ (body : List ℕ). body ≢ []) (bodies_of (string_bytes s.buffer) lines.groups)
    pub torn : block_text (last_sum s.sum (bodies_of (string_bytes s.buffer) lines.groups)) (left_of (string_bytes s.buffer) lines.groups lines.rest) [] ≡ front ++ back
    pub device : contents t.device ≡ append_known (contents s.device) (blocks_text s.sum (bodies_of (string_bytes s.buffer) lines.groups) front)
    pub live : t.failure ≡ None → (front ≡ []) × (string_bytes t.buffer ≡ left_of (string_bytes s.buffer) lines.groups lines.rest) × (t.sum ≡ last_sum s.sum (bodies_of (string_bytes s.buffer) lines.groups))
    pub reading : t.reading ≡ last_reading s.reading (lines_in lines)
    pub spent : IsSome s.failure → (t ≡ s) × (lines ≡ no_lines)

  -- the same of a journal that may be away
  abbrev pub IsContinued : (contents : J → Option (List ℕ)) → Option (Scribe J) → Option (Scribe J) → Lines → Type 0
  IsContinued contents None new lines = (new ≡ None) × (lines ≡ no_lines)
  IsContinued contents (Some s) None lines = ⊥
  IsContinued contents (Some s) (Some t) lines = Continues contents s t lines

  -- lines came to it that record no event, and where they end steps, have what members say
  abbrev pub IsKeptSo : (contents : J → Option (List ℕ)) → (ℕ → List Outcome → Type 0) → Option (Scribe J) → Option (Scribe J) → Type 0
  IsKeptSo contents says old new = (lines : Lines) × All (IsQuiet says) (lines_in lines) × IsContinued contents old new lines

  -- lines came to it that record no event and end no step
  abbrev pub IsKeptOn : (contents : J → Option (List ℕ)) → Option (Scribe J) → Option (Scribe J) → Type 0
  IsKeptOn contents old new = IsKeptSo contents NobodySays old new

  -- and none of them went to the device
  abbrev pub IsUnfiled : (contents : J → Option (List ℕ)) → Option (Scribe J) → Option (Scribe J) → Type 0
  IsUnfiled contents old new = (lines : List Line) × All IsSilent lines × IsContinued contents old new (waiting lines)

  -- what was in the buffer, if anything was, is on the device as one block more
  abbrev pub IsBlockWritten : (contents : J → Option (List ℕ)) → Scribe J → Scribe J → Type 0
  IsBlockWritten contents s t = (string_bytes s.buffer ≡ [] → Continues contents s t no_lines) × (string_bytes s.buffer ≢ [] → Continues contents s t (one_block []))

  -- what clocks showed last, as it says
  abbrev pub reading_in : Option (Scribe J) → Option ℤ
  reading_in None = None
  reading_in (Some s) = s.reading

  -- a block opened a journal, which then went on
  abbrev pub HasBegun : (contents : J → Option (List ℕ)) → Scribe J → Option (Scribe J) → (journal marks : ℕ) → Type 0
  HasBegun contents s new journal marks = (mid : Option (Scribe J)) × IsOpened contents (Some s) mid journal marks × ((lines : Lines) × IsContinued contents mid new lines)
