-- The journal of a store: a scribe, none while it is away.
use Rattle.std.specs.Prelude.{◌≡◌, ℕ, Option, Some, None, List, [], ◌++◌, IsSome, ⊤, string_bytes}
use Rattle.flight.specs.Additions.{Adds}
use Rattle.journal.specs.declared.line.Line.{Line}
use Rattle.journal.specs.declared.line.Line.TheVariants.{Answer, Opens}
use Rattle.fault.specs.Refusal.{shown}
use Rattle.fault.specs.declared.refusal.Refusal.TheVariants.{NotClosed}
use Rattle.store.specs.declared.refusal.StoreRefusal.{StoreRefusal}
use Rattle.store.specs.declared.refusal.StoreRefusal.TheVariants.{Refused}
use Rattle.journal.specs.Spelling.{line_text}
use Rattle.store.specs.declared.scribe.Scribe.{Scribe}
use Rattle.journal.specs.Blocks.{block_text}
use Rattle.store.specs.Writing.{AppendsPart, IsWritten, IsLastWritten, with_line}

module _ {J : Type 0} where
  -- it can't be written any more
  abbrev pub IsSpent : Option (Scribe J) → Type 0
  IsSpent None = ⊤
  IsSpent (Some s) = IsSome s.failure

  -- a line went to the buffer, and nothing to the device
  abbrev pub IsAdded : Option (Scribe J) → Option (Scribe J) → Line → Type 0
  IsAdded None new line = ⊥
  IsAdded (Some s) None line = ⊥
  IsAdded (Some s) (Some t) line = Adds (string_bytes s.buffer) (string_bytes t.buffer) (line_text line) × (t.device ≡ s.device) × (t.sum ≡ s.sum)

  -- the buffer ends with this line
  abbrev pub HasLast : Option (Scribe J) → Line → Type 0
  HasLast None line = ⊥
  HasLast (Some s) line = (before : List ℕ) × (string_bytes s.buffer ≡ with_line before line)

  -- the buffer has more at its end, and nothing went to the device
  abbrev pub IsLonger : Option (Scribe J) → Option (Scribe J) → Type 0
  IsLonger None new = new ≡ None
  IsLonger (Some s) None = ⊥
  IsLonger (Some s) (Some t) = (more : List ℕ) × (string_bytes t.buffer ≡ string_bytes s.buffer ++ more) × (t.device ≡ s.device) × (t.sum ≡ s.sum)

  -- a block went to the device of which the first line opens this journal and names the sum of the block before; nothing was in the buffer
  abbrev pub IsOpened : (J → Option (List ℕ)) → Option (Scribe J) → Option (Scribe J) → (journal marks : ℕ) → Type 0
  IsOpened contents None new journal marks = ⊥
  IsOpened contents (Some s) None journal marks = ⊥
  IsOpened contents (Some s) (Some t) journal marks = string_bytes s.buffer ≡ [] → (more : List ℕ) × IsWritten (contents s.device) (contents t.device) s.sum (line_text (Opens journal s.sum marks) more)

  -- what was in the buffer is on the device
  abbrev pub IsFlushed : (J → Option (List ℕ)) → Option (Scribe J) → Option (Scribe J) → Type 0
  IsFlushed contents None new = ⊥
  IsFlushed contents (Some s) None = ⊥
  IsFlushed contents (Some s) (Some t) = IsWritten (contents s.device) (contents t.device) s.sum (string_bytes s.buffer) × (string_bytes t.buffer ≡ [])

  -- the device of a journal
  abbrev pub device_in : Option (Scribe J) → Option J
  device_in None = None
  device_in (Some s) = Some s.device

  -- what was in the buffer, and more behind it, is on this device
  abbrev pub IsAllOn : (J → Option (List ℕ)) → Option (Scribe J) → Option J → Type 0
  IsAllOn contents None device = ⊥
  IsAllOn contents (Some s) None = ⊥
  IsAllOn contents (Some s) (Some device) = (more : List ℕ) × IsWritten (contents s.device) (contents device) s.sum (string_bytes s.buffer ++ more)

  -- a beginning at most of the block of that is on this device
  abbrev pub IsPartOn : (J → Option (List ℕ)) → Option (Scribe J) → Option J → Type 0
  IsPartOn contents None device = device ≡ None
  IsPartOn contents (Some s) None = ⊥
  IsPartOn contents (Some s) (Some device) = (more : List ℕ) × AppendsPart (contents s.device) (contents device) (block_text s.sum (string_bytes s.buffer ++ more) [])

  -- the last line that is on the device is this one, and nothing is left in the buffer
  abbrev pub EndsWith : (J → Option (List ℕ)) → Option (Scribe J) → Line → Type 0
  EndsWith contents None line = ⊥
  EndsWith contents (Some s) line = IsLastWritten (contents s.device) line × (string_bytes s.buffer ≡ [])

  -- what its device holds outlasts a power cut
  abbrev pub IsSettled : (J → Type 0) → Option (Scribe J) → Type 0
  IsSettled settled None = ⊥
  IsSettled settled (Some s) = settled s.device

  -- where a question is refused 33, that is the last line on the device
  abbrev pub IsUnclosed : (J → Option (List ℕ)) → Option (Scribe J) → (member : ℕ) (question : List ℕ) → StoreRefusal → Type 0
  IsUnclosed contents s member question r = (closed : Option (List ℕ)) → r ≡ Refused (NotClosed closed) → EndsWith contents s (Answer member question (shown (NotClosed closed)))
