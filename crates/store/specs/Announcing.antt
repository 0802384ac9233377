-- What a member announces.
use Rattle.std.specs.Prelude.{◌≡◌, ℕ, Option, Some, None, List, [], ◌∷◌, string_bytes}
use Rattle.journal.specs.declared.stored.Summary.{Summary}
use Rattle.journal.specs.declared.line.Line.{Line}
use Rattle.journal.specs.declared.line.Line.TheVariants.{Saves}
use Rattle.store.specs.declared.scribe.Scribe.{Scribe}
use Rattle.store.specs.declared.voice.Voice.{Voice}
use Rattle.store.specs.Continuing.{IsContinued, IsKeptOn, IsUnfiled}
use Rattle.store.specs.Lines.{one_block}
use Rattle.store.specs.Recording.{IsSilent}
use Rattle.store.specs.Writing.{IsWritten, with_line}

module _ {J : Type 0} where
  -- what was in the buffer, and then that this is about to be stored, went to the journal as one block, and nothing is left there
  abbrev pub HasAnnounced : (J → Option (List ℕ)) → Voice J → Option (Voice J) → Summary → Type 0
  HasAnnounced contents v None s = ⊥
  HasAnnounced contents v (Some w) s = IsWritten (contents v.scribe.device) (contents w.scribe.device) v.scribe.sum (with_line (string_bytes v.scribe.buffer) (Saves v.member s)) × (string_bytes w.scribe.buffer ≡ [])

  -- A voice is there, whose journal went on from this one by lines that record no event. This holds, or one of its blocks went to the device.
  abbrev pub HasContinued : (J → Option (List ℕ)) → Scribe J → Type 0 → Option (Voice J) → Type 0
  HasContinued contents s same None = ⊥
  HasContinued contents s same (Some v) = (on : IsKeptOn contents (Some s) (Some v.scribe)) × (on.0.groups ≡ [] → same)

  -- a voice told one line that records no event, which went to the device with what was in the buffer
  abbrev pub HasFiled : (J → Option (List ℕ)) → Option (Voice J) → Option (Voice J) → Type 0
  HasFiled contents None new = new ≡ None
  HasFiled contents (Some v) None = ⊥
  HasFiled contents (Some v) (Some w) = (line : Line) × IsSilent line × IsContinued contents (Some v.scribe) (Some w.scribe) (one_block (line ∷ []))

  -- or told some at most, of which none went there
  abbrev pub HasWaited : (J → Option (List ℕ)) → Option (Voice J) → Option (Voice J) → Type 0
  HasWaited contents None new = new ≡ None
  HasWaited contents (Some v) None = ⊥
  HasWaited contents (Some v) (Some w) = IsUnfiled contents (Some v.scribe) (Some w.scribe)
