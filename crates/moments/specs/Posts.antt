-- The messages that were sent, with the marks at which they were.
use Rattle.std.specs.Prelude.{◌≡◌, ℕ, Some, List, [], ◌∷◌, map}
use Rattle.model.specs.Lists.{nth}
use Rattle.model.specs.declared.message.Message.{Message}
use Rattle.world.specs.declared.history.World.{World}
use Rattle.world.specs.declared.output.Output.{Output}
use Rattle.world.specs.declared.output.Output.TheVariants as output
use Rattle.world.specs.Run.{now_of}
use Rattle.moments.specs.Past.{Past}

-- the messages among outputs
abbrev pub messages_in : List Output → List Message
messages_in [] = []
messages_in (output.Sent number message ∷ outs) = message ∷ messages_in outs
messages_in (output.Applied m told ∷ outs) = messages_in outs
messages_in (output.Refused m refusal ∷ outs) = messages_in outs
messages_in (output.Answered m answer ∷ outs) = messages_in outs

-- for each message the mark at which all of them were sent
abbrev pub posted : ℕ → List Message → List ℕ
posted mark messages = map (λ message. mark) messages

-- the past of a world whose messages were sent at these marks
abbrev pub past_with : World → List ℕ → Past
past_with w marks = record { world = now_of w; marks = marks }

-- the k-th message ever sent is this one, and it was sent at this mark
pub record IsSentThen (p : Past) (at : ℕ) (message : Message) (k : ℕ) : Type 0 where
  pub is : nth p.world.sent k ≡ Some message
  pub marked : nth p.marks k ≡ Some at
