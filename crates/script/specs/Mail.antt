-- The messages that a group sent, in order, and what became of each.
use Rattle.std.specs.Prelude.{◌≡◌, ℕ, zero, suc, Bool, true, false, not, ◌&&◌, if◌then◌else◌, Option, Some, None, List, [], ◌∷◌, ⊤}
use Rattle.model.specs.Lists.{nth, with_nth}
use Rattle.model.specs.declared.message.Message.{Message}
use Rattle.script.specs.declared.sent.Sent.{Sent}
use Rattle.world.specs.declared.output.Output.{Output}
use Rattle.world.specs.declared.output.Output.TheVariants as output

-- neither delivered nor lost
abbrev pub newly_sent : Message → Sent
newly_sent message = record { addressee = message.addressee; is_delivered = false; is_lost = false }

abbrev pub as_delivered : Sent → Sent
as_delivered message = record { addressee = message.addressee; is_delivered = true; is_lost = message.is_lost }

abbrev pub as_lost : Sent → Sent
as_lost message = record { addressee = message.addressee; is_delivered = message.is_delivered; is_lost = true }

abbrev pub changed_to : (Sent → Sent) → List Sent → ℕ → Option Sent → List Sent
changed_to f sent k None = sent
changed_to f sent k (Some message) = with_nth sent k (f message)

-- with the k-th message changed, if it was sent
abbrev pub changed : (Sent → Sent) → List Sent → ℕ → List Sent
changed f sent k = changed_to f sent k (nth sent k)

-- the first so many of the messages are lost
abbrev pub lost_first : ℕ → List Sent → List Sent
lost_first zero sent = sent
lost_first (suc count) [] = []
lost_first (suc count) (message ∷ more) = as_lost message ∷ lost_first count more

-- the messages among outputs
abbrev pub messages_in : List Output → List Message
messages_in [] = []
messages_in (output.Sent number message ∷ outs) = message ∷ messages_in outs
messages_in (output.Applied m told ∷ outs) = messages_in outs
messages_in (output.Refused m refusal ∷ outs) = messages_in outs
messages_in (output.Answered m answer ∷ outs) = messages_in outs

-- never delivered, and not lost
abbrev pub is_left : Sent → Bool
is_left message = not message.is_delivered && not message.is_lost

-- the numbers of the messages that are left, where the first has this number
abbrev pub left_from : ℕ → List Sent → List ℕ
left_from k [] = []
left_from k (message ∷ more) = if is_left message then k ∷ left_from (suc k) more else left_from (suc k) more

-- so many messages were sent at least, and none of these first is left
abbrev pub NoneLeft : ℕ → List Sent → Type 0
NoneLeft zero sent = ⊤
NoneLeft (suc count) [] = ⊥
NoneLeft (suc count) (message ∷ more) = (is_left message ≡ false) × NoneLeft count more
