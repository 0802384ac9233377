-- The messages that were sent.
use Rattle.std.specs.Prelude.{List, [], ◌∷◌, map}
use Rattle.model.specs.declared.message.Message.{Message}
use Rattle.model.specs.Worlds.{Output, Sent}
use Rattle.playback.specs.declared.post.Post.{Post}

abbrev pub messages : List Post → List Message
messages = map (λ (p : Post). p.message)

-- the messages among outputs
abbrev pub sent_in : List Output → List Message
sent_in [] = []
sent_in (Sent number message ∷ outs) = message ∷ sent_in outs
sent_in (out ∷ outs) = sent_in outs
