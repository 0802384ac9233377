-- What takes no memory.
use Rattle.std.specs.Prelude.{ℕ, Bool, true, false}
use Rattle.raft.specs.declared.state.Work.{Work}
use Rattle.raft.specs.declared.state.Work.TheVariants.{Local, Delivered}
use Rattle.model.specs.declared.message.Input.TheVariants.{Timeout, Beat, Close, Floor, Submit}
use Rattle.model.specs.Members.{Node}
use Rattle.model.specs.Steps.{Effect, Moves, Refuses, Nothing, on_input}

-- nothing comes of it, or a refusal
abbrev pub is_idle : Effect → Bool
is_idle (Moves after) = false
is_idle (Refuses refusal) = true
is_idle Nothing = true

-- a timeout, a beat, a close or a floor of which nothing comes, or a refusal
abbrev pub spares_memory : ℕ → ℕ → Work → Node → Bool
spares_memory n me (Local Timeout) x = is_idle (on_input n me Timeout x)
spares_memory n me (Local Beat) x = is_idle (on_input n me Beat x)
spares_memory n me (Local (Close reading)) x = is_idle (on_input n me (Close reading) x)
spares_memory n me (Local (Floor reading)) x = is_idle (on_input n me (Floor reading) x)
spares_memory n me (Local (Submit reading request)) x = false
spares_memory n me (Delivered reading message) x = false
