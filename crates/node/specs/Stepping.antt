-- What a step of the parts of a node comes to, once it is stored and applied.
use Rattle.std.specs.Prelude.{◌≡◌, ℕ, Option, length, slice_range}
use Rattle.sqlchecks.specs.Columns.{Tables}
use Rattle.sqlread.specs.Meaning.{language_of}
use Rattle.model.specs.Members.{Node}
use Rattle.model.specs.Steps.{Effect, Moves, Refuses}
use Rattle.model.specs.Steps as steps
use Rattle.raft.specs.declared.state.Effect.{Effect as Given}
use Rattle.raft.specs.declared.state.Effect.TheVariants.{Refused, Ignored, Done}
use Rattle.node.specs.declared.node.Out.{Out}
use Rattle.node.specs.View.{risen, told_between}

-- it leads from one node to another, and gives what the definitions say of it; a refusal, and a step of which nothing comes, change nothing
abbrev pub IsStep : Tables → Node → Node → Effect → Given Out → Type 0
IsStep schema old new effect (Done out) =
    (Moves (record { node = new; sent = out.messages.items }) ≡ effect)
    × (out.applied.items ≡ slice_range new.log old.commit new.commit)
    × (out.told.items ≡ told_between (language_of schema) new.log old.commit new.commit)
IsStep schema old new effect Ignored = (steps.Nothing ≡ effect) × (new ≡ old)
IsStep schema old new effect (Refused refusal) = (Refuses refusal ≡ effect) × (new ≡ old)

-- it tells what is sealed after it where that rose in it
abbrev pub TellsSealed : Option ℕ → Option ℕ → Given Out → Type 0
TellsSealed before now (Done out) = out.sealed ≡ risen before now
TellsSealed before now Ignored = Unit {0}
TellsSealed before now (Refused refusal) = Unit {0}

-- how many messages it sends
abbrev pub sent_in : Given Out → ℕ
sent_in (Done out) = length out.messages.items
sent_in Ignored = 0
sent_in (Refused refusal) = 0

-- how many entries become applied
abbrev pub applied_in : Given Out → ℕ
applied_in (Done out) = length out.applied.items
applied_in Ignored = 0
applied_in (Refused refusal) = 0
