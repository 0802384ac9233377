use Rattle.std.proofs.Common.{◌≡◌, ◌+◌, take}
use Rattle.model.specs.Worlds.{numbered}
use Rattle.world.specs.View.{outputs_of}
use Rattle.world.proofs.output.announce.Given as goal

abbrev pub invariant-loop-message : goal.invariant-loop-message
invariant-loop-message l = record { place : l.number ≡ l.before + l.message-index; same : outputs_of l.outs.items ≡ numbered l.before (take l.message-index l.messages) }
