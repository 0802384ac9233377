use Rattle.std.proofs.Common.{◌≡◌}
use Rattle.std.specs.Prelude.{replicate}
use Rattle.playback.specs.Scenes.{standings}
use Rattle.playback.specs.Standings.{Down}
use Rattle.playback.proofs.play.new_actors.Given as goal

abbrev pub invariant-loop : goal.invariant-loop
invariant-loop l = standings l.actors.items ≡ replicate l.counter Down
