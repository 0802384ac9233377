-- How a member stands in a play.
use Rattle.model.specs.declared.event.Job.{Job}
use Rattle.playback.specs.declared.actor.Doing.{Doing}
use Rattle.playback.specs.declared.actor.Doing.TheVariants as doing

-- a member is down, up, or in a step with this job
pub data Standing : Type 0 where
  Down : Standing
  Up : Standing
  Within : Job → Standing

abbrev pub standing_of : Doing → Standing
standing_of doing.Down = Down
standing_of doing.Up = Up
standing_of (doing.Within begun) = Within begun.job
