-- What is seen of a player.
use Rattle.std.specs.Prelude.{ℕ, ℤ, Bool, List, length, None, Option, Result, if◌then◌else◌}
use Rattle.model.specs.Members.{Node}
use Rattle.script.specs.declared.player.Player.{Player}
use Rattle.script.specs.declared.run_fault.RunFault.{RunFault}
use Rattle.script.specs.Plays as play
use Rattle.script.specs.Plays.{stage_of}
use Rattle.script.specs.Stage.{Stage, Played}
use Rattle.world.specs.declared.history.World.{World}
use Rattle.world.specs.Run.{member_of}
pub use Rattle.world.specs.Run.{tables_in, members_in, now_of}
use Rattle.world.specs.View.{commit_in}

-- whether a line of the player ended in a fault
abbrev pub has_failed : Player → Bool
has_failed player = player.has_failed

-- its group
abbrev pub group_of : Player → World
group_of player = player.play.world

-- where it stands
abbrev pub standing_of : Player → Stage
standing_of player = stage_of player.play

-- what the clocks of its members show, in order
abbrev pub clocks_of : Player → List ℤ
clocks_of player = (standing_of player).clocks

-- how many messages its members have sent
abbrev pub sent_count : Player → ℕ
sent_count player = length (standing_of player).sent

-- a member of its group now, if there is one
abbrev pub member_in : Player → ℕ → Option Node
member_in player = member_of (group_of player)

-- the commit index of a member that is up, in a group to which no memory was refused
abbrev pub commit_of : Player → ℕ → Option ℕ
commit_of player m = if (group_of player).is_spent then None else commit_in (member_in player m)

-- At Ok all of it happened to the group and is printed, at Err a beginning of it is printed.
abbrev pub Plays : Player → Result (Unit {0}) RunFault → Player → Played → Option (List ℕ) → Option (List ℕ) → Type 0
Plays old result new p before after = play.Plays (group_of old) result new.play p before after
