-- What is seen of a play, and what a line does to it.
use Rattle.std.specs.Prelude.{◌≡◌, ℕ, false, ◌++◌, List, Option, Result, MatchResult}
use Rattle.sqlchecks.specs.Columns.{Tables}
use Rattle.world.specs.declared.history.World.{World}
use Rattle.world.specs.Run.{tables_in, members_in, events_of, now_of}
use Rattle.script.specs.declared.play.Play.{Play}
use Rattle.script.specs.declared.run_fault.RunFault.{RunFault}
use Rattle.script.specs.Faults.{IsPlayFault}
use Rattle.script.specs.Stage.{Stage, Played, IsPrinted, IsBegun, events_in}

-- where it stands
abbrev pub stage_of : Play → Stage
stage_of p = record { clocks = p.clocks.items; world = now_of p.world; sent = p.mail }

abbrev pub tables_of : Play → Tables
tables_of p = tables_in p.world

abbrev pub members_of : Play → ℕ
members_of p = members_in p.world

-- nothing happened, and memory was not refused
pub record IsStill (old new : Play) : Type 0 where
  pub stage : stage_of new ≡ stage_of old
  pub events : events_of new.world ≡ events_of old.world
  pub tables : tables_of new ≡ tables_of old
  pub members : members_of new ≡ members_of old
  pub live : new.world.is_spent ≡ false

-- the group, to which memory was never refused, and to which exactly these events happened since
pub record Moves (old : World) (new : Play) (p : Played) : Type 0 where
  pub stage : stage_of new ≡ p.stage
  pub events : events_of new.world ≡ events_of old ++ events_in p.acts
  pub tables : tables_of new ≡ tables_in old
  pub members : members_of new ≡ members_in old
  pub live : new.world.is_spent ≡ false

-- what was played is printed
abbrev pub PlaysOut : World → Played → Option (List ℕ) → Option (List ℕ) → Type 0
PlaysOut old p before after = IsPrinted (tables_in old) (members_in old) (now_of old) p.acts before after

-- or begun to be printed
abbrev pub PlaysInPart : World → Played → Option (List ℕ) → Option (List ℕ) → Type 0
PlaysInPart old p before after = IsBegun (tables_in old) (members_in old) (now_of old) p.acts before after

-- at Ok all of it happened and is printed, at Err a beginning of it is
abbrev pub Plays : World → Result (Unit {0}) RunFault → Play → Played → Option (List ℕ) → Option (List ℕ) → Type 0
Plays old result new p before after = MatchResult result (λ _. Moves old new p × PlaysOut old p before after) (λ fault. IsPlayFault fault × PlaysInPart old p before after)
