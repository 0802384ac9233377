-- What a replay has followed.
use Rattle.std.specs.Prelude.{◌≡◌, ℕ, List, ◌++◌}
use Rattle.model.specs.Worlds.{Event}
use Rattle.world.specs.Run.{tables_in, members_in, events_of}
pub use Rattle.world.specs.View.{event_of}
use Rattle.moments.specs.declared.replay.Replay.{Replay}
use Rattle.moments.specs.declared.moment.Moment.{Moment}
use Rattle.moments.specs.Behind.{Evidence}
use Rattle.moments.specs.View.{past_of, IsLive}
use Rattle.auditor.specs.Audited.{Leads}

-- all of these moments happened, by these events
pub record IsLed (r : Evidence) (n : ℕ) (old new : Replay) (moments : List Moment) (events : List Event) : Type 0 where
  pub kept : events_of new.world ≡ events_of old.world ++ events
  pub leads : Leads r n (past_of old) moments events (past_of new)
  pub tables : tables_in new.world ≡ tables_in old.world
  pub members : members_in new.world ≡ members_in old.world
  pub live : IsLive new
