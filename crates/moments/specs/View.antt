-- The replay as the definitions see it.
use Rattle.std.specs.Prelude.{◌≡◌, ℕ, false, List, ◌++◌}
use Rattle.model.specs.Worlds.{Event}
use Rattle.world.specs.Run.{tables_in, language_in, members_in, events_of}
use Rattle.moments.specs.declared.replay.Replay.{Replay}
use Rattle.moments.specs.Past.{Past, after}
use Rattle.moments.specs.Posts.{past_with}

abbrev pub past_of : Replay → Past
past_of x = past_with x.world x.marks.items

-- memory was never refused
pub record IsLive (x : Replay) : Type 0 where
  pub live : x.world.is_spent ≡ false

-- these events happened at a mark, and nothing else
pub record Happened (old new : Replay) (mark : ℕ) (events : List Event) : Type 0 where
  pub kept : events_of new.world ≡ events_of old.world ++ events
  pub past : past_of new ≡ after (language_in old.world) (members_in old.world) (past_of old) mark events
  pub tables : tables_in new.world ≡ tables_in old.world
  pub members : members_in new.world ≡ members_in old.world
  pub live : IsLive new

-- nothing happened
pub record IsSameRun (old new : Replay) : Type 0 where
  pub kept : events_of new.world ≡ events_of old.world
  pub past : past_of new ≡ past_of old
  pub tables : tables_in new.world ≡ tables_in old.world
  pub members : members_in new.world ≡ members_in old.world
  pub live : IsLive new

-- events that are behind a moment happened there
abbrev pub Follows : (List Event → Type 0) → Replay → Replay → ℕ → Type 0
Follows behind old new mark = (events : List Event) × behind events × Happened old new mark events
