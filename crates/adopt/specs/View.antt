-- A journal as it is told.
use Rattle.std.specs.Prelude.{◌≡◌, false, ℕ, List, ◌++◌}
use Rattle.model.specs.Worlds.{Event}
use Rattle.world.specs.Run.{tables_in, members_in}
use Rattle.world.specs.declared.history.World.{World}
use Rattle.journal.specs.declared.line.Line.{Line}
use Rattle.moments.specs.declared.moment.Deed.{Deed}
use Rattle.moments.specs.declared.moment.Deed.TheVariants.{Opens, Takes, Tears, Answers, Stops}
use Rattle.moments.specs.declared.moment.Moment.{Moment}
use Rattle.moments.specs.Behind.{Evidence, IsBehind}
use Rattle.moments.specs.View.{past_of, IsLive, IsSameRun}
use Rattle.adopt.specs.Spelled.{Place, lines_at, place_after, Spells}
use Rattle.adopt.specs.declared.telling.Telling.{Telling}

-- the same events, tables and members; memory was not refused
pub record IsLookedAt (old new : World) : Type 0 where
  pub kept : new.kept.items ≡ old.kept.items
  pub tables : tables_in new ≡ tables_in old
  pub members : members_in new ≡ members_in old
  pub live : new.is_spent ≡ false

abbrev pub place_of : Telling → Place
place_of t = record { past = past_of t.replay; noted = t.noted }

-- what a member has stored before this is looked at
abbrev pub IsEnd : Deed → Type 0
IsEnd (Opens k) = ⊥
IsEnd (Takes k step) = ⊥
IsEnd (Tears k) = Unit {0}
IsEnd (Answers k) = ⊥
IsEnd (Stops k) = Unit {0}

-- what it has stored after this is looked at
abbrev pub IsOpening : Deed → Type 0
IsOpening (Opens k) = Unit {0}
IsOpening (Takes k step) = ⊥
IsOpening (Tears k) = ⊥
IsOpening (Answers k) = ⊥
IsOpening (Stops k) = ⊥

-- what it has stored if it is started after this is looked at
abbrev pub IsTear : Deed → Type 0
IsTear (Opens k) = ⊥
IsTear (Takes k step) = ⊥
IsTear (Tears k) = Unit {0}
IsTear (Answers k) = ⊥
IsTear (Stops k) = ⊥

-- nothing was told
pub record IsSameTelling (old new : Telling) : Type 0 where
  pub run : IsSameRun old.replay new.replay
  pub lines : new.lines.items ≡ old.lines.items
  pub noted : new.noted ≡ old.noted

-- a moment happened, and was told
pub record IsTold (r : Evidence) (n : ℕ) (old new : Telling) (m : Moment) : Type 0 where
  pub now : List Event
  pub behind : IsBehind r n (past_of old.replay) m now
  pub lines : new.lines.items ≡ old.lines.items ++ lines_at r n (place_of old) m now
  pub place : place_of new ≡ place_after r n (place_of old) m now
  pub tables : tables_in new.replay.world ≡ tables_in old.replay.world
  pub members : members_in new.replay.world ≡ members_in old.replay.world
  pub live : IsLive new.replay

-- all of these moments happened, and were told
pub record AreTold (r : Evidence) (n : ℕ) (old new : Telling) (moments : List Moment) : Type 0 where
  pub more : List Line
  pub lines : new.lines.items ≡ old.lines.items ++ more
  pub spells : Spells r n (place_of old) moments more (place_of new)
  pub tables : tables_in new.replay.world ≡ tables_in old.replay.world
  pub members : members_in new.replay.world ≡ members_in old.replay.world
  pub live : IsLive new.replay
