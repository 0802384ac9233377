-- What is decided so far, member by member.
use Rattle.std.specs.Prelude.{◌≡◌, ℕ, false, ⊤, Option, None, Some, List}
use Rattle.model.specs.Lists.{nth, IsBeginning}
use Rattle.model.specs.Agreement.{longer, decided}
use Rattle.model.specs.Members.{Node, applied}
use Rattle.model.specs.declared.entry.Entry.{Entry}
use Rattle.world.specs.declared.history.World.{World}
use Rattle.world.specs.Run.{events_of, members_in, outset_of, language_in, tables_in}

-- what is decided in all that happened so far
abbrev pub decided_by : World → List Entry
decided_by w = decided (language_in w) (members_in w) (outset_of w) (events_of w)

-- the longer one of a list and of what a member has applied, if there is one
abbrev pub longer_at : List Entry → Option Node → List Entry
longer_at best None = best
longer_at best (Some x) = longer best (applied x)

-- a list, and what a member has applied, if there is one, are beginnings of one list
abbrev pub GoesAlong : List Entry → Option Node → Type 0
GoesAlong best None = ⊤
GoesAlong best (Some x) = (whole : List Entry) × IsBeginning best whole × IsBeginning (applied x) whole

-- a list, and what each member has applied, are beginnings of one list
pub record AreAlong (best : List Entry) (nodes : List Node) : Type 0 where
  pub whole : List Entry
  pub begins : IsBeginning best whole
  pub each : (m : ℕ) (x : Node) → nth nodes m ≡ Some x → IsBeginning (applied x) whole

-- members that are down have applied nothing
abbrev pub AreBlankDown : List Node → Type 0
AreBlankDown nodes = (m : ℕ) (x : Node) → nth nodes m ≡ Some x → x.up ≡ false → x.commit ≡ 0

-- the same happened, and memory was never refused
pub record IsSameWorld (old new : World) : Type 0 where
  pub events : events_of new ≡ events_of old
  pub tables : tables_in new ≡ tables_in old
  pub members : members_in new ≡ members_in old
  pub live : new.is_spent ≡ false
