-- What was done with members that go on from what they had stored.
use Rattle.std.specs.Prelude.{◌≡◌, ℕ, List, [], fold, map}
use Rattle.std.proofs.Props.{props}
use Rattle.keep.specs.Durable.{Durable}
use Rattle.model.specs.Transactions.{Language}
use Rattle.believed.specs.Worlds.{happens}
use Rattle.model.specs.Worlds.{World, Event, new_world, with_node}
use Rattle.sqlread.specs.Meaning.{language_of}
use Rattle.world.specs.declared.group.Group.{Group}
use Rattle.world.specs.declared.resumed.Deed.{Deed as Done}
use Rattle.world.specs.declared.resumed.Deed.TheVariants.{Happened as HappenedThen, Stored as StoredThen}
use Rattle.world.specs.Once.{recall_prop}
use Rattle.world.specs.View.{at_rest, event_of, world_of, IsGroup}

-- an event happens; or member m is down, and has this stored
pub data Deed : Type 0 where
  Happened : Event → Deed
  Stored : (m : ℕ) → Durable → Deed

-- the world after a deed
abbrev pub after_deed : Language → ℕ → World → Deed → World
after_deed language n w (Happened event) = happens language n w event
after_deed language n w (Stored m stored) = with_node w m (at_rest stored) []

-- the world after these deeds
abbrev pub after_deeds : Language → ℕ → World → List Deed → World
after_deeds language n w deeds = fold (after_deed language n) w deeds

abbrev pub deed_of : Done → Deed
deed_of (HappenedThen event) = Happened (event_of event)
deed_of (StoredThen member hard log) = Stored member (record { hard = hard; log = log.items })

-- a group of members that all began with nothing stored, in the world after these deeds
pub record IsResumed (g : Group) (deeds : List Done) : Type 0 where
  pub group : IsGroup g.schema g.members g.seats.items
  pub world : world_of g ≡ after_deeds (language_of g.schema) g.members (new_world g.members) (map deed_of deeds)

-- it has one proof at most
pub resumed_prop : (g : Group) (deeds : List Done) → IsProp (IsResumed g deeds)
resumed_prop g deeds = hlevel (props, recall_prop)
