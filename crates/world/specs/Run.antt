-- A world as its run.
use Rattle.std.specs.Prelude.{◌≡◌, ◌++◌, ℕ, List, map, take, Option}
use Rattle.model.specs.Lists.{nth}
use Rattle.model.specs.Members.{Node}
use Rattle.model.specs.Transactions.{Language}
use Rattle.model.specs.Worlds.{World, Event, Output, new_world, run}
use Rattle.sqlchecks.specs.Columns.{Tables}
use Rattle.sqlread.specs.Meaning.{language_of}
use Rattle.world.specs.declared.history.World.{World as Whole}
use Rattle.believed.specs.Worlds.{run as runs}
use Rattle.world.specs.View.{event_of}

abbrev pub language_in : Whole → Language
language_in w = language_of w.group.schema

-- the same, as they were declared
abbrev pub tables_in : Whole → Tables
tables_in w = w.group.schema

abbrev pub members_in : Whole → ℕ
members_in w = w.group.members

-- all up, with term 0, no vote, empty logs
abbrev pub outset_of : Whole → World
outset_of w = new_world (members_in w)

-- what happened, from the first event on
abbrev pub events_of : Whole → List Event
events_of w = map event_of w.kept.items

-- what each of these gave: in a new world nothing, and with each call what it gives is appended
unfoldable pub given_of : Whole → List (List Output)
given_of w = w.given.0

-- the old events, and then a beginning of these
abbrev pub AddsBeginning : List Event → List Event → List Event → Type 0
AddsBeginning old new these = (count : ℕ) × (new ≡ old ++ take count these)

-- the world after what happened
abbrev pub world_in : Whole → World
world_in w = runs (language_in w) (members_in w) (outset_of w) (events_of w)

-- the same, in the words of the crates below
abbrev pub now_of : Whole → World
now_of w = run (language_in w) (members_in w) (outset_of w) (events_of w)

-- the member there now, if there is one
abbrev pub member_of : Whole → ℕ → Option Node
member_of w m = nth (now_of w).nodes m
