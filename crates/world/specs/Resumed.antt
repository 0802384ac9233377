-- Members that go on from what they had stored, as contracts see them.
use Rattle.std.specs.Prelude.{ℕ, Option, List, map}
use Rattle.model.specs.Lists.{nth}
use Rattle.model.specs.Members.{Node}
use Rattle.model.specs.Worlds.{World, new_world}
use Rattle.sqlchecks.specs.Columns.{Tables}
use Rattle.sqlread.specs.Meaning.{language_of}
use Rattle.world.specs.declared.resumed.Resumed.{Resumed}
use Rattle.world.specs.Deeds.{Deed, after_deeds, deed_of}

-- the tables, as they were declared
abbrev pub tables_of : Resumed → Tables
tables_of r = r.group.schema

abbrev pub members_of : Resumed → ℕ
members_of r = r.group.members

-- what was done, from the first deed on
abbrev pub deeds_of : Resumed → List Deed
deeds_of r = map deed_of r.deeds.items

-- the world after that
abbrev pub resumed_world : Resumed → World
resumed_world r = after_deeds (language_of (tables_of r)) (members_of r) (new_world (members_of r)) (deeds_of r)

-- the member there then, if there is one
abbrev pub resumed_member : Resumed → ℕ → Option Node
resumed_member r m = nth (resumed_world r).nodes m
