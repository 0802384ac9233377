-- What was done with the members that journals are played on.
use Rattle.std.specs.Prelude.{◌≡◌, ℕ, Option, Some, Ok, List, [], ◌∷◌, ◌++◌, true, take, length}
use Rattle.fault.specs.Refusal.{shown}
use Rattle.model.specs.Lists.{nth}
use Rattle.model.specs.Members.{Node}
use Rattle.model.specs.declared.entry.Entry.{Entry}
use Rattle.model.specs.Worlds.{World, Event, Output, new_world}
use Rattle.keep.specs.Durable.{Durable}
use Rattle.believed.specs.Worlds.{Gives}
use Rattle.sqlchecks.specs.Columns.{Tables}
use Rattle.sqlread.specs.Meaning.{language_of}
use Rattle.sqlread.specs.Shapes.{query_of}
use Rattle.sqlread.specs.Texts.{query_in}
use Rattle.sqlread.specs.declared.query.Query.{Query}
use Rattle.answertext.specs.Answers.{answer_text}
use Rattle.world.specs.Deeds.{Deed, Happened, Stored, after_deeds}
use Rattle.world.specs.Resumed.{deeds_of, members_of, tables_of}
use Rattle.world.specs.View.{ShowsColumns, StoredState, durable_in, durable_of, entry_in}
use Rattle.world.specs.declared.event.Event.{Event as Given}
use Rattle.world.specs.declared.output.Output.{Output as Out}
use Rattle.world.specs.declared.output.Output.TheVariants.{Answered, Refused}
use Rattle.world.specs.declared.resumed.Resumed.{Resumed}

-- what was done with so many members with these tables, from the first deed on
pub record History : Type 0 where
  pub tables : Tables
  pub members : ℕ
  pub deeds : List Deed

abbrev pub history_of : Resumed → History
history_of r = record { tables = tables_of r; members = members_of r; deeds = deeds_of r }

-- one event more
abbrev pub and_then : History → Event → History
and_then h event = record h { deeds = h.deeds ++ Happened event ∷ [] }

-- then a member is down, and has this stored
abbrev pub and_stored : History → ℕ → Durable → History
and_stored h m stored = record h { deeds = h.deeds ++ Stored m stored ∷ [] }

-- the members after all that
abbrev pub world_after : History → World
world_after h = after_deeds (language_of h.tables) h.members (new_world h.members) h.deeds

-- what an event gives then
abbrev pub IsGiven : History → Event → List Output → Type 0
IsGiven h event outs = Gives (language_of h.tables) h.members (world_after h) event outs

-- and the columns of an answer to a question are those of the table that it asks
abbrev pub HasShown : History → Given → List Out → Type 0
HasShown h event outs = ShowsColumns h.tables event outs

-- a text asks this
abbrev pub IsAsked : History → List ℕ → Query → Type 0
IsAsked h text query = query_in h.tables text ≡ Ok (query_of query)

-- what a question gave is put in these words
abbrev pub IsPut : List Out → List ℕ → Type 0
IsPut (Answered m answer ∷ outs) text = text ≡ answer_text answer
IsPut (Refused m refusal ∷ outs) text = text ≡ shown refusal
IsPut outs text = ⊥

-- ---- what members have stored

-- the member of this number then, if there is one
abbrev pub member_in : History → ℕ → Option Node
member_in h m = nth (world_after h).nodes m

-- what is told of what a member has stored is what it has then, none of one that is down
abbrev pub HasState : History → ℕ → Option StoredState → Type 0
HasState h m found = found ≡ durable_in (member_in h m)

-- so is an entry of its log
abbrev pub HasEntry : History → ℕ → ℕ → Option Entry → Type 0
HasEntry h m index found = found ≡ entry_in index (member_in h m)

-- these are the first entries of a member that is up then, in order
abbrev pub BeginsLog : History → ℕ → List Entry → Type 0
BeginsLog h m log = (x : Node) → member_in h m ≡ Some x → x.up ≡ true → log ≡ take (length log) x.log

-- a member is up then, and has this stored
abbrev pub HasStored : History → ℕ → Durable → Type 0
HasStored h m stored = (x : Node) × (member_in h m ≡ Some x) × (x.up ≡ true) × (durable_of x ≡ stored)
