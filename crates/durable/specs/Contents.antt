-- What the tables hold, in numbers and bytes, and what it stands for.
use Rattle.std.specs.Prelude.{ℕ, zero, suc, ℤ, pos, negsuc, Option, None, Some, List, [], ◌++◌, map, take}
use Rattle.model.specs.declared.entry.Entry.{Entry}
use Rattle.model.specs.declared.entry.Request.{Request}
use Rattle.keep.specs.declared.change.Change.{Change}
use Rattle.keep.specs.Durable.{Durable}

-- an entry: a Close has client 0, number 0 and an empty body
pub record Item : Type 0 where
  pub term : ℕ
  pub stamp : ℕ
  pub client : ℕ
  pub number : ℕ
  pub body : List ℕ

-- the vote 0 is none
pub record Contents : Type 0 where
  pub term : ℕ
  pub vote : ℕ
  pub floor : Option ℕ
  pub log : List Item

-- nothing stored yet
abbrev pub none_yet : Contents
none_yet = record { term = 0; vote = 0; floor = None; log = [] }

-- ---- how it is written

abbrev pub number_of_vote : Option ℕ → ℕ
number_of_vote None = 0
number_of_vote (Some v) = v

-- the floor -1 is none
abbrev pub number_of_floor : Option ℕ → ℤ
number_of_floor None = negsuc 0
number_of_floor (Some t) = pos t

abbrev pub client_of : Option Request → ℕ
client_of None = 0
client_of (Some r) = r.client

abbrev pub number_of : Option Request → ℕ
number_of None = 0
number_of (Some r) = r.number

abbrev pub body_of : Option Request → List ℕ
body_of None = []
body_of (Some r) = r.text

abbrev pub item_of : Entry → Item
item_of e = record { term = e.term; stamp = e.stamp; client = client_of e.request; number = number_of e.request; body = body_of e.request }

abbrev pub items_of : List Entry → List Item
items_of es = map item_of es

abbrev pub contents_of : Durable → Contents
contents_of d = record { term = d.hard.term; vote = number_of_vote d.hard.vote; floor = d.hard.floor; log = items_of d.log }

-- what a change makes of it
abbrev pub changed : Change → Contents → Contents
changed c d = record { term = c.hard.term; vote = number_of_vote c.hard.vote; floor = c.hard.floor; log = take c.kept d.log ++ items_of c.entries.items }

-- ---- how it is read

abbrev pub vote_in : ℕ → Option ℕ
vote_in zero = None
vote_in (suc v) = Some (suc v)

abbrev pub request_in : ℕ → ℕ → List ℕ → Option Request
request_in zero number body = None
request_in (suc client) number body = Some (record { client = suc client; number = number; text = body })

abbrev pub entry_in : Item → Entry
entry_in e = record { term = e.term; stamp = e.stamp; request = request_in e.client e.number e.body }

abbrev pub entries_in : List Item → List Entry
entries_in es = map entry_in es

abbrev pub durable_in : Contents → Durable
durable_in c = record { hard = record { term = c.term; vote = vote_in c.vote; floor = c.floor }; log = entries_in c.log }
