-- The sessions of stores that are opened one after the other over the same databases.
use Rattle.std.specs.Prelude.{◌≡◌, ◌≢◌, ◌⊎◌, ℕ, Option, Some, Result, List, [], ◌∷◌, ◌++◌, ◌+◌, Ok, MatchOption, All, flat_map, length, map, slice_get, string_bytes}
use Rattle.std.specs.Io.KnownBytes.{append_known}
use Rattle.fault.specs.declared.refusal.Refusal.{Refusal}
use Rattle.model.specs.declared.entry.Entry.{Entry}
use Rattle.model.specs.declared.entry.Told.{Told}
use Rattle.model.specs.Agreement.{IsTold}
use Rattle.model.specs.Members.{Node}
use Rattle.model.specs.Transactions.{Language}
use Rattle.model.specs.Worlds.{World, Event, GivesAll, Output, run}
use Rattle.model.specs.Worlds.Output.{Answered}
use Rattle.keep.specs.Durable.{Durable}
use Rattle.sessions.specs.Kills.{Between, durable, opened}
use Rattle.sessions.specs.Sessions.{Session, AreSessions, events_of, found_after, new_databases}
use Rattle.onelist.specs.Explained.{IsAnswered}
use Rattle.sqlread.specs.Meaning.{language_of, select_of}
use Rattle.answer.specs.declared.Answer.{Answer}
use Rattle.answer.specs.Answers.{answer_of}
use Rattle.sqlread.specs.Shapes.{QueryShape}
use Rattle.sqlread.specs.Texts.{query_in}
use Rattle.runlaws.specs.Going.{Goes}
use Rattle.journal.specs.declared.line.Line.{Line}
use Rattle.journal.specs.Blocks.{block_text, blocks_text, last_sum}
use Rattle.store.specs.Asking.{IsAnswerOf}
use Rattle.store.specs.declared.scribe.Scribe.{Scribe}
use Rattle.store.specs.Continuing.{IsContinued}
use Rattle.store.specs.Journals.{IsSpent}
use Rattle.store.specs.Lines.{Lines, lines_in}
use Rattle.store.specs.Noting.{AreWritten}
use Rattle.store.specs.Recording.{AreRecorded, RecordAll}
use Rattle.store.specs.Writing.{lines_text}
use Rattle.store.specs.declared.store.Store.{Store}
use Rattle.store.specs.Going.{AreToldIn, IsIn}
use Rattle.store.specs.Opening.{AreFound}

-- these sessions followed one another, the first one over members that were never started, and these databases hold what they left
abbrev pub AreAfter : {I : Type 0} → (holds : I → Durable → Type 0) → Language → ℕ → List Session → List (Option I) → Type 0
AreAfter holds language n sessions images = AreSessions language n (new_databases n) sessions × AreFound holds images (found_after (new_databases n) sessions)

-- the list has the request of this client and number, with this outcome
abbrev pub IsListed : Language → List Entry → (client number : ℕ) → Result ℕ Refusal → Type 0
IsListed language list client number outcome = (told : Told) × (told.client ≡ client) × (told.number ≡ number) × (told.outcome ≡ outcome) × IsTold language list told

module _ {K J I : Type 0} {an : _} {g : _} {s : _} {d : _} where
  -- how a store came to where it is: by events, from members with this stored
  pub record Came (held : K → Durable → Type 0) (holds : I → Durable → Type 0) (found : List Node) (store : Store K J I an g s d) : Type 0 where
    pub world : World
    pub goes : Goes (language_of store.schema) (length store.seats.items) (opened found) world
    pub is_in : IsIn held holds store world

  -- it as a session that ends now, between two calls
  abbrev pub session_of : {held : K → Durable → Type 0} {holds : I → Durable → Type 0} {found : List Node} {store : Store K J I an g s d} → Came held holds found store → Session
  session_of came = record { filed = came.goes.events; moment = Between []; gave = came.goes.gave; left = durable came.world }

  -- the same session further on, by events more, which gave what this holds of
  pub record Further {held : K → Durable → Type 0} {holds : I → Durable → Type 0} {found : List Node} {old new : Store K J I an g s d} (gives : List (List Output) → Type 0) (before : Came held holds found old) (after : Came held holds found new) : Type 0 where
    pub events : List Event
    pub gave : List (List Output)
    pub events_are : after.goes.events ≡ before.goes.events ++ events
    pub gave_is : after.goes.gave ≡ before.goes.gave ++ gave
    pub gives_so : gives gave

  -- The lines that came to its journal, since that was at this scribe, record how a store came to where it is. Each outcome in them its member
  -- told on the way. Unless it is spent, what a step told for the first time past an entry stands in its end, and each end is that of the step before.
  pub record IsFiled (contents : J → Option (List ℕ)) (held : K → Durable → Type 0) (holds : I → Durable → Type 0) (found : List Node) (scribe : Scribe J) (noted : ℕ) (store : Store K J I an g s d) : Type 0 where
    pub lines : Lines
    pub journal : IsContinued contents (Some scribe) store.scribe lines
    pub came : Came held holds found store
    pub recorded : AreRecorded (language_of store.schema) (length store.seats.items) (opened found) scribe.reading lines came.goes.events (IsSpent store.scribe)
    pub outcomes_are : AreToldIn came.goes.gave (lines_in lines)
    pub written : (IsSpent store.scribe → ⊥) → AreWritten noted came.goes.gave (lines_in lines) store.noted

  -- What the file of its journal has of a session. Behind what was there as the store began come blocks, each with the lines of a group and the
  -- sum of the block before, none empty, and then a beginning of the next at most, which is nothing unless the journal is spent. The lines of
  -- the groups record a beginning of the session's events, after which nothing else was stored, and all of them where nothing is in the buffer.
  pub record IsOnFile (contents : J → Option (List ℕ)) (scribe : Scribe J) {held : K → Durable → Type 0} {holds : I → Durable → Type 0} {found : List Node} {store : Store K J I an g s d} (came : Came held holds found store) : Type 0 where
    pub groups : List (List Line)
    pub next : List Line
    pub front : List ℕ
    pub back : List ℕ
    pub last : Scribe J
    pub last_is : store.scribe ≡ Some last
    pub device : contents last.device ≡ append_known (contents scribe.device) (blocks_text scribe.sum (map lines_text groups) front)
    pub filled : All (λ (body : List ℕ). body ≢ []) (map lines_text groups)
    pub torn : block_text (last_sum scribe.sum (map lines_text groups)) (lines_text next) [] ≡ front ++ back
    pub none : (front ≡ []) ⊎ IsSpent store.scribe
    pub events : List Event
    pub later : List Event
    pub events_are : came.goes.events ≡ events ++ later
    pub gave : List (List Output)
    pub gave_later : List (List Output)
    pub gave_is : came.goes.gave ≡ gave ++ gave_later
    pub gives : GivesAll (language_of store.schema) (length store.seats.items) (opened found) events gave
    pub stored : durable came.world ≡ durable (run (language_of store.schema) (length store.seats.items) (opened found) events)
    pub recorded : RecordAll (language_of store.schema) (length store.seats.items) (opened found) scribe.reading (flat_map (λ (group : List Line). group) groups) events
    pub all : (IsSpent store.scribe → ⊥) → string_bytes last.buffer ≡ [] → later ≡ []

  -- the session of which the file has this
  abbrev pub session_on : {contents : J → Option (List ℕ)} {scribe : Scribe J} {held : K → Durable → Type 0} {holds : I → Durable → Type 0} {found : List Node} {store : Store K J I an g s d} {came : Came held holds found store} → IsOnFile contents scribe came → Session
  session_on {came = came} on = record { filed = on.events; moment = Between []; gave = on.gave; left = durable came.world }

  -- the member of the seat that has so many before it is up, and answers the question of this text so
  abbrev pub HasAnswered : (honest : K → Type 0) → Store K J I an g s d → ℕ → List ℕ → Answer → Type 0
  HasAnswered honest store at text a = MatchOption (slice_get store.seats.items at) ⊥ (λ seat. MatchOption seat.node ⊥ (λ node. IsAnswerOf honest node store.schema text a))

  -- it was an event more of the session that the member was asked, and gave this answer
  pub record Answers (held : K → Durable → Type 0) (holds : I → Durable → Type 0) (found : List Node) (store : Store K J I an g s d) (before : Came held holds found store) (m : ℕ) (text : List ℕ) (a : Answer) : Type 0 where
    pub query : QueryShape
    pub spelled : query_in store.schema text ≡ Ok query
    pub after : Came held holds found store
    pub further : Further (λ gave. gave ≡ (Answered m (answer_of a) ∷ []) ∷ []) before after
    pub answered : IsAnswered (events_of (session_of after)) (session_of after).gave (length before.goes.events + 1) m (select_of query) (answer_of a)
