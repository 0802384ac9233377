-- What a store is opened from.
use Rattle.std.specs.Prelude.{◌≡◌, ◌+◌, ◌<◌, ◌↔◌, ℕ, true, false, Option, Some, None, List, [], ◌∷◌, ◌++◌, is_some, is_none, if◌then◌else◌, flat_map, fold, length, max, slice_get, MatchOption}
use Rattle.std.specs.List.{All, count_by}
use Rattle.std.specs.Option.{ForSome}
use Rattle.model.specs.Members.{Node}
use Rattle.model.specs.Transactions.{Language}
use Rattle.model.specs.Worlds.{World, Event, Start, started}
use Rattle.keep.specs.Durable.{Durable}
use Rattle.journal.specs.Digests.{summary_of}
use Rattle.node.specs.Member.{member_of}
use Rattle.node.specs.View.{durable_of}
use Rattle.sessions.specs.Kills.{opened}
use Rattle.sqlchecks.specs.Columns.{Tables}
use Rattle.sqlread.specs.Meaning.{language_of}
use Rattle.runlaws.specs.Going.{AreSeated, Goes}
use Rattle.store.specs.declared.members.Members.{Members}
use Rattle.store.specs.declared.seat.Seat.{Seat}
use Rattle.store.specs.declared.store.Store.{Store}
use Rattle.store.specs.Starting.{FitsTale}
use Rattle.store.specs.Nodes.{Rests}
use Rattle.store.specs.Seats.{HasMember, IsClean}
use Rattle.store.specs.declared.scribe.Scribe.{Scribe}
use Rattle.store.specs.Continuing.{IsContinued, reading_in}
use Rattle.store.specs.Fullness.{longest}
use Rattle.store.specs.Going.{AreClean, AreToldIn, IsIn, IsRunOf}
use Rattle.store.specs.Journals.{IsSpent}
use Rattle.store.specs.Lines.{Lines, lines_in}
use Rattle.store.specs.Noting.{AreWritten}
use Rattle.store.specs.Recording.{AreRecorded, HasInShort, IsTrue, NobodySays, RecordAll}
use Rattle.store.specs.Tales.{Told, tale_of}

-- how many of these databases are there
abbrev pub there_in : {I : Type 0} → List (Option I) → ℕ
there_in images = count_by is_some images

-- more than half of these databases are there
abbrev pub AreMost : {I : Type 0} → List (Option I) → Type 0
AreMost images = length images < there_in images + there_in images

-- these members are down, and each has stored what its database holds, if it is there and holds anything
abbrev pub AreFound : {I : Type 0} → (holds : I → Durable → Type 0) → List (Option I) → List Node → Type 0
AreFound holds images found = AreSeated (λ m image x. MatchOption image (x.up ≡ false) (λ i. Rests (holds i) x)) images found

module _ {K J I : Type 0} {an : _} {g : _} {s : _} {d : _} where
  -- the start of each member of these seats that is up, in their order
  abbrev pub starts_of : List (Seat K J I an g s d) → List Event
  starts_of seats = flat_map (λ (seat : Seat K J I an g s d). if is_none seat.node then [] else (Start seat.member ∷ [])) seats

  -- how many entries the longest log of these members has, or so many where none has as many: from 0 on it is `longest`
  abbrev pub longest_of : ℕ → List (Seat K J I an g s d) → ℕ
  longest_of entries seats = fold (λ (most : ℕ) (seat : Seat K J I an g s d). max most (length seat.chain.links.items)) entries seats

  -- the member of a seat, if it has a node, is up, took nothing wrong as true, and has in this world stored what it has stored here
  abbrev pub HasAsHere : (honest : K → Type 0) → World → Seat K J I an g s d → Type 0
  HasAsHere honest w seat = ForSome seat.node (λ node. (node.is_up ≡ true) × honest node.keeper × HasInShort w seat.member (summary_of (durable_of (member_of node))))

  -- lines came to the journal that end no step, and record the starts of these members from each world in which they have stored what they
  -- have stored here
  abbrev pub Files : (contents : J → Option (List ℕ)) → (honest : K → Type 0) → Option (Scribe J) → Option (Scribe J) → List (Seat K J I an g s d) → Type 0
  Files contents honest old new seats = (lines : Lines) × IsContinued contents old new lines × ((language : Language) (n : ℕ) (w : World) → All (HasAsHere honest w) seats → RecordAll language n w (reading_in old) (lines_in lines) (starts_of seats)) ×
      All (IsTrue NobodySays) (lines_in lines)

  -- a seat for each database, whose member is not started yet, with what is told of it
  pub record AreLaid (told : Told) (images : List (Option I)) (seats : List (Seat K J I an g s d)) : Type 0 where
    pub all : length seats ≡ length images
    pub each : (i : ℕ) (seat : Seat K J I an g s d) (image : Option I) → slice_get seats i ≡ Some seat → slice_get images i ≡ Some image → (seat.member ≡ i + 1) × (seat.node ≡ None) × (seat.image ≡ image) × (seat.tale ≡ tale_of told i)

  -- the seats have the members of this world, m of n
  abbrev pub AreMembers : (held : K → Durable → Type 0) (holds : I → Durable → Type 0) → Tables → ℕ → List (Seat K J I an g s d) → World → Type 0
  AreMembers held holds tables n seats w = AreSeated (λ m seat x. HasMember held holds tables n m seat x) seats w.nodes

  -- what becomes of a member that is down, and then sits here: where the seat has a node it is started
  abbrev pub risen : Seat K J I an g s d → Node → Node
  risen seat x = if is_none seat.node then x else started x

  -- a member that had no node was started at its seat, if it has one now
  abbrev pub Starts : (honest : K → Type 0) (held : K → Durable → Type 0) (holds : I → Durable → Type 0) → Tables → ℕ → Seat K J I an g s d → Seat K J I an g s d → Type 0
  Starts honest held holds tables n before after = IsClean honest holds after → before.node ≡ None → (x : Node) → HasMember held holds tables n before.member before x → HasMember held holds tables n before.member after (risen after x)

  -- Those whose database is there are up and have stored what is told of them, and the others are not up. From what the databases hold
  -- their starts lead to these members, and no message is under way.
  pub record AreOpened (honest : K → Type 0) (held : K → Durable → Type 0) (holds : I → Durable → Type 0) (told : Told) (images : List (Option I)) (members : Members K J I an g s d) : Type 0 where
    pub count : length members.seats.items ≡ length images
    pub each : (i : ℕ) (seat : Seat K J I an g s d) (image : Option I) → slice_get members.seats.items i ≡ Some seat → slice_get images i ≡ Some image → (seat.member ≡ i + 1) × ((seat.node ≡ None) ↔ (image ≡ None)) × FitsTale honest (tale_of told i) seat
    pub went : All (IsClean honest holds) members.seats.items → (found : List Node) → AreFound holds images found →
        (v : World) × (goes : Goes (language_of members.schema) (length images) (opened found) v) × (goes.events ≡ starts_of members.seats.items) × (v.sent ≡ []) × AreMembers held holds members.schema (length images) members.seats.items v

  -- From a world to which the starts of these members led, and in which no message is under way, events lead to one that the store is in. The
  -- lines that came to the journal record the starts and these events. Each outcome in them its member told in these. Unless the store is
  -- spent, what a step told for the first time past the longest log of these members stands in its end, and each end is that of the step before.
  pub record Begins (contents : J → Option (List ℕ)) (honest : K → Type 0) (held : K → Durable → Type 0) (holds : I → Durable → Type 0) (members : Members K J I an g s d) (scribe : Scribe J) (store : Store K J I an g s d) : Type 0 where
    pub schema : store.schema ≡ members.schema
    pub count : length store.seats.items ≡ length members.seats.items
    pub lines : Lines
    pub journal : IsContinued contents (Some scribe) store.scribe lines
    pub clean : AreClean honest holds store → All (IsClean honest holds) members.seats.items
    pub went : AreClean honest holds store → (u w : World) (starts : Goes (language_of members.schema) (length members.seats.items) u w) → starts.events ≡ starts_of members.seats.items → w.sent ≡ [] → AreMembers held holds members.schema (length members.seats.items) members.seats.items w →
        (v : World) × (goes : Goes (language_of members.schema) (length members.seats.items) w v) × IsIn held holds store v × AreRecorded (language_of members.schema) (length members.seats.items) u scribe.reading lines (starts.events ++ goes.events) (IsSpent store.scribe) × AreToldIn goes.gave (lines_in lines) ×
        ((IsSpent store.scribe → ⊥) → AreWritten (longest members.seats.items (λ (seat : Seat K J I an g s d). length seat.chain.links.items)) (starts.gave ++ goes.gave) (lines_in lines) store.noted)

  -- while nothing wrong was taken as true, a store is the run of some events from what these databases held
  abbrev pub IsRunFrom : (honest : K → Type 0) (held : K → Durable → Type 0) (holds : I → Durable → Type 0) (images : List (Option I)) → Store K J I an g s d → Type 0
  IsRunFrom honest held holds images store = AreClean honest holds store → (found : List Node) → AreFound holds images found → (events : List Event) × IsRunOf held holds found events store
