-- A core in the words of the definitions of a member and its step.
use Rattle.std.specs.Prelude.{◌≡◌, ℕ, ◌-◌, ◌≤◌, Bool, true, ◌&&◌, nat_lt, nat_le, if◌then◌else◌, List, [], ◌∷◌, ◌++◌, take, drop, length, Option, Some, None, MatchOption}
use Rattle.std.specs.List.{list_all}
use Rattle.raft.specs.declared.state.Core.{Core}
use Rattle.raft.specs.declared.state.Before.{Before}
use Rattle.raft.specs.declared.state.Sending.{Sending}
use Rattle.raft.specs.declared.state.Sending.TheVariants.{Nothing, Back, VoteRequests, Append, Appends, Agreed, Accepted, Seeks, Seals, Learned}
use Rattle.raft.specs.declared.state.Work.{Work}
use Rattle.raft.specs.declared.state.Work.TheVariants.{Local, Delivered}
use Rattle.raft.specs.declared.state.Effect.{Effect as Given}
use Rattle.raft.specs.declared.state.Effect.TheVariants.{Refused, Ignored, Done}
use Rattle.raft.specs.declared.state.Taken.{Taken}
use Rattle.keep.specs.declared.change.Change.{Change}
use Rattle.keep.specs.declared.hard_state.HardState.{HardState}
use Rattle.keep.specs.declared.state.State.{State}
use Rattle.keep.specs.Durable.{Durable, after, tail_of}
use Rattle.keep.specs.Log.{IsLog, IsSmall, is_entry, is_numbered, is_vote}
use Rattle.model.specs.declared.message.Message.{Message}
use Rattle.model.specs.declared.message.Body.{Body}
use Rattle.model.specs.declared.message.Body.TheVariants as model
use Rattle.model.specs.declared.message.Body.TheVariants.{RequestVote, Vote, Reply, Seek, Seal}
use Rattle.model.specs.declared.message.Role.TheVariants.{Follower}
use Rattle.model.specs.declared.message.Input.TheVariants.{Timeout, Beat, Close, Floor, Submit}
use Rattle.model.specs.Stamps.{TIME_LAST, greater}
use Rattle.model.specs.declared.entry.Entry.{Entry}
use Rattle.model.specs.declared.entry.Request.{Request}
use Rattle.model.specs.Lists.{nth_or}
use Rattle.model.specs.Members.{Node, last_term}
use Rattle.model.specs.Steps.{After, Effect, Moves, Refuses, respond, append_to, append_to_all, commits, entries_of, learned, on_message, settled, tell_all}
use Rattle.model.specs.Steps as steps
use Rattle.model.specs.Worlds.{hand}
use Rattle.raft.specs.Saved.{IsSaved}
use Rattle.sqlchecks.specs.Columns.{Tables}
use Rattle.sqlread.specs.Meaning.{language_of}

-- the whole log, where these are the entries that the reader has
abbrev pub log_of : Core → List Entry → List Entry
log_of c stored = take c.log.elsewhere stored ++ c.log.tail.items

-- the member that a core is, where these are the entries that the reader has
abbrev pub node_of : Core → List Entry → Node
node_of c stored = record {
  term = c.term;
  vote = c.vote;
  floor = c.floor;
  log = log_of c stored;
  up = true;
  role = c.role;
  commit = c.commit;
  known = c.known;
  votes = c.votes.items;
  told = c.told;
  next = c.next.items;
  matched = c.matched.items;
  asked = c.asked;
  stored = c.stored.items;
  sealed = c.sealed;
  waiting = c.waiting;
}

-- what of a member is stored besides its log
abbrev pub hard_of : Node → HardState
hard_of x = record { term = x.term; vote = x.vote; floor = x.floor }

abbrev pub hard_in : Core → HardState
hard_in c = record { term = c.term; vote = c.vote; floor = c.floor }

-- the entries that the reader has are there
abbrev pub Reaches : Core → List Entry → Type 0
Reaches c stored = c.log.elsewhere ≤ length stored

-- what is stored is what the member has
pub record IsInStep (c : Core) (d : Durable) : Type 0 where
  pub hard : d.hard ≡ hard_in c
  pub log : d.log ≡ log_of c d.log

-- what is read of a keeper as it starts
pub record IsStateOf (s : State) (d : Durable) : Type 0 where
  pub hard : s.hard ≡ d.hard
  pub length : s.length ≡ length d.log
  pub tail : s.tail.items ≡ tail_of d.log

-- what a change makes of what is stored, if there is one
abbrev pub after_change : Option Change → Durable → Durable
after_change None d = d
after_change (Some c) d = after c d

-- a node with its parts from before it heard of a term
abbrev pub forgotten : Option Before → Node → Node
forgotten None x = x
forgotten (Some b) x = record x { term = b.term; vote = b.vote; role = b.role; known = b.known; votes = b.votes.items; told = b.told; next = b.next.items; matched = b.matched.items; asked = b.asked; stored = b.stored.items }

-- it can go back to what it was: its vote was for one of the group
abbrev pub CanForget : Option Before → Core → Type 0
CanForget None c = Unit {0}
CanForget (Some b) c = is_vote c.members b.vote ≡ true

-- a member that starts with what is stored
abbrev pub opening : HardState → List Entry → Node
opening hard log =
    record { term = hard.term; vote = hard.vote; floor = hard.floor; log = log; up = true; role = Follower; commit = 0; known = None; votes = []; told = None; next = []; matched = []; asked = None; stored = []; sealed = None; waiting = None }

-- its log has one entry more, of its own term
abbrev pub with_entry : ℕ → Option Request → Node → Node
with_entry stamp request x = record x { log = x.log ++ record { term = x.term; stamp = stamp; request = request } ∷ [] }

-- what the definitions say of this work
abbrev pub works : Tables → ℕ → ℕ → Work → Node → Effect
works schema n me (Local input) x = hand (language_of schema) n me input x
works schema n me (Delivered reading message) x = on_message (language_of schema) n me reading message x

-- what a core is after a step, and what it sends
abbrev pub after_of : Core → List Entry → List Message → After
after_of c stored messages = record { node = node_of c stored; sent = messages }

-- what a leader does once the log of a member is known to agree further
abbrev pub agrees : ℕ → ℕ → ℕ → Node → After
agrees n me sender x =
    let y = settled (commits n me x) in
    record {
      node = y;
      sent = if nat_lt x.commit y.commit then append_to_all n y me
          else if nat_le (nth_or y.next sender 0) (length x.log) then (append_to y me sender ∷ []) else [];
    }

-- what a member sends, and what it is then
abbrev pub sends : ℕ → ℕ → Sending → Node → After
sends n me Nothing x = record { node = x; sent = [] }
sends n me (Back to body) x = record { node = x; sent = respond x me to body }
sends n me VoteRequests x = record { node = x; sent = tell_all n x me (RequestVote (length x.log) (last_term x.log)) }
sends n me (Append to) x = record { node = x; sent = append_to x me to ∷ [] }
sends n me Appends x = record { node = x; sent = append_to_all n x me }
sends n me (Agreed sender) x = agrees n me sender x
sends n me (Accepted to matched) x = record { node = settled x; sent = respond x me to (Reply true matched) }
sends n me (Seeks asked) x = record { node = x; sent = tell_all n x me (Seek asked.index asked.floor) }
sends n me (Seals seal) x = record { node = learned seal x; sent = tell_all n x me (Seal seal.index seal.floor) }
sends n me (Learned seal) x = record { node = learned seal x; sent = [] }

-- how many entries are looked at besides those that are sent: one to find what is committed, and one for a seal
abbrev pub settling : Sending → ℕ
settling Nothing = 0
settling (Back to body) = 0
settling VoteRequests = 0
settling (Append to) = 0
settling Appends = 0
settling (Agreed sender) = 2
settling (Accepted to matched) = 1
settling (Seeks asked) = 0
settling (Seals seal) = 1
settling (Learned seal) = 1

abbrev pub asks_after : Given Sending → ℕ
asks_after (Refused refusal) = 0
asks_after Ignored = 0
asks_after (Done sending) = settling sending

-- what no step changes
pub record IsSameSeat (old new : Core) : Type 0 where
  pub schema : new.schema ≡ old.schema
  pub members : new.members ≡ old.members
  pub me : new.me ≡ old.me
  pub is_spent : new.is_spent ≡ old.is_spent

-- what an input or a message came to, in the words of the definitions
abbrev pub outcome_of : Core → List Entry → Given Sending → Effect
outcome_of c stored (Refused refusal) = Refuses refusal
outcome_of c stored Ignored = steps.Nothing
outcome_of c stored (Done sending) = Moves (sends c.members c.me sending (node_of c stored))

-- a refusal changes nothing
abbrev pub SameUnlessDone : Core → Core → List Entry → Given Sending → Type 0
SameUnlessDone old new stored (Refused refusal) = node_of new stored ≡ node_of old stored
SameUnlessDone old new stored Ignored = node_of new stored ≡ node_of old stored
SameUnlessDone old new stored (Done sending) = Unit {0}

-- what a whole step came to, in the same words
abbrev pub effect_of : Core → List Entry → Given Taken → Effect
effect_of c stored (Refused refusal) = Refuses refusal
effect_of c stored Ignored = steps.Nothing
effect_of c stored (Done t) = Moves (after_of c stored t.messages.items)

-- the part of a log that is looked at for a message: of an Append the entry before its entries, and as many as it may carry
abbrev pub Sees : Body → List Entry → List Entry → Type 0
Sees (model.Append prev prev_term es commit) log window = window ≡ take 65 (drop (prev - 1) log)
Sees (RequestVote i t) log window = Unit {0}
Sees (Vote given floor) log window = Unit {0}
Sees (Reply ok matched) log window = Unit {0}
Sees (Seek index floor) log window = Unit {0}
Sees (model.Stored index floor) log window = Unit {0}
Sees (Seal index floor) log window = Unit {0}

-- it is that part of the log, and its texts spell transactions
pub record IsWindow (schema : Tables) (body : Body) (log window : List Entry) : Type 0 where
  pub seen : Sees body log window
  pub reads : list_all (is_entry (language_of schema)) window ≡ true

-- what is stored is as it was
pub record IsStoredAlready (x y : Node) : Type 0 where
  pub hard : hard_of y ≡ hard_of x
  pub log : y.log ≡ x.log

-- what is stored goes from that of x to that of y by this change, which is needed and no greater than it has to be
pub record IsChange (x y : Node) (c : Change) : Type 0 where
  pub hard : c.hard ≡ hard_of y
  pub within : c.kept ≤ length x.log
  pub log : take c.kept x.log ++ c.entries.items ≡ y.log
  -- it keeps the longest beginning that the two logs have in common
  pub most : (k : ℕ) → k ≤ length x.log → take k y.log ≡ take k x.log → k ≤ c.kept
  -- something changes
  pub news : IsStoredAlready x y → ⊥

-- none exactly where what is stored stays
abbrev pub ChangeFits : Node → Node → Option Change → Type 0
ChangeFits x y change = MatchOption change (IsStoredAlready x y) (λ c. IsChange x y c)

-- what an effect tells of the step from x to y
abbrev pub EffectFits : Node → Node → Given Taken → Type 0
EffectFits x y (Refused refusal) = y ≡ x
EffectFits x y Ignored = y ≡ x
EffectFits x y (Done t) = ChangeFits x y t.change × (t.committed_before ≡ x.commit)

-- once the change is stored, that is the log of such a member, and what the core has
pub record IsStorable (new : Core) (change : Option Change) (d : Durable) : Type 0 where
  pub forms : IsLog new.members (language_of new.schema) (after_change change d)
  pub step : IsInStep new (after_change change d)

abbrev pub EffectForms : Core → Durable → Given Taken → Type 0
EffectForms new d (Refused refusal) = IsInStep new d
EffectForms new d Ignored = IsInStep new d
EffectForms new d (Done t) = IsStorable new t.change d

-- how many messages are brought
abbrev pub brought : Work → ℕ
brought (Local input) = 0
brought (Delivered reading message) = 1

-- how many entries are looked at for this
abbrev pub looked_at : Body → ℕ
looked_at (model.Append prev prev_term es commit) = 65
looked_at (RequestVote i t) = 0
looked_at (Vote given floor) = 0
looked_at (Reply ok matched) = 0
looked_at (Seek index floor) = 0
looked_at (model.Stored index floor) = 0
looked_at (Seal index floor) = 0

abbrev pub looks : Work → ℕ
looks (Local input) = 0
looks (Delivered reading message) = looked_at message.body

-- the part of the log that is looked at for this work
abbrev pub LooksAt : Work → List Entry → List Entry → Type 0
LooksAt (Local input) log window = Unit {0}
LooksAt (Delivered reading message) log window = Sees message.body log window

-- the stamp is an instant, the client and the number are in range
abbrev pub is_ranged : Entry → Bool
is_ranged e = nat_le e.stamp TIME_LAST && is_numbered e.request

-- what is brought is in range, as the types of its parts keep
abbrev pub IsRanged : Work → Type 0
IsRanged (Local Timeout) = Unit {0}
IsRanged (Local Beat) = Unit {0}
IsRanged (Local (Close reading)) = Unit {0}
IsRanged (Local (Floor reading)) = Unit {0}
IsRanged (Local (Submit reading request)) = is_numbered (Some request) ≡ true
IsRanged (Delivered reading message) = list_all is_ranged (entries_of message.body) ≡ true

-- no index that is committed is taken back, the log stays up to there, and what is sealed does not fall
pub record Grows (x y : Node) : Type 0 where
  pub commit : x.commit ≤ y.commit
  pub log : take x.commit y.log ≡ take x.commit x.log
  pub sealed : greater x.sealed y.sealed ≡ y.sealed

-- a change of which the numbers fit the store, or none
abbrev pub IsSmallChange : Option Change → Type 0
IsSmallChange None = Unit {0}
IsSmallChange (Some c) = IsSmall c

abbrev pub IsSmallEffect : Given Taken → Type 0
IsSmallEffect (Refused refusal) = Unit {0}
IsSmallEffect Ignored = Unit {0}
IsSmallEffect (Done t) = IsSmallChange t.change

-- how many messages it sends
abbrev pub sent_by : Given Taken → ℕ
sent_by (Refused refusal) = 0
sent_by Ignored = 0
sent_by (Done t) = length t.messages.items

-- the change is how the log goes on after what is stored, and none where that is all and the hard state is as before
abbrev pub IsNews : Core → List Entry → HardState → Option Change → Type 0
IsNews c stored before change = MatchOption change
    (IsSaved c.log × (hard_in c ≡ before))
    (λ x. (x.hard ≡ hard_in c) × (x.kept ≡ c.log.saved) × (take c.log.saved (log_of c stored) ++ x.entries.items ≡ log_of c stored) × (IsSaved c.log → hard_in c ≡ before → ⊥))
