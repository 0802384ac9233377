-- Worked rows of runs: short lists of events, and what comes of them, found by computing the definitions.
use Rattle.std.specs.Prelude.{◌≡◌, ℕ, pos, negsuc, zero, suc, ◌+◌, Bool, true, false, Option, Some, None, Result, Ok, Err, List, [], ◌∷◌, ◌++◌, length, map, replicate, codes}
use Rattle.model.specs.declared.value.Value.TheVariants.{Number, Text}
use Rattle.fault.specs.declared.refusal.Refusal.TheVariants.{Syntax, Gap, Old as OldRequest, NotLeader, NotClosed, TimeFull, TermFull, NodeDown}
use Rattle.fault.specs.declared.refusal.Refusal.{Refusal}
use Rattle.model.specs.Transactions.{Language, Statement, Insert}
use Rattle.model.specs.declared.entry.Entry.{Entry}
use Rattle.model.specs.declared.entry.Request.{Request}
use Rattle.model.specs.declared.entry.Told.{Told}
use Rattle.model.specs.Logs.{Outcome, outcome, closed, before_index}
use Rattle.model.specs.Stamps.{stamp}
use Rattle.model.specs.Texts.{instant_text}
use Rattle.model.specs.Answers.{Select, SystemTime, as_of, IsAnswer}
use Rattle.model.specs.declared.message.Message.{Message}
use Rattle.model.specs.declared.message.Body.{Body}
use Rattle.model.specs.Members.{Node, applied}
use Rattle.model.specs.Kept.{node_after}
use Rattle.model.specs.declared.message.Role.TheVariants.{Candidate, Leader}
use Rattle.model.specs.declared.message.Body.TheVariants.{Vote, Append, Reply}
use Rattle.model.specs.declared.message.Input.TheVariants.{Timeout, Beat, Close, Submit}
use Rattle.model.specs.Steps.{Effect, Moves, Refuses, Nothing, time_out, on_message}
use Rattle.model.specs.Worlds.{World, Event, Hand, Deliver, Stop, Start, Torn, Ask, Sent, Applied, Refused, Answered, fresh, new_world, led_world, run, Gives, GivesAll}
use Rattle.model.specs.declared.event.Job.TheVariants.{Delivery}
use Rattle.model.specs.declared.event.Left.{Left}
use Rattle.model.specs.declared.event.Left.TheVariants.{Old, New}
use Rattle.model.specs.Agreement.{decided}

-- Dept, where a text of one byte is an INSERT of key 3 with that byte for its name, over the days 5 and 6, and no other text spells
abbrev pub reads_byte : List ℕ → Result (List Statement) Refusal
reads_byte [] = Err (Syntax 0)
reads_byte (b ∷ []) = Ok (record { table = 0; action = Insert (Number (pos 3) ∷ []) (Text (b ∷ []) ∷ []) (record { start = 5; end = 7 }) } ∷ [])
reads_byte (b ∷ c ∷ more) = Err (Syntax 1)

abbrev pub dept : Language
dept = record { tables = 1; name = λ n. codes "Dept"; references = []; reads = reads_byte }

abbrev pub request : ℕ → ℕ → Request
request client number = record { client = client; number = number; text = 84 ∷ [] }

abbrev pub close_entry : ℕ → ℕ → Entry
close_entry term stamp = record { term = term; stamp = stamp; request = None }

abbrev pub request_entry : ℕ → ℕ → ℕ → ℕ → Entry
request_entry term stamp client number = record { term = term; stamp = stamp; request = Some (request client number) }

-- so many messages, from the k-th on, each delivered once
abbrev pub deliveries : ℕ → ℕ → List Event
deliveries k zero = []
deliveries k (suc more) = Deliver k (pos 100) ∷ deliveries (k + 1) more

-- member 1 is elected, and its Close is applied by all
abbrev pub base : List Event
base = Hand 1 Timeout ∷ deliveries 1 12

abbrev pub after : List Event → World
after events = run dept 3 (new_world 3) events

abbrev pub FirstClose : Type 0
FirstClose =
    (map applied (after base).nodes ≡ (close_entry 1 100 ∷ []) ∷ (close_entry 1 100 ∷ []) ∷ (close_entry 1 100 ∷ []) ∷ [])
    × (closed (decided dept 3 (new_world 3) base) ≡ Some 100) × (length (after base).sent ≡ 12)

-- the table is empty AS OF 100
abbrev pub FirstAnswer : Type 0
FirstAnswer = IsAnswer dept (record { table = 0; time = as_of 100; passes = λ row. true }) (close_entry 1 100 ∷ []) (record { last = 100; rows = [] })

abbrev pub vote : ℕ → ℕ → ℕ → Bool → Message
vote from to term given = record { sender = from; addressee = to; term = term; body = Vote given None }

-- the step in which member 2 gave its vote was cut short; then it starts again, and member 3 asks for its vote
abbrev pub torn_vote : Left → List Event
torn_vote left = Hand 1 Timeout ∷ Torn 2 (Delivery 1 (pos 0)) left ∷ Start 2 ∷ Hand 3 Timeout ∷ []

-- a vote that was stored is not given again
abbrev pub TornVote : Type 0
TornVote =
    Gives dept 3 (after (torn_vote New)) (Deliver 4 (pos 0)) (Sent 5 (vote 2 3 1 false) ∷ [])
    × Gives dept 3 (after (torn_vote Old)) (Deliver 4 (pos 0)) (Sent 5 (vote 2 3 1 true) ∷ [])

-- four requests more
abbrev pub five_entries : List Event
five_entries = base ++ (Hand 1 (Submit (pos 100) (request 7 1)) ∷ Hand 1 (Submit (pos 100) (request 7 2)) ∷ Hand 1 (Submit (pos 100) (request 7 3)) ∷ Hand 1 (Submit (pos 100) (request 7 4)) ∷ deliveries 13 28)

-- the one-entry Append to member 3, again: it is acknowledged, and cuts nothing
abbrev pub RepeatedAppend : Type 0
RepeatedAppend =
    (map (λ x. x.commit) (after five_entries).nodes ≡ 5 ∷ 5 ∷ 5 ∷ [])
    × (map (λ x. length (applied x)) (run dept 3 (after five_entries) (Deliver 10 (pos 100) ∷ [])).nodes ≡ 5 ∷ 5 ∷ 5 ∷ [])
    × Gives dept 3 (after five_entries) (Deliver 10 (pos 100)) (Sent (length (after five_entries).sent + 1) (record { sender = 3; addressee = 1; term = 1; body = Reply true 1 }) ∷ [])

-- member 1 leads from the start, and one INSERT is told of at all three members
abbrev pub one_insert : List Event
one_insert = Hand 1 (Submit (pos 100) (request 7 1)) ∷ deliveries 1 8

abbrev pub inserted_entry : List Entry
inserted_entry = request_entry 1 100 7 1 ∷ []

abbrev pub append : ℕ → ℕ → ℕ → ℕ → List Entry → Message
append to prev prev_term commit entries = record { sender = 1; addressee = to; term = 1; body = Append prev prev_term entries commit }

abbrev pub yes : ℕ → Message
yes from = record { sender = from; addressee = 1; term = 1; body = Reply true 1 }

abbrev pub told_insert : Told
told_insert = record { index = 1; client = 7; number = 1; outcome = outcome dept 100 (request 7 1) [] }

abbrev pub DecidedInsert : Type 0
DecidedInsert =
    (decided dept 3 (led_world 3) one_insert ≡ inserted_entry)
    × GivesAll dept 3 (led_world 3) one_insert
    ((Sent 1 (append 2 0 0 0 inserted_entry) ∷ Sent 2 (append 3 0 0 0 inserted_entry) ∷ [])
    ∷ (Sent 3 (yes 2) ∷ []) ∷ (Sent 4 (yes 3) ∷ [])
    ∷ (Sent 5 (append 2 1 1 1 []) ∷ Sent 6 (append 3 0 0 1 inserted_entry) ∷ Applied 1 told_insert ∷ []) ∷ []
    ∷ (Sent 7 (yes 2) ∷ Applied 2 told_insert ∷ []) ∷ (Sent 8 (yes 3) ∷ Applied 3 told_insert ∷ []) ∷ [] ∷ [] ∷ [])

-- a text that spells nothing, a follower that knows no leader, and one that knows it
abbrev pub RefusedSubmit : Type 0
RefusedSubmit =
    Gives dept 3 (led_world 3) (Hand 1 (Submit (pos 100) (record { client = 7; number = 1; text = [] }))) (Refused 1 (Syntax 0) ∷ [])
    × Gives dept 3 (led_world 3) (Hand 2 (Submit (pos 100) (request 7 1))) (Refused 2 (NotLeader None) ∷ [])
    × Gives dept 3 (after base) (Hand 2 (Submit (pos 100) (request 7 1))) (Refused 2 (NotLeader (Some 1)) ∷ [])
    × Gives dept 3 (after (torn_vote New)) (Hand 3 (Submit (pos 100) (request 7 1))) (Refused 3 (NotLeader None) ∷ [])

-- no text has a statement, so that each first is accepted at its instant
abbrev pub idle : Language
idle = record dept { reads = λ text. Ok [] }

-- client 9 asks under numbers 1 to k, at the instants 101 to 100 + k; from the newest back
abbrev pub numbered : ℕ → List Entry
numbered zero = []
numbered (suc k) = request_entry 1 (101 + k) 9 (suc k) ∷ numbered k

-- 3 leaves a gap, and is not used up; after 1 to 8, 1 has its outcome again; after 1 to 9 it is old, 2 to 9 have theirs, and 11 leaves a gap
abbrev pub Numbers : Type 0
Numbers =
    let again : ℕ → ℕ → Outcome = λ k number. outcome idle 200 (request 9 number) (numbered k) in
    (outcome dept 101 (request 9 3) (close_entry 1 100 ∷ []) ≡ Err Gap)
    × (outcome idle 104 (request 9 1) (request_entry 1 103 9 2 ∷ request_entry 1 102 9 1 ∷ request_entry 1 101 9 3 ∷ close_entry 1 100 ∷ []) ≡ Ok 102)
    × (again 8 1 ≡ Ok 101) × (again 9 1 ≡ Err OldRequest) × (again 9 2 ≡ Ok 102) × (again 9 9 ≡ Ok 109) × (again 9 11 ≡ Err Gap)

-- ---- elections, conflicts and restarts

-- member 2 takes a request that member 3 never heard of; then member 3 stands
abbrev pub shorter_log : List Event
shorter_log = base ++ (Hand 1 (Submit (pos 100) (request 7 1)) ∷ Deliver 13 (pos 100) ∷ Hand 3 Timeout ∷ [])

abbrev pub ShorterLog : Type 0
ShorterLog = Gives dept 3 (after shorter_log) (Deliver 17 (pos 100)) (Sent 18 (vote 2 3 2 false) ∷ [])

-- it stands for member 2 instead, which leads term 2; member 3 lacks an entry, and is sent it; the request comes a second time
abbrev pub failover : List Event
failover = base ++ (Hand 1 (Submit (pos 100) (request 7 1)) ∷ Deliver 13 (pos 100) ∷ Stop 1 ∷ Hand 2 Timeout ∷ deliveries 15 8)

abbrev pub retried : List Event
retried = failover ++ (Deliver 23 (pos 100) ∷ Hand 2 (Submit (pos 100) (request 7 1)) ∷ deliveries 24 12)

abbrev pub retried_entries : List Entry
retried_entries = close_entry 1 100 ∷ request_entry 1 101 7 1 ∷ close_entry 2 102 ∷ request_entry 2 103 7 1 ∷ []

abbrev pub RetryAfterFailover : Type 0
RetryAfterFailover =
    (decided dept 3 (new_world 3) retried ≡ retried_entries)
    × (outcome dept 103 (request 7 1) (before_index retried_entries 4) ≡ outcome dept 101 (request 7 1) (close_entry 1 100 ∷ []))
    × Gives dept 3 (after failover) (Deliver 23 (pos 100))
    (Sent 24 (record { sender = 2; addressee = 1; term = 2; body = Append 2 1 (close_entry 2 102 ∷ []) 3 })
    ∷ Sent 25 (record { sender = 2; addressee = 3; term = 2; body = Append 3 2 [] 3 })
    ∷ Applied 2 (record { index = 2; client = 7; number = 1; outcome = outcome dept 101 (request 7 1) (close_entry 1 100 ∷ []) }) ∷ [])

-- member 1 has a Close that nobody else heard of; member 2 leads term 2, and its Close takes that one's place
abbrev pub conflict : List Event
conflict = Hand 1 Timeout ∷ Deliver 1 (pos 100) ∷ Deliver 3 (pos 100) ∷ Stop 1 ∷ Hand 2 Timeout ∷ Deliver 7 (pos 120) ∷ Deliver 8 (pos 120) ∷ Start 1 ∷ []

abbrev pub Conflict : Type 0
Conflict =
    (map (λ x. x.log) (after conflict).nodes ≡ (close_entry 1 100 ∷ []) ∷ (close_entry 2 120 ∷ []) ∷ [] ∷ [])
    × (map (λ x. x.log) (run dept 3 (after conflict) (Deliver 9 (pos 0) ∷ [])).nodes ≡ (close_entry 2 120 ∷ []) ∷ (close_entry 2 120 ∷ []) ∷ [] ∷ [])

-- after a restart nothing is applied; a Beat brings it back, and it is told of again
abbrev pub restarted : List Event
restarted = one_insert ++ (Stop 3 ∷ Start 3 ∷ [])

abbrev pub Restart : Type 0
Restart =
    (map applied (run dept 3 (led_world 3) restarted).nodes ≡ inserted_entry ∷ inserted_entry ∷ [] ∷ [])
    × Gives dept 3 (run dept 3 (led_world 3) restarted) (Hand 1 Beat) (Sent 9 (append 2 1 1 1 []) ∷ Sent 10 (append 3 1 1 1 []) ∷ [])
    × Gives dept 3 (run dept 3 (led_world 3) (restarted ++ (Hand 1 Beat ∷ []))) (Deliver 10 (pos 0)) (Sent 11 (yes 3) ∷ Applied 3 told_insert ∷ [])

-- ---- clocks and limits

abbrev pub Clocks : Type 0
Clocks =
    (stamp (pos 50) 101 ≡ 101) × (stamp (pos 500) 101 ≡ 500) × (stamp (negsuc 4) 101 ≡ 101)
    × (stamp (pos 253402214399999999) 101 ≡ 253402214399999999) × (stamp (pos 253402214400000000) 101 ≡ 101)
    × Gives dept 3 (run dept 3 (led_world 3) (Hand 1 (Close (pos 253402214399999999)) ∷ [])) (Hand 1 (Close (pos 0))) (Refused 1 TimeFull ∷ [])
    × (time_out 3 2 (fresh 9223372036854775807 None) ≡ Refuses TermFull)

-- ---- Ask, and events that cannot be

abbrev pub from_dept : Option SystemTime → Select
from_dept time = record { table = 0; time = time; passes = λ row. true }

abbrev pub Asks : Type 0
Asks =
    Gives dept 3 (new_world 3) (Ask 1 (from_dept (Some (as_of 0)))) (Refused 1 (NotClosed None) ∷ [])
    × Gives dept 3 (after base) (Ask 2 (from_dept (Some (as_of 101)))) (Refused 2 (NotClosed (Some (instant_text 100))) ∷ [])
    × Gives dept 3 (after base) (Ask 3 (from_dept None)) (Answered 3 (record { last = 100; rows = [] }) ∷ [])
    × Gives dept 3 (after (base ++ (Stop 3 ∷ []))) (Ask 3 (from_dept None)) (Refused 3 NodeDown ∷ [])

-- which members are up after base and these events
abbrev pub up_after : List Event → List Bool
up_after events = map (λ x. x.up) (after (base ++ events)).nodes

abbrev pub NoSuchEvent : Type 0
NoSuchEvent =
    (up_after (Stop 0 ∷ Stop 4 ∷ Start 1 ∷ Torn 3 (Delivery 1 (pos 0)) New ∷ Torn 1 (Delivery 13 (pos 0)) Old ∷ []) ≡ true ∷ true ∷ true ∷ [])
    × (up_after (Torn 2 (Delivery 1 (pos 0)) New ∷ Stop 2 ∷ []) ≡ true ∷ false ∷ true ∷ [])
    × Gives dept 3 (after base) (Deliver 13 (pos 0)) [] × Gives dept 3 (after base) (Deliver 0 (pos 0)) [] × Gives dept 3 (after base) (Hand 4 Timeout) []
    × Gives dept 3 (after (base ++ (Stop 2 ∷ []))) (Deliver 1 (pos 0)) (Refused 2 NodeDown ∷ [])

-- a message that no honest member can send changes nothing, its term neither
abbrev pub DishonestMessage : Type 0
DishonestMessage =
    let said : ℕ → Body → Effect = λ term body. on_message dept 3 2 (pos 0) (record { sender = 1; addressee = 2; term = term; body = body }) (fresh 0 None) in
    let misread : Entry = record { term = 5; stamp = 7; request = Some (record { client = 7; number = 1; text = [] }) } in
    (said 0 (Append 0 0 [] 0) ≡ Nothing) × (said 5 (Append 0 0 (misread ∷ []) 0) ≡ Nothing)
    × (said 5 (Append 0 0 (close_entry 3 8 ∷ close_entry 2 9 ∷ []) 0) ≡ Nothing) × (said 5 (Append 0 0 (close_entry 3 8 ∷ close_entry 3 8 ∷ []) 0) ≡ Nothing)
    × (said 5 (Append 0 0 (close_entry 6 8 ∷ []) 0) ≡ Nothing)
    × (said 5 (Append 0 0 [] 0) ≡ Moves (record { node = record (fresh 5 None) { known = Some 1 }; sent = record { sender = 2; addressee = 1; term = 5; body = Reply true 0 } ∷ [] }))

-- ---- single messages, brought to member 2 of three

abbrev pub on_body_from : ℕ → ℕ → ℕ → Body → Node → Effect
on_body_from from to term body x = on_message dept 3 2 (pos 0) (record { sender = from; addressee = to; term = term; body = body }) x

abbrev pub is_taken : Effect → Bool
is_taken (Moves a) = true
is_taken (Refuses refusal) = false
is_taken Nothing = false

abbrev pub messages_of : Effect → List Message
messages_of (Moves a) = a.sent
messages_of (Refuses refusal) = []
messages_of Nothing = []

-- a follower with one entry, which is committed
abbrev pub holder : Node
holder = record (fresh 1 None) { log = close_entry 1 100 ∷ []; commit = 1 }

-- a leader of this term with an entry of term 1, which nobody is known to match
abbrev pub leading : ℕ → Node
leading term = record (fresh term (Some 2)) { log = close_entry 1 100 ∷ []; role = Leader; next = replicate 3 2; matched = replicate 3 0 }

-- so many entries, with rising stamps
abbrev pub rising : ℕ → List Entry
rising zero = []
rising (suc k) = rising k ++ close_entry 1 k ∷ []

-- wrong addressee, unknown or own sender, a term past the last, 65 entries
abbrev pub StrangeMessage : Type 0
StrangeMessage =
    let vote_from : ℕ → ℕ → ℕ → Bool = λ from to term. is_taken (on_body_from from to term (Vote false None) (fresh 1 None)) in
    (vote_from 1 2 1 ≡ true) × (vote_from 1 3 1 ≡ false) × (vote_from 0 2 1 ≡ false) × (vote_from 4 2 1 ≡ false) × (vote_from 2 2 1 ≡ false)
    × (vote_from 1 2 9223372036854775807 ≡ true) × (vote_from 1 2 9223372036854775808 ≡ false)
    × (is_taken (on_body_from 1 2 1 (Append 0 0 (rising 64) 0) (fresh 1 None)) ≡ true) × (is_taken (on_body_from 1 2 1 (Append 0 0 (rising 65) 0) (fresh 1 None)) ≡ false)

-- entries that do not go on from the one before, also from none; a cut of what is committed; an Append of its own term, and a matched past the log, at a leader
abbrev pub StrangeEntries : Type 0
StrangeEntries =
    let append_at : ℕ → ℕ → Entry → Bool = λ term prev e. is_taken (on_body_from 1 2 term (Append prev prev (e ∷ []) 0) holder) in
    (append_at 1 1 (close_entry 1 101) ≡ true) × (append_at 1 1 (close_entry 1 100) ≡ false)
    × (append_at 1 0 (close_entry 1 50) ≡ true) × (append_at 2 0 (close_entry 2 120) ≡ false)
    × (is_taken (on_body_from 1 2 2 (Append 0 0 (close_entry 2 120 ∷ []) 0) (record holder { commit = 0 })) ≡ true)
    × (is_taken (on_body_from 1 2 1 (Append 1 1 [] 0) (leading 1)) ≡ false) × (is_taken (on_body_from 1 2 1 (Append 1 1 [] 0) (leading 2)) ≡ true)
    × (is_taken (on_body_from 1 2 1 (Reply true 2) (leading 1)) ≡ false) × (is_taken (on_body_from 1 2 1 (Reply true 1) (leading 1)) ≡ true)

abbrev pub after_reply : Bool → ℕ → Node → Node
after_reply ok matched x = node_after x (on_body_from 1 2 x.term (Reply ok matched) x)

-- copies of an entry of an older term commit nothing; an entry of the leader's own term commits both
abbrev pub OlderTerm : Type 0
OlderTerm =
    let both : Node = record (leading 2) { log = close_entry 1 100 ∷ close_entry 2 101 ∷ [] } in
    ((after_reply true 1 (leading 1)).commit ≡ 1) × ((after_reply true 1 (leading 2)).commit ≡ 0)
    × ((after_reply true 1 both).commit ≡ 0) × ((after_reply true 2 both).commit ≡ 2)

-- next falls by one with each no, not below 1, and may fall to match or below it; a yes puts it after match again
abbrev pub NextFalls : Type 0
NextFalls =
    let matched : Node = after_reply true 1 (leading 1) in
    (matched.next ≡ 2 ∷ 2 ∷ 2 ∷ []) × ((after_reply false 0 matched).next ≡ 1 ∷ 2 ∷ 2 ∷ [])
    × ((after_reply false 0 (after_reply false 0 matched)).next ≡ 1 ∷ 2 ∷ 2 ∷ []) × ((after_reply false 0 matched).matched ≡ 1 ∷ 0 ∷ 0 ∷ [])
    × ((after_reply true 0 (after_reply false 0 matched)).next ≡ 2 ∷ 2 ∷ 2 ∷ [])

-- with no stamp left a new leader appends no Close, and still sends an Append to all
abbrev pub NoStampLeft : Type 0
NoStampLeft =
    let candidate : Node = record (fresh 2 (Some 2)) { log = close_entry 1 253402214399999999 ∷ []; role = Candidate; votes = false ∷ true ∷ false ∷ [] } in
    let effect : Effect = on_body_from 1 2 2 (Vote true None) candidate in
    let heartbeat : ℕ → Message = λ to. record { sender = 2; addressee = to; term = 2; body = Append 1 1 [] 0 } in
    ((node_after candidate effect).role ≡ Leader) × ((node_after candidate effect).log ≡ candidate.log) × (messages_of effect ≡ heartbeat 1 ∷ heartbeat 3 ∷ [])

-- a member that times out still knows the leader that it knew; one that hears of a greater term knows none
abbrev pub KnownLeader : Type 0
KnownLeader =
    Gives dept 3 (after (base ++ (Hand 3 Timeout ∷ []))) (Hand 3 (Submit (pos 100) (request 7 1))) (Refused 3 (NotLeader (Some 1)) ∷ [])
    × Gives dept 3 (after (base ++ (Hand 3 Timeout ∷ Deliver 14 (pos 100) ∷ []))) (Hand 2 (Submit (pos 100) (request 7 1))) (Refused 2 (NotLeader None) ∷ [])
