-- Worked rows of floors and seals: short runs in which a time closes without an entry, found by computing the definitions.
use Rattle.std.specs.Prelude.{◌≡◌, ℕ, ◌+◌, pos, Bool, true, false, Some, None, List, [], ◌∷◌, ◌++◌, length, map}
use Rattle.model.specs.declared.entry.Told.{Told}
use Rattle.model.specs.declared.member.SealedFloor.{SealedFloor}
use Rattle.fault.specs.declared.refusal.Refusal.TheVariants.{NotClosed}
use Rattle.model.specs.Logs.{outcome, closed}
use Rattle.model.specs.declared.message.Message.{Message}
use Rattle.model.specs.declared.message.Body.{Body}
use Rattle.model.specs.Members.{Node, applied, closed_time}
use Rattle.model.specs.Kept.{node_after}
use Rattle.model.specs.declared.message.Role.TheVariants.{Candidate}
use Rattle.model.specs.declared.message.Body.TheVariants.{RequestVote, Vote, Seek, Stored, Seal}
use Rattle.model.specs.declared.message.Input.TheVariants.{Timeout, Beat, Close, Submit, Floor}
use Rattle.model.specs.Steps.{Moves, Nothing, ask_floor}
use Rattle.model.specs.Worlds.{World, Event, Output, Hand, Deliver, Stop, Start, Ask, Sent, Applied, Refused, Answered, fresh, led_world, run, Gives, GivesAll}
use Rattle.model.specs.Rows.{dept, request, close_entry, request_entry, deliveries, base, after, vote, append, retried, from_dept, on_body_from, is_taken, messages_of, holder, leading}

-- ---- after the base run, in which member 1 is elected and its Close is applied by all

-- a message that has this body, of term 1
abbrev pub said_by : ℕ → ℕ → Body → Message
said_by from to body = record { sender = from; addressee = to; term = 1; body = body }

-- member 1 asks for the floor 500 and all hear of all: Seek, Stored and Seal
abbrev pub floor_events : List Event
floor_events = Hand 1 (Floor (pos 500)) ∷ deliveries 13 6

-- the floor is sealed when the first of two members has stored it
abbrev pub SealedQuietly : Type 0
SealedQuietly =
    GivesAll dept 3 (after base) floor_events
    ((Sent 13 (said_by 1 2 (Seek 1 500)) ∷ Sent 14 (said_by 1 3 (Seek 1 500)) ∷ [])
    ∷ (Sent 15 (said_by 2 1 (Stored 1 500)) ∷ []) ∷ (Sent 16 (said_by 3 1 (Stored 1 500)) ∷ [])
    ∷ (Sent 17 (said_by 1 2 (Seal 1 500)) ∷ Sent 18 (said_by 1 3 (Seal 1 500)) ∷ []) ∷ [] ∷ [] ∷ [] ∷ [])
    × Gives dept 3 (after (base ++ floor_events)) (Ask 3 (from_dept None)) (Answered 3 (record { last = 500; rows = [] }) ∷ [])
    × (map (λ x. length x.log) (after (base ++ floor_events)).nodes ≡ 1 ∷ 1 ∷ 1 ∷ [])

-- a clock that is behind the floor: a request is stamped above it all the same
abbrev pub floored : List Event
floored = base ++ floor_events ++ (Hand 1 (Submit (pos 100) (request 7 1)) ∷ deliveries 19 2)

abbrev pub StampedAbove : Type 0
StampedAbove =
    let told : Told = record { index = 2; client = 7; number = 1; outcome = outcome dept 501 (request 7 1) (close_entry 1 100 ∷ []) } in
    Gives dept 3 (after floored) (Deliver 21 (pos 100))
    (Sent 23 (append 2 2 1 2 []) ∷ Sent 24 (append 3 1 1 2 (request_entry 1 501 7 1 ∷ [])) ∷ Applied 1 told ∷ [])

-- the leader stops, and member 2 is elected: the vote tells the floor, and the new leader's Close is stamped above it
abbrev pub floor_failover : List Event
floor_failover = base ++ floor_events ++ (Stop 1 ∷ Hand 2 Timeout ∷ deliveries 19 1)

abbrev pub VoteTellsFloor : Type 0
VoteTellsFloor =
    Gives dept 3 (after floor_failover) (Deliver 20 (pos 200)) (Sent 21 (record { sender = 3; addressee = 2; term = 2; body = Vote true (Some 500) }) ∷ [])
    × (map (λ x. x.log) (run dept 3 (after floor_failover) (Deliver 20 (pos 200) ∷ Deliver 21 (pos 200) ∷ [])).nodes
    ≡ (close_entry 1 100 ∷ []) ∷ (close_entry 1 100 ∷ close_entry 2 501 ∷ []) ∷ (close_entry 1 100 ∷ []) ∷ [])

-- the vote is of a member that stored the floor, the new leader is one that did not
abbrev pub floor_told : List Event
floor_told = base ++ (Hand 1 (Floor (pos 500)) ∷ Deliver 14 (pos 500) ∷ Stop 1 ∷ Hand 2 Timeout ∷ Deliver 17 (pos 200) ∷ Deliver 18 (pos 200) ∷ [])

abbrev pub FloorFromVotes : Type 0
FloorFromVotes =
    (map (λ x. x.floor) (after floor_told).nodes ≡ Some 500 ∷ Some 500 ∷ Some 500 ∷ [])
    × (map (λ x. x.log) (after floor_told).nodes ≡ (close_entry 1 100 ∷ []) ∷ (close_entry 1 100 ∷ close_entry 2 501 ∷ []) ∷ (close_entry 1 100 ∷ []) ∷ [])

-- a member that has applied nothing does not count the seal; it waits until the entry is applied
abbrev pub waiting_seal : List Event
waiting_seal = base ++ (Stop 3 ∷ Start 3 ∷ []) ++ floor_events

abbrev pub SealWaits : Type 0
SealWaits =
    Gives dept 3 (after waiting_seal) (Ask 3 (from_dept None)) (Refused 3 (NotClosed None) ∷ [])
    × Gives dept 3 (after (waiting_seal ++ (Hand 1 Beat ∷ deliveries 19 2))) (Ask 3 (from_dept None)) (Answered 3 (record { last = 500; rows = [] }) ∷ [])

-- the floor outlives a restart, what was sealed does not
abbrev pub FloorIsKept : Type 0
FloorIsKept =
    let again : List Event = base ++ floor_events ++ (Stop 2 ∷ Start 2 ∷ []) in
    (map (λ x. x.floor) (after again).nodes ≡ Some 500 ∷ Some 500 ∷ Some 500 ∷ []) × (map (λ x. x.sealed) (after again).nodes ≡ Some 500 ∷ None ∷ Some 500 ∷ [])

-- a Floor at a follower, and at a leader whose last entry is of an older term, does nothing; a Seek of a smaller term has no effect
abbrev pub NoFloor : Type 0
NoFloor =
    Gives dept 3 (after base) (Hand 2 (Floor (pos 500))) [] × (map (λ x. x.floor) (run dept 3 (after base) (Hand 2 (Floor (pos 500)) ∷ [])).nodes ≡ None ∷ None ∷ None ∷ [])
    × (ask_floor 3 2 (pos 500) (leading 2) ≡ Nothing) × (is_taken (ask_floor 3 2 (pos 500) (leading 1)) ≡ true)
    × (on_body_from 1 2 1 (Seek 1 500) (fresh 2 None) ≡ Moves (record { node = fresh 2 None; sent = [] }))

-- an index of 0 or past the limit, a floor past the last instant, a Seek of its own term at a leader
abbrev pub StrangeFloors : Type 0
StrangeFloors =
    let taken : Body → Node → Bool = λ body x. is_taken (on_body_from 1 2 1 body x) in
    (taken (Seek 1 500) holder ≡ true) × (taken (Seek 0 500) holder ≡ false) × (taken (Seek 100001 500) holder ≡ false) × (taken (Seek 1 253402214400000000) holder ≡ false)
    × (taken (Seal 1 500) holder ≡ true) × (taken (Seal 0 500) holder ≡ false) × (taken (Seal 100001 500) holder ≡ false) × (taken (Seal 1 253402214400000000) holder ≡ false)
    × (taken (Vote true (Some 253402214399999999)) holder ≡ true) × (taken (Vote true (Some 253402214400000000)) holder ≡ false)
    × (taken (Seek 1 500) (leading 1) ≡ false) × (taken (Seek 1 500) (leading 2) ≡ true)

-- without a Floor all is as it was: nobody has a floor, and nobody tells one
abbrev pub NoFloorAsked : Type 0
NoFloorAsked =
    (map (λ x. x.floor) (after retried).nodes ≡ None ∷ None ∷ None ∷ []) × (map (λ x. x.sealed) (after retried).nodes ≡ None ∷ None ∷ None ∷ [])
    × (map closed_time (after retried).nodes ≡ map (λ x. closed (applied x)) (after retried).nodes)
    × Gives dept 3 (after (base ++ (Stop 1 ∷ Hand 2 Timeout ∷ []))) (Deliver 14 (pos 100)) (Sent 15 (vote 3 2 2 true) ∷ [])

-- ---- five members, of which member 1 leads, has an entry of its own and asks for the floor 500

abbrev pub five : List Event → World
five events = run dept 5 (led_world 5) events

abbrev pub asked_of_five : List Event
asked_of_five = Hand 1 (Close (pos 100)) ∷ Hand 1 (Floor (pos 500)) ∷ []

-- messages to the other four, after so many
abbrev pub sealed_to_four : ℕ → ℕ → List Output
sealed_to_four k floor = Sent (k + 1) (said_by 1 2 (Seal 1 floor)) ∷ Sent (k + 2) (said_by 1 3 (Seal 1 floor)) ∷ Sent (k + 3) (said_by 1 4 (Seal 1 floor)) ∷ Sent (k + 4) (said_by 1 5 (Seal 1 floor)) ∷ []

-- with five members one Stored seals nothing, however often it comes; a second member's does, and a third's says nothing more
abbrev pub SecondStoredSeals : Type 0
SecondStoredSeals =
    let stored_by : ℕ → Message = λ m. said_by m 1 (Stored 1 500) in
    GivesAll dept 5 (five asked_of_five) (deliveries 5 3 ++ Deliver 9 (pos 100) ∷ deliveries 9 3)
    ((Sent 9 (stored_by 2) ∷ []) ∷ (Sent 10 (stored_by 3) ∷ []) ∷ (Sent 11 (stored_by 4) ∷ []) ∷ [] ∷ [] ∷ sealed_to_four 11 500 ∷ [] ∷ [])

-- who stored 500 does not count for 600, whenever that is told
abbrev pub CountedAnew : Type 0
CountedAnew =
    GivesAll dept 5 (five (asked_of_five ++ Deliver 5 (pos 100) ∷ Deliver 9 (pos 100) ∷ Hand 1 (Floor (pos 600)) ∷ []))
    (Deliver 11 (pos 100) ∷ Deliver 14 (pos 100) ∷ Deliver 9 (pos 100) ∷ Deliver 10 (pos 100) ∷ Deliver 15 (pos 100) ∷ [])
    ((Sent 14 (said_by 3 1 (Stored 1 600)) ∷ []) ∷ [] ∷ [] ∷ (Sent 15 (said_by 2 1 (Stored 1 600)) ∷ []) ∷ sealed_to_four 15 600 ∷ [])

-- ---- a seal is counted by index and term

-- Member 3 leads term 1 and has three entries that nobody else hears of. Member 1 leads term 2 by the vote of member 2, and seals 500
-- at its Close, the first entry of term 2, of which no other member hears. Then member 3 leads term 3, and its four entries are decided.
abbrev pub two_first_entries : List Event
two_first_entries =
    Hand 3 Timeout ∷ Deliver 1 (pos 100) ∷ Deliver 3 (pos 100) ∷ Hand 3 (Submit (pos 100) (request 7 1)) ∷ Hand 3 (Submit (pos 100) (request 7 2))
    ∷ Hand 1 Timeout ∷ Deliver 10 (pos 100) ∷ Deliver 12 (pos 100) ∷ Hand 1 (Floor (pos 500)) ∷ Deliver 15 (pos 100) ∷ Deliver 17 (pos 100) ∷ Deliver 19 (pos 100)
    ∷ Hand 3 Timeout ∷ Deliver 21 (pos 100) ∷ Deliver 22 (pos 100) ∷ deliveries 24 8

-- the entry that member 3 has applied at the seal's index is of another term: the seal waits, and nothing is sealed
abbrev pub SealOfAnotherTerm : Type 0
SealOfAnotherTerm =
    let seal : SealedFloor = record { term = 2; index = 1; floor = 500 } in
    (map applied (after two_first_entries).nodes ≡ [] ∷ [] ∷ (close_entry 1 100 ∷ request_entry 1 101 7 1 ∷ request_entry 1 102 7 2 ∷ close_entry 3 501 ∷ []) ∷ [])
    × (map (λ x. x.waiting) (after two_first_entries).nodes ≡ Some seal ∷ None ∷ Some seal ∷ []) × (map (λ x. x.sealed) (after two_first_entries).nodes ≡ None ∷ None ∷ None ∷ [])

-- ---- single messages, brought to member 2 of three

-- a seal that waits gives way to one of a greater floor alone, and outlives a greater term
abbrev pub GreatestWaits : Type 0
GreatestWaits =
    let seal : ℕ → ℕ → Node → Node = λ index floor x. node_after x (on_body_from 1 2 1 (Seal index floor) x) in
    let waits : SealedFloor = record { term = 1; index = 1; floor = 600 } in
    let told : Node = seal 1 600 (seal 1 500 (fresh 1 None)) in
    let later : Node = node_after told (on_body_from 3 2 2 (RequestVote 0 0) told) in
    ((seal 1 500 (fresh 1 None)).waiting ≡ Some (record waits { floor = 500 })) × (told.waiting ≡ Some waits) × ((seal 1 500 told).waiting ≡ Some waits) × ((seal 2 600 told).waiting ≡ Some waits)
    × (later.term ≡ 2) × (later.waiting ≡ Some waits)

-- a candidate for term 1, which voted for itself
abbrev pub standing : Node
standing = record (fresh 1 (Some 2)) { role = Candidate; votes = false ∷ true ∷ false ∷ [] }

-- a candidate that is asked for a floor follows
abbrev pub SeekFollows : Type 0
SeekFollows = on_body_from 1 2 1 (Seek 1 500) standing ≡ Moves (record { node = record (fresh 1 (Some 2)) { floor = Some 500; known = Some 1 }; sent = said_by 2 1 (Stored 1 500) ∷ [] })

-- a vote that is not given tells the floor too, and is not counted
abbrev pub RefusedVoteTells : Type 0
RefusedVoteTells =
    (messages_of (on_body_from 1 2 1 (RequestVote 0 0) (record (fresh 1 (Some 3)) { floor = Some 500 })) ≡ said_by 2 1 (Vote false (Some 500)) ∷ [])
    × (on_body_from 1 2 1 (Vote false (Some 500)) standing ≡ Moves (record { node = standing; sent = [] }))
