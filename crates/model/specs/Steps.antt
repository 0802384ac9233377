-- One step of one member, by what it is given: Figure 2 of "In search of an understandable consensus algorithm", with
-- fixed members. Unlike there a term, a log and a message have limits, each entry has a stamp that rises, a new leader
-- appends a Close at once, a leader can have a floor stored below which no entry is stamped any more, and a message that no
-- honest member can send changes nothing, the term neither.
use Rattle.std.specs.Prelude.{ℕ, zero, suc, ◌+◌, ◌-◌, ℤ, max, min, Bool, true, false, not, ◌&&◌, ◌||◌, ◌==◌, nat_lt, nat_le, if◌then◌else◌, Option, Some, None, option_map, unwrap_or, is_ok, List, [], ◌∷◌, ◌++◌, map, length, take, drop, replicate}
use Rattle.std.specs.List.{list_all}
use Rattle.std.specs.Option.{option_map_or}
use Rattle.model.specs.Lists.{nth, nth_or, with_nth}
use Rattle.fault.specs.declared.refusal.Refusal.{Refusal}
use Rattle.fault.specs.declared.refusal.Refusal.TheVariants.{NotLeader, TimeFull, LogFull, TermFull}
use Rattle.model.specs.Transactions.{Language}
use Rattle.model.specs.declared.entry.Entry.{Entry}
use Rattle.model.specs.declared.entry.Request.{Request}
use Rattle.model.specs.declared.member.AskedFloor.{AskedFloor}
use Rattle.model.specs.declared.member.SealedFloor.{SealedFloor}
use Rattle.model.specs.Stamps.{TIME_LAST, above, greater, stamp}
use Rattle.model.specs.Logs.{last_entry, closed, least_over}
use Rattle.model.specs.declared.message.Body.{Body}
use Rattle.model.specs.declared.message.Message.{Message}
use Rattle.model.specs.Members.{Node, applied, is_majority, is_in, others, is_leader, is_candidate, term_of, term_at, last_term, has_term, stands, is_up_to_date, agreed}
use Rattle.model.specs.declared.message.Body.TheVariants.{RequestVote, Vote, Append, Reply, Seek, Stored, Seal}
use Rattle.model.specs.declared.message.Role.TheVariants.{Follower, Candidate, Leader}
use Rattle.model.specs.declared.message.Input.{Input}
use Rattle.model.specs.declared.message.Input.TheVariants.{Timeout, Beat, Close, Submit, Floor}

-- the last term, 2^63 - 1
abbrev pub TERM_LAST : ℕ
TERM_LAST = 9223372036854775807

-- how many entries a log may have
abbrev pub LOG_LIMIT : ℕ
LOG_LIMIT = 100000

-- a member after a step, and what it sends, in order of addressee
pub record After : Type 0 where
  pub node : Node
  pub sent : List Message

-- what comes of a step. After a refusal, and after nothing, all is as before
pub data Effect : Type 0 where
  Moves : After → Effect
  Refuses : Refusal → Effect
  Nothing : Effect

-- ---- what is sent

-- the entries from next on, at most 64
abbrev pub append_to : Node → ℕ → ℕ → Message
append_to x me to =
    let prev = nth_or x.next to 0 - 1 in
    record { sender = me; addressee = to; term = x.term; body = Append prev (term_at x.log prev) (take 64 (drop prev x.log)) x.commit }

-- an Append to each other member
abbrev pub append_to_all : ℕ → Node → ℕ → List Message
append_to_all n x me = map (append_to x me) (others n me)

-- one message, back to the sender
abbrev pub respond : Node → ℕ → ℕ → Body → List Message
respond x me to body = record { sender = me; addressee = to; term = x.term; body = body } ∷ []

-- the same to each other member
abbrev pub tell_all : ℕ → Node → ℕ → Body → List Message
tell_all n x me body = map (λ to. record { sender = me; addressee = to; term = x.term; body = body }) (others n me)

-- ---- a message of a greater term: the term is taken, vote and known leader are none, the role is follower

abbrev pub in_term : ℕ → Node → Node
in_term term x = record x { term = term; vote = None; role = Follower; known = None; votes = []; told = None; next = []; matched = []; asked = None; stored = [] }

unfoldable pub hears : ℕ → Node → Node
hears term x = if nat_lt x.term term then in_term term x else x

-- ---- Timeout

-- the leader that it knew stays known
abbrev pub stands_up : ℕ → ℕ → Node → Node
stands_up n me x = record x { term = x.term + 1; vote = Some me; role = Candidate; votes = with_nth (replicate n false) me true; told = None; next = []; matched = []; asked = None; stored = [] }

-- it asks the others for their votes, with the index and the term of its last entry
unfoldable pub time_out : ℕ → ℕ → Node → Effect
time_out n me x =
    if is_leader x.role then Nothing
    else if nat_le TERM_LAST x.term then Refuses TermFull
    else Moves (record { node = stands_up n me x; sent = tell_all n (stands_up n me x) me (RequestVote (length x.log) (last_term x.log)) })

-- ---- Close, Submit

-- no stamp is left above the floor and the last one
abbrev pub is_time_full : Option ℕ → List Entry → Bool
is_time_full floor log = nat_lt TIME_LAST (least_over floor log)

abbrev pub is_log_full : List Entry → Bool
is_log_full log = nat_le LOG_LIMIT (length log)

-- the leader's own log with one entry more
abbrev pub extended : ℤ → Option Request → Node → Node
extended reading request x = record x { log = x.log ++ record { term = x.term; stamp = stamp reading (least_over x.floor x.log); request = request } ∷ [] }

unfoldable pub append_own : ℕ → ℕ → ℤ → Option Request → Node → Effect
append_own n me reading request x =
    if not (is_leader x.role) then Refuses (NotLeader x.known)
    else if is_time_full x.floor x.log then Refuses TimeFull
    else if is_log_full x.log then Refuses LogFull
    else Moves (record { node = extended reading request x; sent = append_to_all n (extended reading request x) me })

-- ---- Floor

-- the greatest of what the clock shows, the last stamp and the floor so far
abbrev pub next_floor : ℤ → Node → ℕ
next_floor reading x = stamp reading (unwrap_or (greater (closed x.log) x.floor) 0)

-- the leader stores it first
abbrev pub asking : ℕ → ℕ → ℤ → Node → Node
asking n me reading x =
    let floor = next_floor reading x in
    record x { floor = Some floor; asked = Some (record { index = length x.log; floor = floor }); stored = with_nth (replicate n false) me true }

unfoldable pub ask_floor : ℕ → ℕ → ℤ → Node → Effect
ask_floor n me reading x =
    if is_leader x.role && has_term (last_entry x.log) x.term
    then Moves (record { node = asking n me reading x; sent = tell_all n x me (Seek (length x.log) (next_floor reading x)) })
    else Nothing

-- ---- Beat, and every local input

abbrev pub on_input : ℕ → ℕ → Input → Node → Effect
on_input n me Timeout x = time_out n me x
on_input n me Beat x = if is_leader x.role then Moves (record { node = x; sent = append_to_all n x me }) else Nothing
on_input n me (Close reading) x = append_own n me reading None x
on_input n me (Floor reading) x = ask_floor n me reading x
on_input n me (Submit reading request) x = append_own n me reading (Some request) x

-- ---- RequestVote

-- of this very term, the vote still free, and the candidate's log at least as up to date
abbrev pub grants : ℕ → ℕ → ℕ → ℕ → Node → Bool
grants sender term last_index last_term_of x = (term == x.term) && option_map_or (λ v. v == sender) x.vote true && is_up_to_date last_term_of last_index x.log

unfoldable pub on_request_vote : ℕ → ℕ → ℕ → ℕ → ℕ → Node → After
on_request_vote me sender term last_index last_term_of x =
    if grants sender term last_index last_term_of x
    then record { node = record x { vote = Some sender }; sent = respond x me sender (Vote true x.floor) }
    else record { node = x; sent = respond x me sender (Vote false x.floor) }

-- ---- Vote

-- one vote more, and the floor that it tells
abbrev pub counted : ℕ → Option ℕ → Node → Node
counted sender floor x = record x { votes = with_nth x.votes sender true; told = greater x.told floor }

-- a majority gave their vote: no floor that they told is above the new leader's, next is the index after the last entry, and
-- nothing is known to match
abbrev pub crowned : ℕ → Node → Node
crowned n x = record x { floor = greater x.floor x.told; role = Leader; votes = []; told = None; next = replicate n (length x.log + 1); matched = replicate n 0; asked = None; stored = [] }

-- a new leader's Close, if a stamp and room are there
abbrev pub opened : ℤ → Node → Node
opened reading x = if is_time_full x.floor x.log || is_log_full x.log then x else extended reading None x

unfoldable pub on_vote : ℕ → ℕ → ℤ → ℕ → ℕ → Bool → Option ℕ → Node → After
on_vote n me reading sender term given floor x =
    let leading = opened reading (crowned n (counted sender floor x)) in
    if given && (term == x.term) && is_candidate x.role
    then (if is_majority n (is_in (counted sender floor x).votes)
    then record { node = leading; sent = append_to_all n leading me }
    else record { node = counted sender floor x; sent = [] })
    else record { node = x; sent = [] }

-- ---- a member learns a seal

-- the seal's entry is applied: it has the seal's term
abbrev pub is_applied : Node → SealedFloor → Bool
is_applied x s = has_term (nth (applied x) s.index) s.term

-- the floor of a seal whose entry is applied
abbrev pub seal_floor : Node → Option SealedFloor → Option ℕ
seal_floor x None = None
seal_floor x (Some s) = if is_applied x s then Some s.floor else None

-- a seal whose entry is not applied
abbrev pub unapplied : Node → Option SealedFloor → Option SealedFloor
unapplied x None = None
unapplied x (Some s) = if is_applied x s then None else Some s

-- the one that waits, unless the new one has a greater floor
abbrev pub longer_waiting : Option SealedFloor → Option SealedFloor → Option SealedFloor
longer_waiting w None = w
longer_waiting None (Some s) = Some s
longer_waiting (Some w) (Some s) = if nat_lt w.floor s.floor then Some s else Some w

-- a seal counts if its entry is applied, and else it waits
abbrev pub learned : SealedFloor → Node → Node
learned s x = record x { sealed = greater x.sealed (seal_floor x (Some s)); waiting = longer_waiting x.waiting (unapplied x (Some s)) }

-- the waiting seal counts once its entry is applied
abbrev pub settled : Node → Node
settled x = record x { sealed = greater x.sealed (seal_floor x x.waiting); waiting = unapplied x x.waiting }

-- ---- Append

-- the log stays where it has an entry of the same term at each index sent; else it is cut before the first index where it has not
abbrev pub accepted : List Entry → ℕ → List Entry → List Entry
accepted log prev es =
    let j = agreed log prev es in
    if j == prev + length es then log else (take j log ++ drop (j - prev) es)

-- the cut is at or below commit
abbrev pub cuts_below : ℕ → List Entry → ℕ → List Entry → Bool
cuts_below commit log prev es = let j = agreed log prev es in nat_lt j (prev + length es) && nat_lt j commit

-- entries go on after an entry: terms not falling and at most the bound, stamps rising
abbrev pub go_on : Option Entry → ℕ → List Entry → Bool
go_on prev bound [] = true
go_on prev bound (e ∷ es) = nat_lt 0 e.term && nat_le (term_of prev) e.term && nat_le e.term bound && nat_le (above (option_map (λ d. d.stamp) prev)) e.stamp && go_on (Some e) bound es

-- the entries go on after the one at prev, and those that are new after the last one that stays
abbrev pub continues : List Entry → ℕ → ℕ → List Entry → Bool
continues log prev bound es =
    let j = agreed log prev es in
    go_on (nth log prev) bound es && go_on (nth log j) bound (drop (j - prev) es)

-- a candidate becomes follower; the sender is the known leader
abbrev pub follows : ℕ → Node → Node
follows sender x = record x { role = Follower; known = Some sender; votes = []; told = None; next = []; matched = []; asked = None; stored = [] }

-- the entries are taken, and commit goes up to what the leader has committed of them
abbrev pub takes_entries : ℕ → List Entry → ℕ → Node → Node
takes_entries prev es commit x = record x { log = accepted x.log prev es; commit = max x.commit (min commit (prev + length es)) }

-- Nothing: no honest member can send it
unfoldable pub on_append : ℕ → ℕ → ℕ → ℕ → ℕ → List Entry → ℕ → Node → Effect
on_append me sender term prev prev_term es commit x =
    if nat_lt term x.term then Moves (record { node = x; sent = respond x me sender (Reply false 0) })
    else if is_leader x.role then Nothing
    else if not (stands x.log prev prev_term) then Moves (record { node = follows sender x; sent = respond x me sender (Reply false 0) })
    else if not (continues x.log prev term es) || cuts_below x.commit x.log prev es || nat_lt LOG_LIMIT (length (accepted x.log prev es)) then Nothing
    else Moves (record { node = settled (takes_entries prev es commit (follows sender x)); sent = respond x me sender (Reply true (prev + length es)) })

-- ---- Reply

-- the greatest index up to n that passes, or 0
abbrev pub greatest : (ℕ → Bool) → ℕ → ℕ
greatest p zero = 0
greatest p (suc n) = if p (suc n) then suc n else greatest p n

-- the leader, which matches all its log, or a member that matches up to i
abbrev pub holds_to : ℕ → List ℕ → ℕ → ℕ → Bool
holds_to me matched i m = (m == me) || nat_le i (nth_or matched m 0)

-- an entry of the leader's own term that a majority match
abbrev pub is_matched : ℕ → ℕ → Node → ℕ → Bool
is_matched n me x i = (term_at x.log i == x.term) && is_majority n (holds_to me x.matched i)

-- match never falls, and next comes after it
abbrev pub noted : ℕ → ℕ → Node → Node
noted sender matched x =
    let most = max (nth_or x.matched sender 0) matched in
    record x { matched = with_nth x.matched sender most; next = with_nth x.next sender (most + 1) }

-- commit goes up to the last such entry, if there is one above it
abbrev pub commits : ℕ → ℕ → Node → Node
commits n me x = record x { commit = max x.commit (greatest (is_matched n me x) (length x.log)) }

-- Nothing: a matched beyond the log, which no honest member can send
unfoldable pub on_reply_yes : ℕ → ℕ → ℕ → ℕ → Node → Effect
on_reply_yes n me sender matched x =
    let y = settled (commits n me (noted sender matched x)) in
    if nat_lt (length x.log) matched then Nothing
    else Moves (record {
      node = y;
      sent = if nat_lt x.commit y.commit then append_to_all n y me
          else if nat_le (nth_or y.next sender 0) (length x.log) then (append_to y me sender ∷ []) else [];
    })

-- next falls by one, and not below 1
abbrev pub stepped_back : ℕ → Node → Node
stepped_back sender x = record x { next = with_nth x.next sender (max 1 (nth_or x.next sender 0 - 1)) }

unfoldable pub on_reply_no : ℕ → ℕ → Node → Effect
on_reply_no me sender x = Moves (record { node = stepped_back sender x; sent = append_to (stepped_back sender x) me sender ∷ [] })

abbrev pub on_reply : ℕ → ℕ → ℕ → ℕ → Bool → ℕ → Node → Effect
on_reply n me sender term ok matched x =
    if is_leader x.role && (term == x.term)
    then (if ok then on_reply_yes n me sender matched x else on_reply_no me sender x)
    else Moves (record { node = x; sent = [] })

-- ---- Seek

-- the floor is stored; a candidate becomes follower, and the sender is the known leader
abbrev pub stores : ℕ → ℕ → Node → Node
stores sender floor x = record (follows sender x) { floor = greater x.floor (Some floor) }

-- Nothing: no honest member can send it
unfoldable pub on_seek : ℕ → ℕ → ℕ → ℕ → ℕ → Node → Effect
on_seek me sender term index floor x =
    if nat_lt term x.term then Moves (record { node = x; sent = [] })
    else if is_leader x.role then Nothing
    else Moves (record { node = stores sender floor x; sent = respond x me sender (Stored index floor) })

-- ---- Stored

-- this is what a leader asks for
abbrev pub asks_for : Option AskedFloor → ℕ → ℕ → Bool
asks_for asked index floor = option_map_or (λ a. (a.index == index) && (a.floor == floor)) asked false

-- one member more has stored it
abbrev pub with_stored : ℕ → Node → Node
with_stored sender x = record x { stored = with_nth x.stored sender true }

-- the member that makes them a majority makes the seal
unfoldable pub on_stored : ℕ → ℕ → ℕ → ℕ → ℕ → ℕ → Node → After
on_stored n me sender term index floor x =
    let y = with_stored sender x in
    if is_leader x.role && (term == x.term) && asks_for x.asked index floor
    then (if not (is_majority n (is_in x.stored)) && is_majority n (is_in y.stored)
    then record { node = learned (record { term = term; index = index; floor = floor }) y; sent = tell_all n y me (Seal index floor) }
    else record { node = y; sent = [] })
    else record { node = x; sent = [] }

-- ---- every message

abbrev pub on_body : ℕ → ℕ → ℤ → ℕ → ℕ → Body → Node → Effect
on_body n me reading sender term (RequestVote last_index last_term_of) x = Moves (on_request_vote me sender term last_index last_term_of x)
on_body n me reading sender term (Vote given floor) x = Moves (on_vote n me reading sender term given floor x)
on_body n me reading sender term (Append prev prev_term es commit) x = on_append me sender term prev prev_term es commit x
on_body n me reading sender term (Reply ok matched) x = on_reply n me sender term ok matched x
on_body n me reading sender term (Seek index floor) x = on_seek me sender term index floor x
on_body n me reading sender term (Stored index floor) x = Moves (on_stored n me sender term index floor x)
on_body n me reading sender term (Seal index floor) x = Moves (record { node = learned (record { term = term; index = index; floor = floor }) x; sent = [] })

abbrev pub entries_of : Body → List Entry
entries_of (Append prev prev_term es commit) = es
entries_of body = []

-- an index that a log can have, and an instant
abbrev pub can_be_asked : ℕ → ℕ → Bool
can_be_asked index floor = nat_lt 0 index && nat_le index LOG_LIMIT && nat_le floor TIME_LAST

abbrev pub is_floor : Option ℕ → Bool
is_floor floor = option_map_or (λ t. nat_le t TIME_LAST) floor true

-- the floor that it tells is an instant, and the index can be that of an entry
abbrev pub floor_fits : Body → Bool
floor_fits (Vote given floor) = is_floor floor
floor_fits (Seek index floor) = can_be_asked index floor
floor_fits (Seal index floor) = can_be_asked index floor
floor_fits body = true

-- the entry's text spells a transaction
abbrev pub spells : Language → Option Request → Bool
spells language request = option_map_or (λ r. is_ok (language.reads r.text)) request true

-- what an honest member can send to this one, save where the table comes to more
abbrev pub is_honest : Language → ℕ → ℕ → Message → Bool
is_honest language n me m =
    (m.addressee == me) && nat_lt 0 m.sender && nat_le m.sender n && not (m.sender == me) && nat_lt 0 m.term && nat_le m.term TERM_LAST
    && nat_le (length (entries_of m.body)) 64 && go_on None m.term (entries_of m.body) && list_all (λ e. spells language e.request) (entries_of m.body) && floor_fits m.body

abbrev pub on_message : Language → ℕ → ℕ → ℤ → Message → Node → Effect
on_message language n me reading m x =
    if is_honest language n me m
    then on_body n me reading m.sender m.term m.body (hears m.term x)
    else Nothing
